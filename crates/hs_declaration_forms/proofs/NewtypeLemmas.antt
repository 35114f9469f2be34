-- The returns of the reader of `newtype`, over plain variables.
use Rattle.std.proofs.Common.{◌≡◌, ℕ, Bool, true, false, List, [], ◌∷◌, ◌++◌, length, refl, sym, ap, ◌∙◌, arith}
use Rattle.std.proofs.Common.{true≢false, append_assoc, subst}
use Rattle.std.specs.Prelude.{map, not, max, ◌&&◌, Option, None}
use Rattle.std.proofs.lemmas.Bool.{and_from, not-true}
use Rattle.hs_forms.specs.Reading.{Form, begins}
use Rattle.hs_forms.specs.Limits.{Within}
use Rattle.hs_forms.specs.Answers.{Accepts, Rejects, Fails}
use Rattle.hs_forms.specs.declared.fault.Fault.{Fault}
use Rattle.hs_forms.proofs.LimitLemmas.{and_left, and_right, within_zero}
use Rattle.hs_tokens.specs.declared.terminal.Terminal.{Terminal}
use Rattle.hs_tokens.specs.declared.terminal.Terminal.TheVariants as t
use Rattle.hs_tokens.specs.declared.word.Word.TheVariants as w
use Rattle.hs_trees.specs.Types.{starts_atype, is_atype}
use Rattle.hs_trees.specs.declared.types.ATypeTree.{ATypeTree}
use Rattle.hs_trees.proofs.TypeLayerLemmas.{atype_starts}
use Rattle.hs_modules.specs.Words.{has_dot, is_con}
use Rattle.hs_modules.specs.ModuleTokens.{top_decl_tokens}
use Rattle.hs_modules.specs.ModuleForms.{is_unqualified}
use Rattle.hs_modules.specs.declared.names.ConTree.{ConTree}
use Rattle.hs_modules.specs.declared.names.ConTree.TheVariants as c
use Rattle.hs_modules.specs.declared.declarations.TopDeclTree.{TopDeclTree}
use Rattle.hs_modules.specs.declared.declarations.TopDeclTree.TheVariants as v
use Rattle.hs_headers.specs.Lists.{Ts}
use Rattle.hs_headers.specs.Names.{is_own_con, is_var}
use Rattle.hs_headers.proofs.ExportLemmas.{none, passes_none}
use Rattle.hs_headers.proofs.TurnLemmas.{Turn, turn_fails, stuck}
use Rattle.hs_declarations.specs.Declarations.{is_equals}
use Rattle.hs_declarations.proofs.DeclarationLemmas.{head_front, same_params, behind_params, goes_on, ends}
use Rattle.hs_expression_forms.specs.Trees.{within, Took, Failed, Follows}
use Rattle.hs_expression_forms.proofs.TreesLemmas.{row_took, row_first, row_second}
use Rattle.hs_block_forms.specs.Combined.{narrowed}
use Rattle.hs_block_forms.specs.Blocks.{ends_item}
use Rattle.hs_block_forms.proofs.CombinedLemmas.{narrowed_took, narrowed_failed}
use Rattle.hs_declaration_forms.specs.Datatypes.{newtypes, newtype_bodies, cons, con_form, atypes, is_newtype_word}
use Rattle.hs_declaration_forms.proofs.FlatLemmas.{flat_took, flat_failed}
use Rattle.hs_declaration_forms.proofs.ConLemmas.{con_flat}
use Rattle.hs_declaration_forms.proofs.FieldLemmas.{least_atype, least_atype_formed, least_atype_deep, atype_depth_is}
use Rattle.hs_declaration_forms.proofs.NamedLemmas.{Named, named_none, named_open, turned_took, at_front, goes}
use Rattle.hs_declaration_forms.proofs.NamedLemmas.{no_equals}

abbrev pub Body : Type 0
Body = ConTree × ATypeTree

abbrev newtype_word : Terminal
newtype_word = t.Word w.Newtype

-- a constructor and its field
body_follows : Follows cons (narrowed atypes ends_item) starts_atype
body_follows = record {
  starts = atype_starts;
  apart = λ x k h. refl;
  least = least_atype;
  least_formed = least_atype_formed;
  least_deep = least_atype_deep;
}

module _ (limit : Option ℕ) (ts : Ts) where
  pub body_con_failed : (e : Fault) → Fails con_form ts e → Failed newtype_bodies limit ts e
  body_con_failed e r =
      row_first cons (narrowed atypes ends_item) starts_atype body_follows limit ts e
      (flat_failed con_form cons con_flat limit ts e r)

  module _ (x : ConTree) (here : Ts) (m : ℕ) (acc : Accepts con_form (λ x. 0) ts x here m) where
    pub body_failed : (e : Fault) → Failed atypes limit here e → Failed newtype_bodies limit ts e
    body_failed e r =
        row_second cons (narrowed atypes ends_item) starts_atype body_follows limit ts x here m e
        (flat_took con_form cons con_flat limit ts x here m acc)
        (narrowed_failed atypes ends_item (λ x k h. refl) limit here e r)

    pub body_took : (y : ATypeTree) (rest : Ts) (n : ℕ) → Took atypes limit here y rest n →
        Took newtype_bodies limit ts (x, y) rest n
    body_took y rest n q =
        let same : max m n ≡ n = omega (arith, acc.measured_is) in
        subst (Took newtype_bodies limit ts (x, y) rest) same
        (row_took cons (narrowed atypes ends_item) starts_atype body_follows limit ts x here m y rest n
        (flat_took con_form cons con_flat limit ts x here m acc)
        (narrowed_took atypes ends_item (λ x k h. refl) limit here y rest n q))

own : (name : List ℕ) (b : Bool) → is_unqualified name && b ≡ true → has_dot name ≡ false
own name b e = not-true (has_dot name) (and_left (is_unqualified name) b e)

module _ (limit : Option ℕ) where
  abbrev form : Form Terminal TopDeclTree
  form = within newtypes limit

  newtype_deep : (name : List ℕ) (ps : List (List ℕ)) (p : Body) →
      newtypes.deep (v.Newtype name ps p.0 p.1) ≡ newtype_bodies.deep p
  newtype_deep name ps p = omega (arith, atype_depth_is p.1)

  least_body : Body
  least_body = (c.Id [], least_atype)

  least_good : (name : List ℕ) (ps : List (List ℕ)) → has_dot name ≡ false →
      form.Good (v.Newtype name ps (c.Id []) least_atype)
  least_good name ps e = (
    and_from (is_unqualified name && (true && is_atype least_atype)) true
        (and_from (is_unqualified name) _ (ap not e) least_atype_formed) refl,
    (let same : newtypes.deep (v.Newtype name ps (c.Id []) least_atype) ≡ 0 =
        omega (arith, atype_depth_is least_atype, least_atype_deep) in
        subst (Within limit) (sym same) (within_zero limit)),
  )

  pub newtype_named : Named form newtype_word
  newtype_named = record {
    shape = λ x g. shape x g.0;
    least = λ name e. (
      v.Newtype name [] (c.Id []) least_atype,
      t.Equals ∷ newtype_bodies.tokens (c.Id [], least_atype),
      least_good name [] e,
      refl,
    );
  }
    where
      shape : (x : TopDeclTree) → newtypes.formed x ≡ true →
          (name : List ℕ) × (more : Ts) × (top_decl_tokens x ≡ newtype_word ∷ t.Con name ∷ more)
          × (has_dot name ≡ false)
      shape (v.Newtype name ps con a) g = (
        name,
        map t.Var ps ++ t.Equals ∷ newtype_bodies.tokens (con, a),
        refl,
        own name _ (and_left (is_unqualified name && _) true g),
      )
      shape (v.EmptyData name ps) g = absurd (true≢false (sym (and_right _ false g)))
      shape (v.Data name ps con cs) g = absurd (true≢false (sym (and_right _ false g)))
      shape (v.Synonym name ps y) g = absurd (true≢false (sym (and_right _ false g)))
      shape (v.Decl d) g = absurd (true≢false (sym (and_right _ false g)))

  pub newtype_none : (ts : Ts) → begins is_newtype_word ts ≡ false → Rejects form ts (length ts)
  newtype_none ts p = named_none form newtype_word newtype_named is_newtype_word refl ts p

  pub newtype_no_name : (ts next : Ts) → ts ≡ newtype_word ∷ next → begins is_own_con next ≡ false →
      Rejects form ts (length next)
  newtype_no_name ts next at p = named_open form newtype_word newtype_named ts next at p

  module _ (name : List ℕ) (ps : List (List ℕ)) (unqualified : has_dot name ≡ false) where
    abbrev part : Form Terminal Body
    part = within newtype_bodies limit

    abbrev make : Body → TopDeclTree
    make p = v.Newtype name ps p.0 p.1

    newtype_turn : Turn form (head_front newtype_word name ps) none false part make
    newtype_turn = record {
      tokens = λ p good. ap (λ l. newtype_word ∷ t.Con name ∷ l)
          (sym (append_assoc (map t.Var ps) (t.Equals ∷ []) (newtype_bodies.tokens p)));
      good = λ p good. (
        and_from (is_unqualified name && (is_con p.0 && is_atype p.1)) true
            (and_from (is_unqualified name) _ (ap not unqualified) good.0) refl,
        subst (Within limit) (sym (newtype_deep name ps p)) good.1,
      );
      extends = λ p k e. e;
      only = λ x s after h good quiet e. only x s after good quiet e;
    }
      where
        only : (x : TopDeclTree) (s after : Ts) → form.Good x → begins goes after ≡ false →
            head_front newtype_word name ps ++ s ≡ top_decl_tokens x ++ after →
            (p : Body) × (x ≡ make p) × part.Good p
        only (v.Newtype m qs con a) s after good quiet e =
            let is : m ≡ name = cc in
            let tails : (map t.Var ps ++ t.Equals ∷ []) ++ s
            ≡ (map t.Var qs ++ t.Equals ∷ newtype_bodies.tokens (con, a)) ++ after = cc in
            let same = same_params ps qs s (newtype_bodies.tokens (con, a)) after tails in (
              (con, a),
              (λ i. v.Newtype (is i) (same i) con a),
              (
                and_right (is_unqualified m) _ (and_left (is_unqualified m && _) true good.0),
                subst (Within limit) (newtype_deep m qs (con, a)) good.1,
              ),
            )
        only (v.EmptyData m qs) s after good quiet e = absurd (true≢false (sym (and_right _ false good.0)))
        only (v.Data m qs con cs) s after good quiet e = absurd (true≢false (sym (and_right _ false good.0)))
        only (v.Synonym m qs y) s after good quiet e = absurd (true≢false (sym (and_right _ false good.0)))
        only (v.Decl d) s after good quiet e = absurd (true≢false (sym (and_right _ false good.0)))

    module _ (ts next behind rest : Ts) (at : ts ≡ newtype_word ∷ next) (named : next ≡ t.Con name ∷ behind)
        (params : behind ≡ map t.Var ps ++ rest) where
      pub newtype_open : begins is_var rest ≡ false → begins is_equals rest ≡ false → Rejects form ts (length rest)
      newtype_open p r =
          stuck form goes_on ts (newtype_word ∷ t.Con name ∷ map t.Var ps) rest
          (t.Equals ∷ newtype_bodies.tokens (c.Id [], least_atype)) (v.Newtype name ps (c.Id []) least_atype)
          (least_good name ps unqualified) refl (λ x s after good quiet e. follows x s after good e)
          (at ∙ ap (λ l. newtype_word ∷ l) (named ∙ ap (λ l. t.Con name ∷ l) params)) (ends rest p r)
        where
          follows : (x : TopDeclTree) (s after : Ts) → form.Good x →
              newtype_word ∷ t.Con name ∷ (map t.Var ps ++ s) ≡ top_decl_tokens x ++ after →
              begins goes_on s ≡ true
          follows (v.Newtype m qs con a) s after good e =
              let tails : map t.Var ps ++ s ≡ (map t.Var qs ++ t.Equals ∷ newtype_bodies.tokens (con, a)) ++ after = cc
              in
              behind_params ps qs s (newtype_bodies.tokens (con, a)) after tails
          follows (v.EmptyData m qs) s after good e = absurd (true≢false (sym (and_right _ false good.0)))
          follows (v.Data m qs con cs) s after good e = absurd (true≢false (sym (and_right _ false good.0)))
          follows (v.Synonym m qs y) s after good e = absurd (true≢false (sym (and_right _ false good.0)))
          follows (v.Decl d) s after good e = absurd (true≢false (sym (and_right _ false good.0)))

      pub newtype_fails : (body : Ts) → rest ≡ t.Equals ∷ body → (e : Fault) → Failed newtype_bodies limit body e →
          Failed newtypes limit ts e
      newtype_fails body shut e r =
          turn_fails form (head_front newtype_word name ps) none false part make newtype_turn ts body e
          (at_front newtype_word name ps ts next behind rest body at named params shut) (passes_none body) r

      pub newtype_took : (body : Ts) → rest ≡ t.Equals ∷ body → (p : Body) (after : Ts) (d : ℕ) →
          Took newtype_bodies limit body p after d → Took newtypes limit ts (make p) after d
      newtype_took body shut p after d acc =
          turned_took form (head_front newtype_word name ps) none false part make newtype_turn newtypes.deep
          newtype_bodies.deep (newtype_deep name ps) ts body p after d
          (at_front newtype_word name ps ts next behind rest body at named params shut) (passes_none body) acc
