-- The returns of the reader of data types, over plain variables.
use Rattle.std.proofs.Common.{◌≡◌, ℕ, ◌<◌, Bool, true, false, List, [], ◌∷◌, ◌++◌, length, refl, sym, ap, ◌∙◌, arith}
use Rattle.std.proofs.Common.{true≢false, append_assoc, subst, length-append}
use Rattle.std.specs.Prelude.{map, not, max, ◌&&◌, Option, None}
use Rattle.std.proofs.lemmas.Bool.{and_from, not-true}
use Rattle.hs_forms.specs.Reading.{Form, begins, SameStart}
use Rattle.hs_forms.specs.Limits.{Within}
use Rattle.hs_forms.specs.Answers.{Rejects}
use Rattle.hs_forms.specs.declared.fault.Fault.{Fault}
use Rattle.hs_forms.proofs.FormLemmas.{begins_same}
use Rattle.hs_forms.proofs.LimitLemmas.{and_left, and_right, within_zero}
use Rattle.hs_tokens.specs.declared.terminal.Terminal.{Terminal}
use Rattle.hs_tokens.specs.declared.terminal.Terminal.TheVariants as t
use Rattle.hs_tokens.specs.declared.word.Word.TheVariants as w
use Rattle.hs_modules.specs.Words.{has_dot}
use Rattle.hs_modules.specs.Modules.{extent_of_constr, extent_of_top_decl}
use Rattle.hs_modules.specs.ModuleTokens.{top_decl_tokens, constr_tokens}
use Rattle.hs_modules.specs.ModuleForms.{is_unqualified, is_constr, is_top_decl}
use Rattle.hs_modules.specs.declared.declarations.ConstrTree.{ConstrTree}
use Rattle.hs_modules.specs.declared.declarations.TopDeclTree.{TopDeclTree}
use Rattle.hs_modules.specs.declared.declarations.TopDeclTree.TheVariants as v
use Rattle.hs_headers.specs.Lists.{Ts}
use Rattle.hs_headers.specs.Names.{is_own_con, is_var}
use Rattle.hs_headers.proofs.ExportLemmas.{none, passes_none}
use Rattle.hs_headers.proofs.TurnLemmas.{Turn, turn_fails, tree_ok}
use Rattle.hs_declarations.specs.Declarations.{is_data_word, is_equals}
use Rattle.hs_declarations.proofs.DeclarationLemmas.{head_front, same_params, behind_params, goes_on, ends}
use Rattle.hs_expression_forms.specs.Trees.{within, Took, Failed}
use Rattle.hs_expression_forms.proofs.OperandLayerLemmas.{deepest_of}
use Rattle.hs_block_forms.specs.Combined.{narrowed}
use Rattle.hs_block_forms.specs.Blocks.{ends_item}
use Rattle.hs_block_forms.proofs.CombinedLemmas.{narrowed_took, narrowed_failed}
use Rattle.hs_declaration_forms.specs.Datatypes.{datas, constr_lists, is_data}
use Rattle.hs_declaration_forms.proofs.NamedLemmas.{Named, named_none, named_open, turned_took, at_front, goes}
use Rattle.hs_declaration_forms.proofs.NamedLemmas.{no_equals, same_ends, no_var}

abbrev pub Constrs : Type 0
Constrs = ConstrTree × List ConstrTree

abbrev data_word : Terminal
data_word = t.Word w.Data

constrs_quiet : (p : Constrs) (k : Terminal) → ends_item k ≡ true → constr_lists.extends p k ≡ false
constrs_quiet p t.Semicolon h = refl
constrs_quiet p t.RightBrace h = refl
constrs_quiet p _ h = absurd (true≢false (sym h))

own : (name : List ℕ) (b : Bool) → is_unqualified name && b ≡ true → has_dot name ≡ false
own name b e = not-true (has_dot name) (and_left (is_unqualified name) b e)

module _ (limit : Option ℕ) where
  abbrev form : Form Terminal TopDeclTree
  form = within datas limit

  empty_good : (name : List ℕ) (ps : List (List ℕ)) → has_dot name ≡ false → form.Good (v.EmptyData name ps)
  empty_good name ps e = (and_from (is_unqualified name) true (ap not e) refl, within_zero limit)

  pub data_named : Named form data_word
  data_named = record {
    shape = λ x g. shape x g.0;
    least = λ name e. (v.EmptyData name [], [], empty_good name [] e, refl);
  }
    where
      shape : (x : TopDeclTree) → datas.formed x ≡ true →
          (name : List ℕ) × (more : Ts) × (top_decl_tokens x ≡ data_word ∷ t.Con name ∷ more) × (has_dot name ≡ false)
      shape (v.EmptyData name ps) g = (name, map t.Var ps, refl, own name true g)
      shape (v.Data name ps c cs) g = (
        name,
        map t.Var ps ++ t.Equals ∷ constr_lists.tokens (c, cs),
        refl,
        own name _ (and_left (is_unqualified name && _) true g),
      )
      shape (v.Newtype name ps c a) g = absurd (true≢false (sym (and_right _ false g)))
      shape (v.Synonym name ps y) g = absurd (true≢false (sym (and_right _ false g)))
      shape (v.Decl d) g = absurd (true≢false (sym (and_right _ false g)))

  pub data_none : (ts : Ts) → begins is_data_word ts ≡ false → Rejects form ts (length ts)
  data_none ts p = named_none form data_word data_named is_data_word refl ts p

  pub data_no_name : (ts next : Ts) → ts ≡ data_word ∷ next → begins is_own_con next ≡ false →
      Rejects form ts (length next)
  data_no_name ts next at p = named_open form data_word data_named ts next at p

  module _ (name : List ℕ) (ps : List (List ℕ)) (unqualified : has_dot name ≡ false) where
    abbrev part : Form Terminal Constrs
    part = within (narrowed constr_lists ends_item) limit

    abbrev make : Constrs → TopDeclTree
    make p = v.Data name ps p.0 p.1

    data_deep : (p : Constrs) → datas.deep (make p) ≡ constr_lists.deep p
    data_deep p = ap (λ n. max (extent_of_constr p.0).depth n) (deepest_of extent_of_constr p.1)

    data_turn : Turn form (head_front data_word name ps) none false part make
    data_turn = record {
      tokens = λ p good. ap (λ l. data_word ∷ t.Con name ∷ l)
          (sym (append_assoc (map t.Var ps) (t.Equals ∷ []) (constr_lists.tokens p)));
      good = λ p good. (
        and_from (is_unqualified name && (is_constr p.0 && _)) true
            (and_from (is_unqualified name) _ (ap not unqualified) good.0) refl,
        subst (Within limit) (sym (data_deep p)) good.1,
      );
      extends = λ p k e. e;
      only = λ x s after h good quiet e. only x s after good quiet e;
    }
      where
        only : (x : TopDeclTree) (s after : Ts) → form.Good x → begins goes after ≡ false →
            head_front data_word name ps ++ s ≡ top_decl_tokens x ++ after →
            (p : Constrs) × (x ≡ make p) × part.Good p
        only (v.EmptyData m qs) s after good quiet e =
            let tails : (map t.Var ps ++ t.Equals ∷ []) ++ s ≡ map t.Var qs ++ after = cc in
            absurd (no_equals ps qs s after tails quiet)
        only (v.Data m qs c cs) s after good quiet e =
            let is : m ≡ name = cc in
            let tails : (map t.Var ps ++ t.Equals ∷ []) ++ s
            ≡ (map t.Var qs ++ t.Equals ∷ constr_lists.tokens (c, cs)) ++ after = cc in
            let same = same_params ps qs s (constr_lists.tokens (c, cs)) after tails in (
              (c, cs),
              (λ i. v.Data (is i) (same i) c cs),
              (
                and_right (is_unqualified m) _ (and_left (is_unqualified m && _) true good.0),
                subst (Within limit) (ap (λ n. max (extent_of_constr c).depth n) (deepest_of extent_of_constr cs))
                    good.1,
              ),
            )
        only (v.Newtype m qs c a) s after good quiet e = absurd (true≢false (sym (and_right _ false good.0)))
        only (v.Synonym m qs y) s after good quiet e = absurd (true≢false (sym (and_right _ false good.0)))
        only (v.Decl d) s after good quiet e = absurd (true≢false (sym (and_right _ false good.0)))

    module _ (ts next behind rest : Ts) (at : ts ≡ data_word ∷ next) (named : next ≡ t.Con name ∷ behind)
        (params : behind ≡ map t.Var ps ++ rest) where
      pub data_fails : (body : Ts) → rest ≡ t.Equals ∷ body → (e : Fault) → Failed constr_lists limit body e →
          Failed datas limit ts e
      data_fails body shut e r =
          turn_fails form (head_front data_word name ps) none false part make data_turn ts body e
          (at_front data_word name ps ts next behind rest body at named params shut) (passes_none body)
          (narrowed_failed constr_lists ends_item constrs_quiet limit body e r)

      pub data_took : (body : Ts) → rest ≡ t.Equals ∷ body → (p : Constrs) (after : Ts) (d : ℕ) →
          Took constr_lists limit body p after d → Took datas limit ts (make p) after d
      data_took body shut p after d acc =
          turned_took form (head_front data_word name ps) none false part make data_turn datas.deep constr_lists.deep
          data_deep ts body p after d (at_front data_word name ps ts next behind rest body at named params shut)
          (passes_none body) (narrowed_took constr_lists ends_item constrs_quiet limit body p after d acc)

      abbrev front : Ts
      front = data_word ∷ t.Con name ∷ map t.Var ps

      -- without constructors
      pub empty_took : begins is_var rest ≡ false → begins is_equals rest ≡ false →
          Took datas limit ts (v.EmptyData name ps) rest 0
      empty_took p r =
          let split : ts ≡ front ++ rest =
          at ∙ ap (λ l. data_word ∷ l) (named ∙ ap (λ l. t.Con name ∷ l) params) in
          let whole = tree_ok form ts front rest (v.EmptyData name ps) split (omega arith) refl
          (empty_good name ps unqualified) (λ s other after same good quiet e. alone other s after same good quiet e) in
          record { spelled = whole.spelled; reads = whole.reads; measured_is = refl; room = whole.room }
        where
          alone : (x : TopDeclTree) (s after : Ts) → SameStart rest s → form.Good x → begins goes after ≡ false →
              front ++ s ≡ top_decl_tokens x ++ after → x ≡ v.EmptyData name ps
          alone (v.EmptyData m qs) s after same good quiet e =
              let is : m ≡ name = cc in
              let tails : map t.Var ps ++ s ≡ map t.Var qs ++ after = cc in
              let one = same_ends ps qs s after tails (begins_same is_var rest s same ∙ p) (no_var after quiet) in
              λ i. v.EmptyData (is i) (one i)
          alone (v.Data m qs c cs) s after same good quiet e =
              let tails : map t.Var ps ++ s ≡ (map t.Var qs ++ t.Equals ∷ constr_lists.tokens (c, cs)) ++ after = cc in
              absurd (true≢false (sym (behind_params ps qs s (constr_lists.tokens (c, cs)) after tails)
              ∙ begins_same goes_on rest s same ∙ ends rest p r))
          alone (v.Newtype m qs c a) s after same good quiet e = absurd (true≢false (sym (and_right _ false good.0)))
          alone (v.Synonym m qs y) s after same good quiet e = absurd (true≢false (sym (and_right _ false good.0)))
          alone (v.Decl d) s after same good quiet e = absurd (true≢false (sym (and_right _ false good.0)))
