-- The returns of the readers of declarations of types, over plain variables.
use Rattle.std.proofs.Common.{◌≡◌, ℕ, Bool, true, false, List, [], ◌∷◌, ◌++◌, length, refl, sym, ap, ◌∙◌, arith}
use Rattle.std.proofs.Common.{append_assoc, length-append}
use Rattle.std.specs.Prelude.{map, not, ◌&&◌, ◌||◌, Option}
use Rattle.std.proofs.lemmas.Bool.{and_from}
use Rattle.hs_forms.specs.Reading.{begins}
use Rattle.hs_forms.specs.Answers.{Accepts, Rejects, Fails}
use Rattle.hs_forms.specs.declared.fault.Fault.{Fault}
use Rattle.hs_forms.proofs.LimitLemmas.{and_left, and_right}
use Rattle.hs_tokens.specs.declared.terminal.Terminal.{Terminal}
use Rattle.hs_tokens.specs.declared.terminal.Terminal.TheVariants as t
use Rattle.hs_tokens.specs.declared.word.Word.TheVariants as w
use Rattle.hs_trees.specs.Types.{spelling_type, depth_of_type, is_type, type_form}
use Rattle.hs_trees.specs.declared.types.TypeTree.{TypeTree}
use Rattle.hs_trees.specs.declared.types.ATypeTree.TheVariants as a
use Rattle.hs_trees.proofs.TypeCaseLemmas.{con_read}
use Rattle.hs_trees.proofs.TypeChainLemmas.{make_type, make_btype, type_first, btype_first}
use Rattle.hs_modules.specs.Words.{has_dot}
use Rattle.hs_modules.specs.ModuleForms.{is_unqualified}
use Rattle.hs_headers.specs.Lists.{Ts}
use Rattle.hs_headers.specs.Names.{is_var, is_own_con}
use Rattle.hs_headers.proofs.ExportLemmas.{none, passes_none}
use Rattle.hs_headers.proofs.TurnLemmas.{Turn, turn_ok, turn_fails, stuck}
use Rattle.hs_declarations.specs.Declarations.{is_equals, is_type_word, synonym_form}
use Rattle.hs_declarations.specs.declared.synonyms.Synonym.{Synonym}

abbrev pub synonym : List ℕ → List (List ℕ) → TypeTree → Synonym
synonym name params ty = record { name = name; params = params; ty = ty }

-- the tokens of a declaration before its right side
abbrev pub head_front : Terminal → List ℕ → List (List ℕ) → Ts
head_front word name params = word ∷ t.Con name ∷ (map t.Var params ++ t.Equals ∷ [])

pub same_params : (ps qs : List (List ℕ)) (s b after : Ts) →
    (map t.Var ps ++ t.Equals ∷ []) ++ s ≡ (map t.Var qs ++ t.Equals ∷ b) ++ after → qs ≡ ps
same_params [] [] s b after e = refl
same_params [] (q ∷ qs) s b after e = absurd cc
same_params (p ∷ ps) [] s b after e = absurd cc
same_params (p ∷ ps) (q ∷ qs) s b after e =
    let is : q ≡ p = cc in
    let tails : (map t.Var ps ++ t.Equals ∷ []) ++ s ≡ (map t.Var qs ++ t.Equals ∷ b) ++ after = cc in
    let same = same_params ps qs s b after tails in λ i. is i ∷ same i

abbrev pub goes_on : Terminal → Bool
goes_on k = is_var k || is_equals k

pub behind_params : (ps qs : List (List ℕ)) (s b after : Ts) →
    map t.Var ps ++ s ≡ (map t.Var qs ++ t.Equals ∷ b) ++ after → begins goes_on s ≡ true
behind_params [] [] s b after e = ap (begins goes_on) e
behind_params [] (q ∷ qs) s b after e = ap (begins goes_on) e
behind_params (p ∷ ps) [] s b after e = absurd cc
behind_params (p ∷ ps) (q ∷ qs) s b after e =
    let tails : map t.Var ps ++ s ≡ (map t.Var qs ++ t.Equals ∷ b) ++ after = cc in
    behind_params ps qs s b after tails

pub ends : (ts : Ts) → begins is_var ts ≡ false → begins is_equals ts ≡ false → begins goes_on ts ≡ false
ends [] p q = refl
ends (k ∷ ts) p q = ap (λ b. b || is_equals k) p ∙ q

-- a least type
abbrev least : TypeTree
least = make_type (make_btype (a.Con []) []) []

module _ (limit : Option ℕ) where
  good_least : (type_form limit).Good least
  good_least = type_first limit (make_btype (a.Con []) []) (btype_first limit (a.Con []) (con_read limit [] []).good)

  pub synonym_none : (ts : Ts) → begins is_type_word ts ≡ false → Rejects (synonym_form limit) ts (length ts)
  synonym_none ts p =
      stuck (synonym_form limit) is_type_word ts [] ts ((synonym_form limit).tokens (synonym [] [] least))
      (synonym [] [] least) good_least refl (λ x s after good quiet e. ap (begins is_type_word) e) refl p

  pub synonym_no_name : (ts next : Ts) → ts ≡ t.Word w.Type ∷ next → begins is_own_con next ≡ false →
      Rejects (synonym_form limit) ts (length next)
  synonym_no_name ts next at p =
      stuck (synonym_form limit) is_own_con ts (t.Word w.Type ∷ []) next (t.Con [] ∷ t.Equals ∷ spelling_type least)
      (synonym [] [] least) good_least refl
      (λ x s after good quiet e. follows x.name x.params x.ty s after good.0 e) at p
    where
      follows : (m : List ℕ) (qs : List (List ℕ)) (y : TypeTree) (s after : Ts) → is_unqualified m && is_type y ≡ true →
          t.Word w.Type ∷ s ≡ (synonym_form limit).tokens (synonym m qs y) ++ after → begins is_own_con s ≡ true
      follows m qs y s after good e =
          let is : s ≡ t.Con m ∷ ((map t.Var qs ++ t.Equals ∷ spelling_type y) ++ after) = cc in
          ap (begins is_own_con) is ∙ and_left (not (has_dot m)) _ good

  pub synonym_open : (ts next behind rest : Ts) (name : List ℕ) (ps : List (List ℕ)) → ts ≡ t.Word w.Type ∷ next →
      next ≡ t.Con name ∷ behind → has_dot name ≡ false → behind ≡ map t.Var ps ++ rest → begins is_var rest ≡ false →
      begins is_equals rest ≡ false → Rejects (synonym_form limit) ts (length rest)
  synonym_open ts next behind rest name ps at named own params p r =
      stuck (synonym_form limit) goes_on ts (t.Word w.Type ∷ t.Con name ∷ map t.Var ps) rest
      (t.Equals ∷ spelling_type least) (synonym name ps least)
      (and_from _ _ (ap not own) good_least.0, good_least.1) refl
      (λ x s after good quiet e. follows x.name x.params x.ty s after e)
      (at ∙ ap (λ l. t.Word w.Type ∷ l) (named ∙ ap (λ l. t.Con name ∷ l) params)) (ends rest p r)
    where
      follows : (m : List ℕ) (qs : List (List ℕ)) (y : TypeTree) (s after : Ts) →
          t.Word w.Type ∷ t.Con name ∷ (map t.Var ps ++ s) ≡ (synonym_form limit).tokens (synonym m qs y) ++ after →
          begins goes_on s ≡ true
      follows m qs y s after e =
          let tails : map t.Var ps ++ s ≡ (map t.Var qs ++ t.Equals ∷ spelling_type y) ++ after = cc in
          behind_params ps qs s (spelling_type y) after tails

module _ (limit : Option ℕ) (name : List ℕ) (ps : List (List ℕ)) (own : has_dot name ≡ false) where
  pub synonym_turn : Turn (synonym_form limit) (head_front (t.Word w.Type) name ps) none false (type_form limit)
      (synonym name ps)
  synonym_turn = record {
    tokens = λ y good. ap (λ l. t.Word w.Type ∷ t.Con name ∷ l)
        (sym (append_assoc (map t.Var ps) (t.Equals ∷ []) (spelling_type y)));
    good = λ y good. (and_from _ _ (ap not own) good.0, good.1);
    extends = λ y k e. e;
    only = λ x s after h good quiet e. only x.name x.params x.ty s after good e;
  }
    where
      only : (m : List ℕ) (qs : List (List ℕ)) (y : TypeTree) (s after : Ts) →
          (synonym_form limit).Good (synonym m qs y) →
          head_front (t.Word w.Type) name ps ++ s ≡ (synonym_form limit).tokens (synonym m qs y) ++ after →
          (p : TypeTree) × (synonym m qs y ≡ synonym name ps p) × (type_form limit).Good p
      only m qs y s after good e =
          let is : m ≡ name = cc in
          let tails : (map t.Var ps ++ t.Equals ∷ []) ++ s ≡ (map t.Var qs ++ t.Equals ∷ spelling_type y) ++ after = cc
          in
          let same = same_params ps qs s (spelling_type y) after tails in
          (y, (λ j. synonym (is j) (same j) y), (and_right (is_unqualified m) _ good.0, good.1))

  at_front : (ts next behind rest body : Ts) → ts ≡ t.Word w.Type ∷ next → next ≡ t.Con name ∷ behind →
      behind ≡ map t.Var ps ++ rest → rest ≡ t.Equals ∷ body → ts ≡ head_front (t.Word w.Type) name ps ++ body
  at_front ts next behind rest body at named params shut =
      at ∙ ap (λ l. t.Word w.Type ∷ l) (named ∙ ap (λ l. t.Con name ∷ l) (params
      ∙ ap (λ l. map t.Var ps ++ l) shut ∙ sym (append_assoc (map t.Var ps) (t.Equals ∷ []) body)))

  pub synonym_fails : (ts next behind rest body : Ts) (f : Fault) → ts ≡ t.Word w.Type ∷ next →
      next ≡ t.Con name ∷ behind → behind ≡ map t.Var ps ++ rest → rest ≡ t.Equals ∷ body →
      Fails (type_form limit) body f → Fails (synonym_form limit) ts f
  synonym_fails ts next behind rest body f at named params shut r =
      turn_fails (synonym_form limit) (head_front (t.Word w.Type) name ps) none false (type_form limit)
      (synonym name ps) synonym_turn ts body f (at_front ts next behind rest body at named params shut)
      (passes_none body) r

  pub synonym_ok : (ts next behind rest body : Ts) (y : TypeTree) (after : Ts) (d : ℕ) → ts ≡ t.Word w.Type ∷ next →
      next ≡ t.Con name ∷ behind → behind ≡ map t.Var ps ++ rest → rest ≡ t.Equals ∷ body →
      Accepts (type_form limit) depth_of_type body y after d →
      Accepts (synonym_form limit) (λ x. depth_of_type x.ty) ts (synonym name ps y) after d
  synonym_ok ts next behind rest body y after d at named params shut r =
      let front = at_front ts next behind rest body at named params shut in
      let flat : Accepts (type_form limit) (λ x. 0) body y after 0 =
      record { spelled = r.spelled; reads = r.reads; measured_is = refl; room = omega (arith, r.room) } in
      let whole = turn_ok (synonym_form limit) (head_front (t.Word w.Type) name ps) none false (type_form limit)
      (synonym name ps) synonym_turn ts body y after 0 front (passes_none body) flat in
      record {
        spelled = whole.spelled;
        reads = whole.reads;
        measured_is = r.measured_is;
        room = omega (
          arith,
          r.room,
          ap length front,
          length-append (head_front (t.Word w.Type) name ps) body,
        );
      }
