-- The returns of the reader of types with a kind, over plain variables.
use Rattle.std.proofs.Common.{◌≡◌, ℕ, false, List, [], ◌∷◌, ◌++◌, length, refl, ap, ◌∙◌, arith}
use Rattle.std.specs.Prelude.{not, Option}
use Rattle.hs_forms.specs.Reading.{begins}
use Rattle.hs_forms.specs.Answers.{Accepts, Rejects, Fails}
use Rattle.hs_forms.specs.declared.fault.Fault.{Fault}
use Rattle.hs_tokens.specs.declared.terminal.Terminal.TheVariants as t
use Rattle.hs_tokens.specs.declared.word.Word.TheVariants as w
use Rattle.hs_trees.specs.Kinds.{spelling_kind, depth_of_kind, kind_form}
use Rattle.hs_trees.specs.declared.types.KindTree.{KindTree}
use Rattle.hs_trees.specs.declared.types.AKindTree.TheVariants as a
use Rattle.hs_trees.proofs.KindLemmas.{make_kind, kind_head, star_ok}
use Rattle.hs_tokens.specs.Terminals.{star}
use Rattle.hs_modules.specs.Words.{has_dot}
use Rattle.hs_headers.specs.Lists.{Ts}
use Rattle.hs_headers.specs.Names.{is_own_con}
use Rattle.hs_headers.proofs.ExportLemmas.{none, passes_none}
use Rattle.hs_headers.proofs.TurnLemmas.{Turn, turn_ok, turn_fails, stuck}
use Rattle.hs_declarations.specs.Declarations.{is_data_word, is_double_colon, kinded_form}
use Rattle.hs_declarations.specs.declared.kinded.Kinded.{Kinded}

abbrev pub kinded : List ℕ → KindTree → Kinded
kinded name kind = record { name = name; kind = kind }

abbrev pub kinded_front : List ℕ → Ts
kinded_front name = t.Word w.Data ∷ t.Con name ∷ t.DoubleColon ∷ []

-- a least kind
abbrev least : KindTree
least = make_kind a.Star []

module _ (limit : Option ℕ) where
  good_least : (kind_form limit).Good least
  good_least = kind_head limit a.Star (star_ok limit (t.VarSym star ∷ []) [] refl).reads.good

  pub kinded_none : (ts : Ts) → begins is_data_word ts ≡ false → Rejects (kinded_form limit) ts (length ts)
  kinded_none ts p =
      stuck (kinded_form limit) is_data_word ts [] ts ((kinded_form limit).tokens (kinded [] least)) (kinded [] least)
      (refl, good_least) refl (λ x s after good quiet e. ap (begins is_data_word) e) refl p

  pub kinded_no_name : (ts next : Ts) → ts ≡ t.Word w.Data ∷ next → begins is_own_con next ≡ false →
      Rejects (kinded_form limit) ts (length next)
  kinded_no_name ts next at p =
      stuck (kinded_form limit) is_own_con ts (t.Word w.Data ∷ []) next (t.Con [] ∷ t.DoubleColon ∷ spelling_kind least)
      (kinded [] least) (refl, good_least) refl
      (λ x s after good quiet e. (let is : s ≡ t.Con x.name ∷ t.DoubleColon ∷ (spelling_kind x.kind ++ after) = cc in
      ap (begins is_own_con) is ∙ good.0)) at p

  module _ (name : List ℕ) (own : has_dot name ≡ false) where
    pub kinded_open : (ts next behind : Ts) → ts ≡ t.Word w.Data ∷ next → next ≡ t.Con name ∷ behind →
        begins is_double_colon behind ≡ false → Rejects (kinded_form limit) ts (length behind)
    kinded_open ts next behind at named p =
        stuck (kinded_form limit) is_double_colon ts (t.Word w.Data ∷ t.Con name ∷ []) behind
        (t.DoubleColon ∷ spelling_kind least) (kinded name least) (ap not own, good_least) refl
        (λ x s after good quiet e. (let is : s ≡ t.DoubleColon ∷ (spelling_kind x.kind ++ after) = cc in
        ap (begins is_double_colon) is)) (at ∙ ap (λ l. t.Word w.Data ∷ l) named) p

    kinded_turn : Turn (kinded_form limit) (kinded_front name) none false (kind_form limit) (kinded name)
    kinded_turn = record {
      tokens = λ y good. refl;
      good = λ y good. (ap not own, good);
      extends = λ y k e. e;
      only = λ x s after h good quiet e.
          (let is : x.name ≡ name = cc in (x.kind, ap (λ m. kinded m x.kind) is, good.1));
    }

    at_front : (ts next behind body : Ts) → ts ≡ t.Word w.Data ∷ next → next ≡ t.Con name ∷ behind →
        behind ≡ t.DoubleColon ∷ body → ts ≡ kinded_front name ++ body
    at_front ts next behind body at named colon =
        at ∙ ap (λ l. t.Word w.Data ∷ l) (named ∙ ap (λ l. t.Con name ∷ l) colon)

    pub kinded_fails : (ts next behind body : Ts) (f : Fault) → ts ≡ t.Word w.Data ∷ next →
        next ≡ t.Con name ∷ behind → behind ≡ t.DoubleColon ∷ body → Fails (kind_form limit) body f →
        Fails (kinded_form limit) ts f
    kinded_fails ts next behind body f at named colon r =
        turn_fails (kinded_form limit) (kinded_front name) none false (kind_form limit) (kinded name) kinded_turn ts
        body f (at_front ts next behind body at named colon) (passes_none body) r

    pub kinded_ok : (ts next behind body : Ts) (y : KindTree) (after : Ts) (d : ℕ) → ts ≡ t.Word w.Data ∷ next →
        next ≡ t.Con name ∷ behind → behind ≡ t.DoubleColon ∷ body →
        Accepts (kind_form limit) depth_of_kind body y after d →
        Accepts (kinded_form limit) (λ x. depth_of_kind x.kind) ts (kinded name y) after d
    kinded_ok ts next behind body y after d at named colon r =
        let front = at_front ts next behind body at named colon in
        let flat : Accepts (kind_form limit) (λ x. 0) body y after 0 =
        record { spelled = r.spelled; reads = r.reads; measured_is = refl; room = omega (arith, r.room) } in
        let whole = turn_ok (kinded_form limit) (kinded_front name) none false (kind_form limit) (kinded name)
        kinded_turn ts body y after 0 front (passes_none body) flat in
        record {
          spelled = whole.spelled;
          reads = whole.reads;
          measured_is = r.measured_is;
          room = omega (arith, r.room, ap length front);
        }
