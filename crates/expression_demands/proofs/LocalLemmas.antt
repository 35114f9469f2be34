-- What is asked of parts of a tree speaks of the unknowns of its names and of its own.
use Rattle.std.proofs.Common.{◌≡◌, sym, ap₂, subst, ◌∙◌, ℕ, List, [], ◌∷◌, ◌++◌, map}
use Rattle.std.proofs.lemmas.Option.{slice_get_within}
use Rattle.std.specs.Prelude.{Some, slice_get, length}
use Rattle.hs_core.specs.declared.tree.Exp.{Exp}
use Rattle.type_terms.specs.Terms.{var}
use Rattle.hs_core.specs.Types.{KindTerm, star, TypeTerm, function}
use Rattle.hs_core.specs.Schemes.{Bound}
use Rattle.hs_core.specs.Globals.{Globals}
use Rattle.hs_core.specs.Typing.{Kinds}
use Rattle.type_meaning.specs.Meanings.{only}
use Rattle.type_equations.specs.States.{Guess}
use Rattle.type_equations.specs.declared.equations.Binder.{Binder}
use Rattle.type_equations.specs.Demands.{typed_names, Agree, AllStar, IsLocal, equal}
use Rattle.type_equations.specs.Syntax.{AreStars, plain_function}
use Rattle.type_equations.proofs.DemandLemmas.{typed_names-agree}
use Rattle.infer_patterns.proofs.PatternLemmas.{types-agree}
use Rattle.expression_demands.specs.Expressions.{EachIsMeant, meant_types}
use Rattle.expression_demands.specs.Leaving.{IsLocalUnder}

-- a fact over kinds, names and a type moves from one guess to one that agrees with it
pub moved : (ks : List KindTerm) (env : List Binder) (v : ℕ) (P : Kinds → List Bound → TypeTerm → Type 0)
    → AllStar ks env → slice_get ks v ≡ Some star → (g h : Guess) → Agree (length ks) g h
    → P g.kinds (typed_names g env) (g.types v) → P h.kinds (typed_names h env) (h.types v)
moved ks env v P o s g h a t = subst (λ z. P h.kinds (typed_names h env) z)
    (a.types v (slice_get_within ks v star s)) (subst (λ z. P h.kinds z (g.types v)) (typed_names-agree ks env g h o a)
    (subst (λ z. P z (typed_names g env) (g.types v)) a.kinds t))

pub local-one : (ks : List KindTerm) (env : List Binder) (v : ℕ) (P : Kinds → List Bound → TypeTerm → Type 0)
    → AllStar ks env → slice_get ks v ≡ Some star
    → IsLocal (length ks) (λ g bs. P g.kinds (typed_names g env) (g.types v) × (bs ≡ []))
local-one ks env v P o s g h bs a t = (moved ks env v P o s g h a t.0, t.1)

pub local-two : (ks : List KindTerm) (env : List Binder) (u v : ℕ)
    (P : Kinds → List Bound → TypeTerm → TypeTerm → Type 0)
    → AllStar ks env → slice_get ks u ≡ Some star → slice_get ks v ≡ Some star
    → IsLocal (length ks) (λ g bs. P g.kinds (typed_names g env) (g.types u) (g.types v) × (bs ≡ []))
local-two ks env u v P o r s g h bs a t = (
  moved ks env v (λ k n w. P k n (h.types u) w) o s g h a
      (subst (λ z. P g.kinds (typed_names g env) z (g.types v)) (a.types u (slice_get_within ks u star r)) t.0),
  t.1,
)

-- beside the types of names in front
pub local-under : (ks : List KindTerm) (env : List Binder) (v : ℕ) (P : Kinds → List Bound → TypeTerm → Type 0)
    → AllStar ks env → slice_get ks v ≡ Some star
    → IsLocalUnder (length ks) (λ xs g. P g.kinds (xs ++ typed_names g env) (g.types v))
local-under ks env v P o s xs g h a t = moved ks env v (λ k n w. P k (xs ++ n) w) o s g h a t

pub meant_types-local : (G : Globals) (ks : List KindTerm) (es : List Exp) (env : List Binder) (vs : List ℕ)
    → AllStar ks env → AreStars ks vs → IsLocal (length ks) (meant_types G es env vs)
meant_types-local G ks es env vs o s g h bs a t = (
  subst (λ z. EachIsMeant G h.kinds es (only (typed_names h env) []) z) (types-agree ks vs g h s a)
      (subst (λ z. EachIsMeant G h.kinds es (only z []) (map g.types vs)) (typed_names-agree ks env g h o a)
      (subst (λ z. EachIsMeant G z es (only (typed_names g env) []) (map g.types vs)) a.kinds t.0)),
  t.1,
)

-- an unknown is a function of two others
pub operands-local : (ks : List KindTerm) (w l r u : ℕ) → AreStars ks (w ∷ l ∷ r ∷ u ∷ [])
    → IsLocal (length ks) (equal (var w) (plain_function (var l) (plain_function (var r) (var u))))
operands-local ks w l r u s g h bs a t = (
  sym (a.types w (slice_get_within ks w star s.0)) ∙ t.0
      ∙ ap₂ function (a.types l (slice_get_within ks l star s.1.0))
      (ap₂ function (a.types r (slice_get_within ks r star s.1.1.0))
      (a.types u (slice_get_within ks u star s.1.1.1.0))),
  t.1,
)
