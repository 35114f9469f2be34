-- Kinds as types of unification: what solves bindings, and what is decided is least.
use Rattle.std.proofs.Common.{◌≡◌, ℕ, ◌<◌, true, lt-ltb, List, refl, sym, ap, ap₂, subst, ◌∙◌}
use Rattle.hs_core.specs.Types.{KindTerm, star, arrow}
use Rattle.hs_core.specs.Kinds.{Below}
use Rattle.type_terms.specs.Terms.{var, con, app, applied, Every}
use Rattle.type_unify.specs.Types.{Plain, bare, Assignment, Equals, Bound, resolved}
use Rattle.type_unify.specs.Unified.{IsUnified, NotSolvable}
use Rattle.type_unify.proofs.SolvingLemmas.{applied-resolved, solution, Solves-solution}
use Rattle.kind_check.specs.Forms.{Guess, code, decided, value, IsForm, coded, Meets, is_below, any_name, AreReady}
use Rattle.kind_check.specs.Forms.{Equated, NotEqual, settled}

pub decided-bare : (t : Plain) → decided (bare t) ≡ decided t
decided-bare (var i) = refl
decided-bare (con h) = refl
decided-bare (app f a) = ap₂ arrow (decided-bare f) (decided-bare a)

pub decided-code : (k : KindTerm) → decided (code k) ≡ k
decided-code star = refl
decided-code (arrow j k) = ap₂ arrow (decided-code j) (decided-code k)

pub decided-applied : (s : Assignment) (t : Plain) → decided (applied s t) ≡ value (λ i. decided (s i)) t
decided-applied s (var i) = refl
decided-applied s (con h) = refl
decided-applied s (app f a) = ap₂ arrow (decided-applied s f) (decided-applied s a)

pub value-coded : (g : Guess) (t : Plain) → decided (applied (coded g) t) ≡ value g t
value-coded g (var i) = decided-code (g i)
value-coded g (con h) = refl
value-coded g (app f a) = ap₂ arrow (value-coded g f) (value-coded g a)

pub applied-coded : (g : Guess) (n : ℕ) (t : Plain) → IsForm n t → applied (coded g) t ≡ code (value g t)
applied-coded g n (var i) h = refl
applied-coded g n (con c) h = ap con h
applied-coded g n (app f a) h = ap₂ app (applied-coded g n f h.0) (applied-coded g n a h.1)

-- types that an assignment makes equal have one kind under what it decides
pub value-equals : (s : Assignment) (t u : Plain) → Equals s t u
    → value (λ i. decided (s i)) t ≡ value (λ i. decided (s i)) u
value-equals s t u e =
    sym (decided-applied s t) ∙ sym (decided-bare (applied s t)) ∙ ap decided e ∙ decided-bare (applied s u)
    ∙ decided-applied s u

pub value-equals-coded : (g : Guess) (t u : Plain) → Equals (coded g) t u → value g t ≡ value g u
value-equals-coded g t u e =
    sym (value-coded g t) ∙ sym (decided-bare (applied (coded g) t)) ∙ ap decided e
    ∙ decided-bare (applied (coded g) u) ∙ value-coded g u

pub equals-value : (g : Guess) (n : ℕ) (t u : Plain) → IsForm n t → IsForm n u → value g t ≡ value g u
    → Equals (coded g) t u
equals-value g n t u p q e = ap bare (applied-coded g n t p ∙ ap code e ∙ sym (applied-coded g n u q))

pub below-test : (i n : ℕ) → i < n → is_below n i ≡ true
below-test i n h = lt-ltb i n h

pub Every-form : (n : ℕ) (t : Plain) → IsForm n t → Every (is_below n) any_name t
Every-form n (var i) h = below-test i n h
Every-form n (con c) h = refl
Every-form n (app f a) h = (Every-form n f h.0, Every-form n a h.1)

pub equated : (old new : List Bound) (n : ℕ) (s t : Plain) → AreReady old n → IsForm n s → IsForm n t
    → IsUnified old new s t → Equated old new n s t
equated old new n s t r p q u = record {
  ready = record {
    triangular = u.triangular;
    below = u.closed (is_below n) any_name r.below (Every-form n s p) (Every-form n t q);
    decides = λ a h.
        let o = (u.solutions a).0 h in
        (u.solutions (coded (λ i. decided (a i)))).1
        (r.decides a o.0, equals-value (λ i. decided (a i)) n s t p q (value-equals a s t o.1));
  };
  meets = λ g. (
    λ h. let o = (u.solutions (coded g)).0 h in (o.0, value-equals-coded g s t o.1),
    λ h. (u.solutions (coded g)).1 (h.0, equals-value g n s t p q h.1),
  );
}

pub not_equal : (old : List Bound) (n : ℕ) (s t : Plain) → IsForm n s → IsForm n t → NotSolvable old s t
    → NotEqual old s t
not_equal old n s t p q u g m e = u (coded g) m (equals-value g n s t p q e)

-- what stays undecided makes the least kind
pub decided-least : (s : Assignment) (t : Plain) → Below (decided t) (decided (applied s t))
decided-least s (var i) = tt
decided-least s (con c) = tt
decided-least s (app f a) = (decided-least s f, decided-least s a)

pub settled-least : (bs : List Bound) (g : Guess) → Meets g bs → (i : ℕ) → Below (settled bs i) (g i)
settled-least bs g m i =
    subst (λ k. Below (settled bs i) k)
    (sym (decided-bare _) ∙ ap decided (applied-resolved (coded g) bs (var i) m) ∙ decided-bare (code (g i))
    ∙ decided-code (g i))
    (decided-least (coded g) (resolved bs (var i)))

pub settled-meets : (bs : List Bound) (n : ℕ) → AreReady bs n → Meets (settled bs) bs
settled-meets bs n r = r.decides (solution bs) (Solves-solution bs r.triangular)
