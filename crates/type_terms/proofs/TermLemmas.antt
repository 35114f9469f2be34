-- Laws of replacing variables and constructors.
use Rattle.std.proofs.Common.{◌≡◌, refl, sym, ap, ap₂, ◌∙◌, ℕ, Bool, ◌||◌}
use Rattle.type_terms.specs.Terms.{Term, var, con, app, Assignment, applied, with_constructors, occurs_in}

-- replacing each variable by itself changes nothing
pub applied-itself : {V C : Type 0} (t : Term V C) → applied (λ i. var i) t ≡ t
applied-itself (var i) = refl
applied-itself (con n) = refl
applied-itself (app f a) = ap₂ app (applied-itself f) (applied-itself a)

-- replacing twice is replacing once, by the first assignment replaced by the second
pub applied-applied : {U V W C : Type 0} (r : Assignment V W C) (s : Assignment U V C) (t : Term U C)
    → applied r (applied s t) ≡ applied (λ i. applied r (s i)) t
applied-applied r s (var i) = refl
applied-applied r s (con n) = refl
applied-applied r s (app f a) = ap₂ app (applied-applied r s f) (applied-applied r s a)

-- changing constructors twice is changing them once
pub with_constructors-twice : {V B C D : Type 0} (h : C → D) (g : B → C) (t : Term V B)
    → with_constructors h (with_constructors g t) ≡ with_constructors (λ n. h (g n)) t
with_constructors-twice h g (var i) = refl
with_constructors-twice h g (con n) = refl
with_constructors-twice h g (app f a) = ap₂ app (with_constructors-twice h g f) (with_constructors-twice h g a)

-- constructors change before or after variables are replaced
pub with_constructors-applied : {V W C D : Type 0} (g : C → D) (s : Assignment V W C) (t : Term V C)
    → with_constructors g (applied s t) ≡ applied (λ i. with_constructors g (s i)) (with_constructors g t)
with_constructors-applied g s (var i) = refl
with_constructors-applied g s (con n) = refl
with_constructors-applied g s (app f a) = ap₂ app (with_constructors-applied g s f) (with_constructors-applied g s a)

-- no variable is gained or lost where constructors change
pub occurs-with_constructors : {C D : Type 0} (g : C → D) (x : ℕ) (t : Term ℕ C)
    → occurs_in x (with_constructors g t) ≡ occurs_in x t
occurs-with_constructors g x (var i) = refl
occurs-with_constructors g x (con n) = refl
occurs-with_constructors g x (app f a) = ap₂ ◌||◌ (occurs-with_constructors g x f) (occurs-with_constructors g x a)

-- the algebra of terms, for unification, inference and matching
pub ruleset term_laws = (
  applied-itself,
  applied-applied,
  with_constructors-twice,
  with_constructors-applied,
  occurs-with_constructors,
)
