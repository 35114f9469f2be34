-- What unification promises.
use Rattle.std.specs.Prelude.{◌≡◌, ◌↔◌, ℕ, Bool, List, ◌++◌}
use Rattle.type_terms.specs.Terms.{Every}
use Rattle.type_unify.specs.Types.{Head, Plain, Assignment, Equals, Bound, Solves, IsTriangular, EveryBound}

-- the solutions of the new bindings are those of the old ones that make the types equal, and there is one; the new
-- bindings are
-- the old ones with a tail, triangular, and what is true of each unknown and each name of the old ones and of both
-- types is true of theirs
pub record IsUnified (old new : List Bound) (t u : Plain) : Type 0 where
  pub solutions : (s : Assignment) → Solves s new ↔ Solves s old × Equals s t u
  pub solvable : (s : Assignment) × Solves s new
  pub triangular : IsTriangular new
  pub tail : (more : List Bound) × (new ≡ old ++ more)
  pub closed : (p : ℕ → Bool) (q : Head → Bool) → EveryBound p q old → Every p q t → Every p q u → EveryBound p q new

-- no solution of the bindings makes the types equal
abbrev pub NotSolvable : List Bound → Plain → Plain → Type 0
NotSolvable bs t u = (s : Assignment) → Solves s bs → Equals s t u → ⊥
