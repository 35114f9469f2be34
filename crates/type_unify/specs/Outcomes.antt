-- What a step, many steps and a whole run of unification do.
use Rattle.std.specs.Prelude.{◌≡◌, ℕ, ◌<◌, List, ◌++◌, length, Bool, Option, Some, None}
use Rattle.type_terms.specs.Terms.{Every}
use Rattle.type_unify.specs.Types.{Head, Plain, Assignment, Equals, Solves, EveryBound, Bound}
use Rattle.type_unify.specs.declared.cell.Cell.{Cell}
use Rattle.type_unify.specs.declared.solve.Wanted.{Wanted}
use Rattle.type_unify.specs.Cells.{at, trees, bounds, seen, IsTable}
use Rattle.type_unify.specs.Steps.{AllEqual, Follows, Asks, weight}

-- no assignment makes the types of all pairs equal
abbrev pub HaveNoSolution : (ℕ → Plain) → List (ℕ × ℕ) → Type 0
HaveNoSolution f ps = (s : Assignment) → AllEqual s f ps → ⊥

-- the pairs that are left have the same solutions, and are smaller
pub record Reduces (f : ℕ → Plain) (m : ℕ) (old new : List (ℕ × ℕ)) : Type 0 where
  pub follows : Follows f m old new
  pub fewer : weight f new < weight f old

abbrev pub Step : List Cell → List (ℕ × ℕ) → List (ℕ × ℕ) → List (ℕ × ℕ) → Option Wanted → Type 0
Step cs es old new None = Reduces (seen cs es) (length cs) old new
Step cs es old new (Some w) = Asks cs es old new w.id w.to

abbrev pub Advance : List Cell → List (ℕ × ℕ) → List (ℕ × ℕ) → List (ℕ × ℕ) → Option Wanted → Type 0
Advance cs es old new None = (s : Assignment) → AllEqual s (seen cs es) old
Advance cs es old new (Some w) = Asks cs es old new w.id w.to

-- the old entries stand at the front of the new ones
abbrev pub Grows : List (ℕ × ℕ) → List (ℕ × ℕ) → Type 0
Grows old new = (more : List (ℕ × ℕ)) × (new ≡ old ++ more)

-- the solutions of the new bindings are those of the old ones that make the types of the two numbers equal
pub record Solved (cs : List Cell) (old new : List (ℕ × ℕ)) (a b : ℕ) : Type 0 where
  pub stands : IsTable cs new
  pub keeps : (s : Assignment) → Solves s (bounds cs new) → Solves s (bounds cs old)
  pub equal : (s : Assignment) → Solves s (bounds cs new) → Equals s (at (trees cs) a) (at (trees cs) b)
  pub all : (s : Assignment) → Solves s (bounds cs old) → Equals s (at (trees cs) a) (at (trees cs) b)
      → Solves s (bounds cs new)
  pub tail : (more : List Bound) × (bounds cs new ≡ bounds cs old ++ more)
  pub closed : (p : ℕ → Bool) (q : Head → Bool) → EveryBound p q (bounds cs old) → Every p q (at (trees cs) a)
      → Every p q (at (trees cs) b) → EveryBound p q (bounds cs new)
