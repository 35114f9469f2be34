-- What the classes of equations come to.
use Rattle.std.specs.Prelude.{◌≡◌, ℕ, ◌+◌, ◌<◌, ◌≤◌, List, take, length, None}
use Rattle.hole_unify.specs.declared.equation.Equation.{Equation}
use Rattle.hole_unify.specs.declared.equation.Head.{Head}
use Rattle.hole_unify.specs.declared.equation.IdentUnifyError.{IdentUnifyError}
use Rattle.hole_unify.specs.declared.equation.IdentUnifyError.TheVariants as refused
use Rattle.hole_unify.specs.declared.solve.Obstacle.{Obstacle}
use Rattle.hole_unify.specs.declared.solve.Obstacle.TheVariants.{Clash, Cycle}
use Rattle.hole_unify.specs.declared.solve.Range.{Range}
use Rattle.hole_unify.specs.declared.solve.Settlement.{Settlement}
use Rattle.hole_unify.specs.declared.solve.Settlement.TheVariants.{Free, Stuck}
use Rattle.bp_base.specs.Texts.{Text}
use Rattle.bp_base.specs.declared.ident.Ident.{Ident}
use Rattle.hole_unify.specs.Unifiers.{HasUnifier}
use Rattle.hole_unify.specs.Table.{nodes_of}
use Rattle.hole_unify.specs.Classes.{HasHeads, IsLeastCycle}
use Rattle.hole_unify.specs.Close.{IsSettled}
use Rattle.hole_unify.specs.Reach.{edges_of, least_cycle}

abbrev pub IsObstacle : List Equation → Obstacle → Type 0
IsObstacle es (Clash one other) = HasHeads es one other
IsObstacle es (Cycle hole) = ((one other : Head) → HasHeads es one other → ⊥) × IsLeastCycle es hole

-- closed classes of the identities of a table, where no class reaches itself
pub record IsFree (es : List Equation) (table : List Ident) (classes : List ℕ) : Type 0 where
  pub length : length classes ≡ length table
  pub settled : IsSettled es (nodes_of table classes)
  pub acyclic : least_cycle (edges_of (nodes_of table classes) (nodes_of table classes)) (nodes_of table classes) ≡ None

abbrev pub IsSettlement : List Equation → Settlement → Type 0
IsSettlement es (Free table classes order) = IsFree es table classes.items
IsSettlement es (Stuck obstacle) = IsObstacle es obstacle

abbrev pub labelled : Text → Obstacle → IdentUnifyError
labelled label (Clash one other) = refused.Clash label one other
labelled label (Cycle hole) = refused.Cycle label hole

-- the equations before this one have a unifier, and with it they have none
pub record IsFirst (es : List Equation) (at : ℕ) (obstacle : Obstacle) : Type 0 where
  pub within : at < length es
  pub unified : HasUnifier (take at es)
  pub fails : IsObstacle (take (at + 1) es) obstacle

-- the first of them have a unifier, and more of them have none
pub record IsRange (es : List Equation) (range : Range) : Type 0 where
  pub below : range.low < range.high
  pub within : range.high ≤ length es
  pub unified : HasUnifier (take range.low es)
  pub fails : IsObstacle (take range.high es) range.obstacle
