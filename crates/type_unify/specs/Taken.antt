-- What bringing a type into a table does.
use Rattle.std.specs.Prelude.{◌≡◌, ℕ, ◌<◌, ◌≤◌, Bool, if◌then◌else◌, List, ◌++◌, length}
use Rattle.type_unify.specs.Types.{Plain}
use Rattle.type_unify.specs.Written.{read_node}
use Rattle.type_unify.specs.declared.cell.Cell.{Cell}
use Rattle.type_unify.specs.declared.term.Node.{Node}
use Rattle.type_unify.specs.declared.term.Node.TheVariants.{App, Swapped}
use Rattle.type_unify.specs.Cells.{at, trees, bounds, IsTable}
use Rattle.type_unify.specs.Stacks.{Below, types_of}

abbrev pub IsLonger : List Cell → List Cell → Type 0
IsLonger old new = (more : List Cell) × (new ≡ old ++ more)

-- numbers, bindings and what stands in the old table stay in the new one
pub record Extends (old new : List Cell) : Type 0 where
  pub longer : length old ≤ length new
  pub keeps : (i : ℕ) → i < length old → at (trees new) i ≡ at (trees old) i
  pub stands : (es : List (ℕ × ℕ)) → IsTable old es → IsTable new es
  pub same : (es : List (ℕ × ℕ)) → IsTable old es → bounds new es ≡ bounds old es

abbrev pub joining : Bool → Node
joining swapped = if swapped then Swapped else App

-- one more node was read: the stack stands for the types that it leaves
pub record Took (node : Node) (old new : List Cell) (before after : List ℕ) : Type 0 where
  pub extends : Extends old new
  pub below : Below (length old) before → Below (length new) after
  pub types : Below (length old) before → types_of (at (trees new)) after ≡ read_node node
      (types_of (at (trees old)) before)

-- the type stands in the table by its number
pub record TakenIn (old new : List Cell) (t : Plain) (n : ℕ) : Type 0 where
  pub extends : Extends old new
  pub within : n < length new
  pub is : at (trees new) n ≡ t
