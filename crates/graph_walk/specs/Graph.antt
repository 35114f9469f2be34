-- Nodes by number, what they use, and the depth-first walk over them.
use Rattle.std.specs.Prelude.{◌≡◌, ℕ, Bool, false, List, [], Option, None, Some, map, slice_index_or}
use Rattle.std.specs.Prelude.{Result, Ok, Err, ⊤}
use Rattle.bp_checks.specs.Check.{Check}
use Rattle.bp_checks.specs.Walk.{walk, WalkStop}
use Rattle.bp_checks.specs.Walk.WalkStop.{Cycle, Blocked}
use Rattle.graph_walk.specs.declared.walk.Node.{Node}
use Rattle.graph_walk.specs.declared.walk.Use.{Use}
use Rattle.graph_walk.specs.declared.walk.WalkError.{WalkError}
use Rattle.graph_walk.specs.declared.walk.WalkError.TheVariants as e

abbrev pub no_node : Node
no_node = record { uses = []; there = false }

-- what a node uses, in order; a number past the end uses nothing
abbrev pub uses_at : List Node → ℕ → List ℕ
uses_at nodes v = (slice_index_or nodes v no_node).uses

-- whether a node is there; a number past the end is not
abbrev pub is_there : List Node → ℕ → Bool
is_there nodes v = (slice_index_or nodes v no_node).there

-- a use, by the node that asks
abbrev pub wanted : Option ℕ → ℕ → Use
wanted by to = record { by = by; to = to }

-- a node asks for those that it uses
abbrev pub Asks : List Node → ℕ → List Use → Type 0
Asks nodes a below = below ≡ map (wanted (Some a)) (uses_at nodes a)

-- it isn't there
abbrev pub IsAbsent : List Node → List ℕ → Use → Use → Type 0
IsAbsent nodes path e r = (is_there nodes e.to ≡ false) × (r ≡ e)

-- the nodes that some lead to, in post-order; or a cycle, or who asks for a node that isn't there
abbrev pub walk_from : List Node → List ℕ → Check (List ℕ) (WalkStop ℕ Use)
walk_from nodes starts = walk (λ e. e.to) (Asks nodes) (IsAbsent nodes) (map (wanted None) starts)

-- an answer passes the walk, and a refusal fails it
abbrev pub ChecksWalk : Check (List ℕ) (WalkStop ℕ Use) → Result (List ℕ) WalkError → Type 0
ChecksWalk check (Ok order) = check.passes order
ChecksWalk check (Err (e.Cycle at)) = check.fails (Cycle at)
ChecksWalk check (Err (e.Absent missing)) = check.fails (Blocked missing)
ChecksWalk check (Err e.NoMemory) = ⊤
