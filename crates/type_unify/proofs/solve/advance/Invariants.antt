use Rattle.std.proofs.Common.{length}
use Rattle.type_unify.specs.Cells.{seen}
use Rattle.type_unify.specs.Steps.{Follows, weight}
use Rattle.type_unify.proofs.solve.advance.Given as goal

abbrev pub invariant-loop-one : goal.invariant-loop-one
invariant-loop-one l = Follows (seen l.cells l.entries.entries) (length l.cells) l.fn.stack.items l.stack.items

abbrev pub decreases-loop-one : goal.decreases-loop-one
decreases-loop-one l = weight (seen l.cells l.entries.entries) l.stack.items
