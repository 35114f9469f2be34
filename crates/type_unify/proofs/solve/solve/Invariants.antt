use Rattle.std.proofs.Common.{◌^◌}
use Rattle.type_unify.specs.Cells.{bounds}
use Rattle.type_unify.proofs.RunLemmas.{Reached, unbound_below}
use Rattle.type_unify.proofs.solve.solve.Given as goal

abbrev pub invariant-bindings : goal.invariant-bindings
invariant-bindings l = Reached l.cells l.fn.entries.entries l.entries.entries l.stack.items l.one l.other

-- each step binds one more unknown
abbrev pub decreases-bindings : goal.decreases-bindings
decreases-bindings l = unbound_below (2 ^ 64) (bounds l.cells l.entries.entries)
