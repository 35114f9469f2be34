use Rattle.std.proofs.Common.{◌≡◌, ◌++◌, drop}
use Rattle.hole_unify.specs.Lawful.{units_in_fills}
use Rattle.hole_unify.proofs.lawful.+list.Given as goal

abbrev pub invariant-list_fills-loop-each : goal.invariant-list_fills-loop-each
invariant-list_fills-loop-each l = l.units.items ++ units_in_fills (drop l.each-index l.fills) ≡ l.initial.units.items
    ++ units_in_fills l.fills
