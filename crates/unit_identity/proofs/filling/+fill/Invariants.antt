use Rattle.std.proofs.Common.{◌≡◌, ◌++◌, drop}
use Rattle.unit_identity.specs.Fill.{composed}
use Rattle.unit_identity.proofs.filling.+fill.Given as goal

abbrev pub invariant-compose-loop-each : goal.invariant-compose-loop-each
invariant-compose-loop-each l = l.all ++ composed (drop l.each-index l.each-items) l.then ≡ composed l.first l.then
