use Rattle.std.proofs.Common.{◌≡◌, drop}
use Rattle.unit_identity.specs.WellFormed.{well_formed_fills}
use Rattle.unit_identity.proofs.well_formed.+well_formed.Given as goal

abbrev pub invariant-are_well_formed-loop-each : goal.invariant-are_well_formed-loop-each
invariant-are_well_formed-loop-each l = well_formed_fills (drop l.each-index l.fills) ≡ well_formed_fills l.fills
