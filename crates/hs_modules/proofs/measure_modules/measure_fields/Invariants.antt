use Rattle.std.proofs.Common.{◌≡◌, take}
use Rattle.hs_modules.specs.Measures.{all_measured}
use Rattle.hs_modules.specs.Measured.{measure_of_field}
use Rattle.hs_modules.proofs.measure_modules.measure_fields.Given as goal

abbrev pub invariant-loop-each : goal.invariant-loop-each
invariant-loop-each l = l.total ≡ all_measured measure_of_field (take l.each-index l.trees)
