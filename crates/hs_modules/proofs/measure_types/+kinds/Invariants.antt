use Rattle.std.proofs.Common.{◌≡◌, take}
use Rattle.hs_modules.specs.Measures.{all_measured}
use Rattle.hs_modules.specs.Measured.{measure_of_akind}
use Rattle.hs_modules.proofs.measure_types.+kinds.Given as goal

abbrev pub invariant-measure_akinds-loop-each : goal.invariant-measure_akinds-loop-each
invariant-measure_akinds-loop-each l = l.total ≡ all_measured measure_of_akind (take l.each-index l.trees)
