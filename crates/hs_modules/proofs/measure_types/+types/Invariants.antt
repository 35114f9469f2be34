use Rattle.std.proofs.Common.{◌≡◌, take}
use Rattle.hs_modules.specs.Measures.{all_measured}
use Rattle.hs_modules.specs.Measured.{measure_of_type, measure_of_btype, measure_of_atype}
use Rattle.hs_modules.proofs.measure_types.+types.Given as goal

abbrev pub invariant-measure_types-loop-each : goal.invariant-measure_types-loop-each
invariant-measure_types-loop-each l = l.total ≡ all_measured measure_of_type (take l.each-index l.trees)

abbrev pub invariant-measure_btypes-loop-each : goal.invariant-measure_btypes-loop-each
invariant-measure_btypes-loop-each l = l.total ≡ all_measured measure_of_btype (take l.each-index l.trees)

abbrev pub invariant-measure_atypes-loop-each : goal.invariant-measure_atypes-loop-each
invariant-measure_atypes-loop-each l = l.total ≡ all_measured measure_of_atype (take l.each-index l.trees)
