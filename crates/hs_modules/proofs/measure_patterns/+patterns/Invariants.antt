use Rattle.std.proofs.Common.{◌≡◌, take}
use Rattle.hs_modules.specs.Measures.{all_measured}
use Rattle.hs_modules.specs.Measured.{measure_of_pat, measure_of_op_lpat, measure_of_apat}
use Rattle.hs_modules.proofs.measure_patterns.+patterns.Given as goal

abbrev pub invariant-measure_pats-loop-each : goal.invariant-measure_pats-loop-each
invariant-measure_pats-loop-each l = l.total ≡ all_measured measure_of_pat (take l.each-index l.trees)

abbrev pub invariant-measure_op_lpats-loop-each : goal.invariant-measure_op_lpats-loop-each
invariant-measure_op_lpats-loop-each l = l.total ≡ all_measured measure_of_op_lpat (take l.each-index l.trees)

abbrev pub invariant-measure_apats-loop-each : goal.invariant-measure_apats-loop-each
invariant-measure_apats-loop-each l = l.total ≡ all_measured measure_of_apat (take l.each-index l.trees)
