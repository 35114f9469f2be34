use Rattle.std.proofs.Common.{◌≡◌, take}
use Rattle.hs_modules.specs.Measures.{all_measured}
use Rattle.hs_modules.specs.Measured.{measure_of_exp, measure_of_link, measure_of_aexp, measure_of_alt_slot}
use Rattle.hs_modules.specs.Measured.{measure_of_gda, measure_of_guard, measure_of_decl_slot, measure_of_gd}
use Rattle.hs_modules.proofs.measure_expressions.+expressions.Given as goal

abbrev pub invariant-measure_exps-loop-each : goal.invariant-measure_exps-loop-each
invariant-measure_exps-loop-each l = l.total ≡ all_measured measure_of_exp (take l.each-index l.trees)

abbrev pub invariant-measure_links-loop-each : goal.invariant-measure_links-loop-each
invariant-measure_links-loop-each l = l.total ≡ all_measured measure_of_link (take l.each-index l.trees)

abbrev pub invariant-measure_aexps-loop-each : goal.invariant-measure_aexps-loop-each
invariant-measure_aexps-loop-each l = l.total ≡ all_measured measure_of_aexp (take l.each-index l.trees)

abbrev pub invariant-measure_alt_slots-loop-each : goal.invariant-measure_alt_slots-loop-each
invariant-measure_alt_slots-loop-each l = l.total ≡ all_measured measure_of_alt_slot (take l.each-index l.trees)

abbrev pub invariant-measure_gdas-loop-each : goal.invariant-measure_gdas-loop-each
invariant-measure_gdas-loop-each l = l.total ≡ all_measured measure_of_gda (take l.each-index l.trees)

abbrev pub invariant-measure_guards-loop-each : goal.invariant-measure_guards-loop-each
invariant-measure_guards-loop-each l = l.total ≡ all_measured measure_of_guard (take l.each-index l.trees)

abbrev pub invariant-measure_decl_slots-loop-each : goal.invariant-measure_decl_slots-loop-each
invariant-measure_decl_slots-loop-each l = l.total ≡ all_measured measure_of_decl_slot (take l.each-index l.trees)

abbrev pub invariant-measure_gds-loop-each : goal.invariant-measure_gds-loop-each
invariant-measure_gds-loop-each l = l.total ≡ all_measured measure_of_gd (take l.each-index l.trees)
