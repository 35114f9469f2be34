use Rattle.std.proofs.Common.{◌≡◌, ◌++◌, take}
use Rattle.std.specs.Prelude.{flat_map}
use Rattle.written_types.specs.WrittenTypes.{types_in_exp, types_in_decl, types_in_guard, types_in_alt}
use Rattle.written_types.specs.Lists.{types_in_choice}
use Rattle.written_types.proofs.walk.+exp.Given as goal

abbrev pub invariant-add_exps-loop-each : goal.invariant-add_exps-loop-each
invariant-add_exps-loop-each l = l.all ≡ l.fn.all ++ flat_map types_in_exp (take l.each-index l.exps)

abbrev pub invariant-add_decls-loop-each : goal.invariant-add_decls-loop-each
invariant-add_decls-loop-each l = l.all ≡ l.fn.all ++ flat_map types_in_decl (take l.each-index l.decls)

abbrev pub invariant-add_choices-loop-each : goal.invariant-add_choices-loop-each
invariant-add_choices-loop-each l = l.all ≡ l.fn.all ++ flat_map types_in_choice (take l.each-index l.choices)

abbrev pub invariant-add_guards-loop-each : goal.invariant-add_guards-loop-each
invariant-add_guards-loop-each l = l.all ≡ l.fn.all ++ flat_map types_in_guard (take l.each-index l.guards)

abbrev pub invariant-add_alts-loop-each : goal.invariant-add_alts-loop-each
invariant-add_alts-loop-each l = l.all ≡ l.fn.all ++ flat_map types_in_alt (take l.each-index l.alts)
