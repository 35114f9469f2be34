use Rattle.std.proofs.Common.{◌≡◌, [], ◌++◌, take, drop, map}
use Rattle.std.specs.Prelude.{codes}
use Rattle.std.specs.List.{flat_map}
use Rattle.flat_text.specs.Texts.{led_text}
use Rattle.flat_text.specs.ExpressionTexts.{exp_text, decl_text, alt_text, guard_text, choice_text}
use Rattle.flat_text.proofs.expression.+exp.Given as goal

abbrev pub invariant-push_exps-loop-each : goal.invariant-push_exps-loop-each
invariant-push_exps-loop-each l =
    l.out.items ++ led_text l.before l.by (map (exp_text l.place) (drop l.each-index l.each-items))
    ≡ l.fn.out.items ++ led_text l.fn.lead l.fn.by (map (exp_text l.fn.place) l.fn.exps)

abbrev pub invariant-push_decls-loop-each : goal.invariant-push_decls-loop-each
invariant-push_decls-loop-each l =
    l.out.items ++ led_text l.before l.by (map decl_text (drop l.each-index l.each-items))
    ≡ l.fn.out.items ++ led_text l.fn.lead l.fn.by (map decl_text l.fn.decls)

abbrev pub invariant-push_choices-loop-each : goal.invariant-push_choices-loop-each
invariant-push_choices-loop-each l =
    l.out.items ≡ l.fn.out.items ++ flat_map (choice_text l.sign) (take l.each-index l.each-items)

abbrev pub invariant-push_guards-loop-each : goal.invariant-push_guards-loop-each
invariant-push_guards-loop-each l =
    l.out.items ++ led_text l.before (codes ", ") (map guard_text (drop l.each-index l.each-items))
    ≡ l.fn.out.items ++ led_text (codes " | ") (codes ", ") (map guard_text l.fn.guards)

abbrev pub invariant-push_alts-loop-each : goal.invariant-push_alts-loop-each
invariant-push_alts-loop-each l =
    l.out.items ++ led_text l.before (codes "; ") (map alt_text (drop l.each-index l.each-items))
    ≡ l.fn.out.items ++ led_text [] (codes "; ") (map alt_text l.fn.alts)
