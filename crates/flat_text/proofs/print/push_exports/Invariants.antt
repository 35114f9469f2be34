use Rattle.std.proofs.Common.{◌≡◌, [], ◌++◌, drop, map}
use Rattle.std.specs.Prelude.{codes}
use Rattle.flat_text.specs.Texts.{led_text}
use Rattle.flat_text.specs.ModuleTexts.{export_text}
use Rattle.flat_text.proofs.print.push_exports.Given as goal

abbrev pub invariant-loop-each : goal.invariant-loop-each
invariant-loop-each l =
    l.out.items ++ led_text l.before (codes ", ") (map export_text (drop l.each-index l.exports))
    ≡ l.fn.out.items ++ led_text [] (codes ", ") (map export_text l.fn.exports)
