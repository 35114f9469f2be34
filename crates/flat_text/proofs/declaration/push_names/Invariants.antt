use Rattle.std.proofs.Common.{◌≡◌, ◌++◌, drop, map}
use Rattle.flat_text.specs.Texts.{led_text, bare_text}
use Rattle.flat_text.proofs.declaration.push_names.Given as goal

abbrev pub invariant-loop-each : goal.invariant-loop-each
invariant-loop-each l =
    l.out.items ++ led_text l.before l.by (map bare_text (drop l.each-index l.names))
    ≡ l.fn.out.items ++ led_text l.fn.lead l.fn.by (map bare_text l.fn.names)
