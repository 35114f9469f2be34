use Rattle.std.proofs.Common.{◌≡◌, ◌++◌, drop, map}
use Rattle.flat_text.specs.Texts.{led_text}
use Rattle.flat_text.specs.PatternTexts.{pat_text}
use Rattle.flat_text.proofs.pattern.+patterns.Given as goal

abbrev pub invariant-push_pats-loop-each : goal.invariant-push_pats-loop-each
invariant-push_pats-loop-each l =
    l.out.items ++ led_text l.before l.by (map pat_text (drop l.each-index l.each-items))
    ≡ l.fn.out.items ++ led_text l.fn.lead l.fn.by (map pat_text l.fn.pats)
