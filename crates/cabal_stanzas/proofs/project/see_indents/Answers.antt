use Rattle.std.proofs.Common.{refl}
use Rattle.cabal_stanzas.proofs.BlockedLemmas.{shallow_at}
use Rattle.cabal_stanzas.proofs.project.see_indents.Goals as goal

pub returns-then-line-first : goal.returns-then-line-first
returns-then-line-first c =
    shallow_at c.args.lines.now _ c.first-item.result c.loop-line.line-index c.line-item.result
    c.in-len1-up.len_at_least c.first-item.is refl
    c.loop-line-test.true c.line-item.is c.if-line-first.true c.loop-line.invariant
