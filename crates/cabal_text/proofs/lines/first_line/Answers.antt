use Rattle.cabal_text.proofs.SplitLemmas.{last_line, next_line}
use Rattle.cabal_text.proofs.lines.first_line.Goals as goal

pub returns-then-len-text-clause-split : goal.returns-then-len-text-clause-split
returns-then-len-text-clause-split c = last_line c.args.text.now c.line_len-len.result c.requires
    c.line_len-len.ensures.value c.if-len-text.true

pub returns-else-len-text-clause-split : goal.returns-else-len-text-clause-split
returns-else-len-text-clause-split c =
    next_line c.args.text.now c.without_return.result.now c.line_len-len.result c.line_len-len.ensures.value
    c.line_len-len.ensures.within
    c.if-len-text.false c.without_return.ensures
