use Rattle.std.proofs.Common.{◌∙◌}
use Rattle.declared_kinds.proofs.SourceLemmas.{kind_for-here, kind_for-past, some_lent, none_lent}
use Rattle.declared_kinds.proofs.source.kind_for.Goals as goal

pub returns-then-members-index-clause-some : goal.returns-then-members-index-clause-some
returns-then-members-index-clause-some c =
    some_lent c.at.result _ _ c.at.ensures (c.loop-index.invariant
    ∙ kind_for-here c.args.members.now c.args.kinds.now c.loop-index.index c.args.number 0 c.loop-index-test.true
    c.if-members-index.true)

pub returns-then-members-index-clause-none : goal.returns-then-members-index-clause-none
returns-then-members-index-clause-none c =
    none_lent c.at.result _ _ c.at.ensures (c.loop-index.invariant
    ∙ kind_for-here c.args.members.now c.args.kinds.now c.loop-index.index c.args.number 0 c.loop-index-test.true
    c.if-members-index.true)

pub loop-index-preserved : goal.loop-index-preserved
loop-index-preserved c =
    c.loop-index.invariant
    ∙ kind_for-past c.args.members.now c.args.kinds.now c.loop-index.index c.args.number 0 c.loop-index-test.true
    c.if-members-index.false
