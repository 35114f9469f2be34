use Rattle.plain_trees.proofs.SetLemmas.{twice, set_more, twice_if, distinct_if, distinct_from}
use Rattle.plain_trees.proofs.sets.set_of.Goals as goal

pub returns-then-not-branch : goal.returns-then-not-branch
returns-then-not-branch c =
    twice_if c.args.names.now
    (twice c.args.names.now c.loop-name.name-index c.name-item.result c.in_ok-name.name c.loop-name.set
    c.in_ok-insert.field-0 c.loop-name-test.true
    c.name-item.is c.in_ok-name.ensures c.loop-name.invariant.0 c.in_ok-insert.ensures.added c.if-not-branch.true)

pub loop-name-preserved : goal.loop-name-preserved
loop-name-preserved c =
    let more = set_more c.args.names.now c.loop-name.name-index c.name-item.result c.in_ok-name.name c.loop-name.set
    c.insert.new.self c.in_ok-insert.field-0
    c.loop-name-test.true c.name-item.is c.in_ok-name.ensures c.in_ok-insert.ensures.updates.0
    c.in_ok-insert.ensures.added c.if-not-branch.false
    (c.loop-name.invariant.0, distinct_from _ c.loop-name.invariant.1) in
    (more.0, distinct_if _ more.1)
