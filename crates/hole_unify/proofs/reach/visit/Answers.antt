use Rattle.hole_unify.proofs.SearchingLemmas.{agree-pushed, free-pushed}
use Rattle.hole_unify.proofs.reach.visit.Goals as goal

pub returns-in_ok-push-clause-marked : goal.returns-in_ok-push-clause-marked
returns-in_ok-push-clause-marked c = agree-pushed c.args.marks.now c.args.done.now.items c.push.new.self.items
    c.args.class c.requires.below c.requires.marked c.in_ok-push.ensures.items

pub returns-in_ok-push-clause-free : goal.returns-in_ok-push-clause-free
returns-in_ok-push-clause-free c = free-pushed c.args.marks.now c.args.done.now.items c.push.new.self.items c.args.class
    c.requires.below c.if-not-marks-class.true c.in_ok-push.ensures.items
