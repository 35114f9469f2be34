use Rattle.type_unify.proofs.StackingLemmas.{OnOk-both}
use Rattle.type_unify.proofs.TakingLemmas.{Took-two}
use Rattle.type_unify.proofs.take_in.join.Goals as goal

pub returns-clause-ok : goal.returns-clause-ok
returns-clause-ok c =
    OnOk-both c.put.result
    (λ g a. Took-two c.args.swapped c.args.cells.now.items c.put.new.cells.items c.args.stack.now.items
    c.pop.new.self.items c.pop-2.new.self.items c.put.new.stack.items c.in-Some.top c.in-Some-pop.below
    c.application.result c.requires c.in-Some.ensures.items c.in-Some-pop.ensures.items c.application.ensures g a)
    c.put.ensures.cells c.put.ensures.stack
