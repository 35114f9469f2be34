use Rattle.std.proofs.Common.{length}
use Rattle.type_unify.specs.Cells.{seen}
use Rattle.type_unify.proofs.StackingLemmas.{visit_within, front_within, visit_same, visit_fewer, join_same, join_fewer}
use Rattle.type_unify.proofs.spell.spell.Goals as goal

pub perform-requires-clause-within : goal.perform-requires-clause-within
perform-requires-clause-within c =
    visit_within (length c.args.cells.now) c.loop-task.tasks.items c.pop.new.self.items c.in-Some.task c.in-Visit.at
    c.loop-task.invariant.within c.in-Some.ensures.items c.in-Visit.is

pub loop-task-smaller-in-Continue-branch-2 : goal.loop-task-smaller-in-Continue-branch-2
loop-task-smaller-in-Continue-branch-2 c =
    visit_fewer (seen c.args.cells.now c.args.entries.now.entries)
    (length c.args.cells.now) c.in-Visit.at c.loop-task.tasks.items c.pop.new.self.items c.perform.new.tasks.items
    c.in-Some.task c.loop-task.out.items c.perform.new.out.items c.in-Some.ensures.items c.in-Visit.is
    c.in_ok-perform-in-Visit.ensures

pub loop-task-preserved-in-Continue-branch-2 : goal.loop-task-preserved-in-Continue-branch-2
loop-task-preserved-in-Continue-branch-2 c = record {
  within = c.in_ok-perform-in-Visit.ensures.within
      (front_within (length c.args.cells.now) c.loop-task.tasks.items c.pop.new.self.items c.in-Some.task
      c.loop-task.invariant.within c.in-Some.ensures.items);
  same = visit_same (seen c.args.cells.now c.args.entries.now.entries)
      (length c.args.cells.now) c.in-Visit.at c.loop-task.tasks.items c.pop.new.self.items c.perform.new.tasks.items
      c.in-Some.task c.loop-task.out.items c.perform.new.out.items _ c.in-Some.ensures.items c.in-Visit.is
      c.in_ok-perform-in-Visit.ensures c.loop-task.invariant.same;
}

pub loop-task-smaller : goal.loop-task-smaller
loop-task-smaller c =
    join_fewer (seen c.args.cells.now c.args.entries.now.entries) c.loop-task.tasks.items c.pop.new.self.items
    c.in-Some.task c.in-Some.ensures.items c.in-Join.is

pub loop-task-preserved : goal.loop-task-preserved
loop-task-preserved c = record {
  within = front_within (length c.args.cells.now) c.loop-task.tasks.items c.pop.new.self.items c.in-Some.task
      c.loop-task.invariant.within c.in-Some.ensures.items;
  same = join_same (seen c.args.cells.now c.args.entries.now.entries) c.loop-task.tasks.items c.pop.new.self.items
      c.in-Some.task c.loop-task.out.items c.put.new.out.items _ c.in-Some.ensures.items c.in-Join.is
      c.in_ok-put-in-Join.ensures c.loop-task.invariant.same;
}
