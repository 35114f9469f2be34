use Rattle.std.proofs.Common.{◌≡◌, ◌++◌, length}
use Rattle.type_unify.specs.Written.{nodes_of}
use Rattle.type_unify.specs.Cells.{seen}
use Rattle.type_unify.specs.Stacks.{written, load, TasksBelow}
use Rattle.type_unify.proofs.spell.spell.Given as goal

abbrev pub invariant-loop-task : goal.invariant-loop-task
invariant-loop-task l = record {
  within : TasksBelow (length l.cells) l.tasks.items;
  same : l.out.items ++ written (seen l.cells l.entries.entries) l.tasks.items ≡ l.fn.out.items
      ++ nodes_of (seen l.cells l.entries.entries l.start);
}

abbrev pub decreases-loop-task : goal.decreases-loop-task
decreases-loop-task l = load (seen l.cells l.entries.entries) l.tasks.items
