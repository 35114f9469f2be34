-- What a step of writing a type does.
use Rattle.std.specs.Prelude.{◌≡◌, ℕ, ◌+◌, ◌*◌, ◌<◌, List, ◌++◌}
use Rattle.type_unify.specs.Types.{Plain}
use Rattle.type_unify.specs.Written.{nodes_of}
use Rattle.type_unify.specs.Steps.{size}
use Rattle.type_unify.specs.Stacks.{written, TasksBelow, load}
use Rattle.type_unify.specs.declared.term.Node.{Node}
use Rattle.type_unify.specs.declared.spell.Task.{Task}

-- the type of one number is written, or what is left to write spells it
pub record Performs (f : ℕ → Plain) (m i : ℕ) (old new : List Task) (before after : List Node) : Type 0 where
  pub same : after ++ written f new ≡ before ++ nodes_of (f i) ++ written f old
  pub fewer : load f new < 2 * size (f i) + load f old
  pub within : TasksBelow m old → TasksBelow m new
