use Rattle.std.proofs.Common.{◌≡◌, ◌++◌, []}
use Rattle.mixin_link.specs.Answers.{in_order}
use Rattle.mixin_link.proofs.required.in_order.Given as goal

abbrev pub invariant-loop-name : goal.invariant-loop-name
invariant-loop-name l = l.ordered ++ l.name-iterator ≡ in_order [] l.names
