use Rattle.std.proofs.Common.{◌≡◌, [], drop}
use Rattle.mixin_link.specs.Answers.{in_order}
use Rattle.mixin_link.proofs.required.ordered_set.Given as goal

abbrev pub invariant-loop-name : goal.invariant-loop-name
invariant-loop-name l = in_order l.set.keys (drop l.name-index l.names) ≡ in_order [] l.names
