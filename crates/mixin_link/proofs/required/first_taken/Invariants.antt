use Rattle.std.proofs.Common.{◌≡◌, drop}
use Rattle.mixin_link.specs.Answers.{first_taken}
use Rattle.mixin_link.proofs.required.first_taken.Given as goal

abbrev pub invariant-loop-name : goal.invariant-loop-name
invariant-loop-name l = first_taken l.own (drop l.name-index l.names) ≡ first_taken l.own l.names
