use Rattle.std.proofs.Common.{◌≡◌, ◌++◌, drop}
use Rattle.mixin_link.specs.Answers.{linkage_names}
use Rattle.mixin_link.proofs.required.linkage_names.Given as goal

abbrev pub invariant-loop-include : goal.invariant-loop-include
invariant-loop-include l = l.names ++ linkage_names (drop l.include-index l.includes) ≡ linkage_names l.includes
