use Rattle.std.proofs.Common.{◌≡◌, drop}
use Rattle.mixin_names.specs.Names.{first_missing}
use Rattle.mixin_names.proofs.provision.first_missing.Given as goal

abbrev pub invariant-loop-name : goal.invariant-loop-name
invariant-loop-name l = first_missing l.there (drop l.name-index l.names) ≡ first_missing l.there l.names
