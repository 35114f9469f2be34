use Rattle.std.proofs.Common.{◌≡◌, ◌++◌, drop}
use Rattle.mixin_names.specs.Names.{provided_names}
use Rattle.mixin_names.proofs.provision.provided_names.Given as goal

abbrev pub invariant-loop-each : goal.invariant-loop-each
invariant-loop-each l = l.names ++ provided_names (drop l.each-index l.exposed) ≡ provided_names l.exposed
