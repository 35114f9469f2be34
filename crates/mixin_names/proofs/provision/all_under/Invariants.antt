use Rattle.std.proofs.Common.{◌≡◌, ◌++◌, drop, map}
use Rattle.mixin_names.specs.Names.{under}
use Rattle.mixin_names.proofs.provision.all_under.Given as goal

abbrev pub invariant-loop-each : goal.invariant-loop-each
invariant-loop-each l = l.all ++ map (under l.name) (drop l.each-index l.found) ≡ map (under l.name) l.found
