use Rattle.std.proofs.Common.{◌≡◌, ◌++◌, drop, map}
use Rattle.mixin_link.specs.Answers.{provision_in}
use Rattle.mixin_link.proofs.written.provisions_in.Given as goal

abbrev pub invariant-loop-provision : goal.invariant-loop-provision
invariant-loop-provision l =
    l.all ++ map (provision_in l.fills) (drop l.provision-index l.provides) ≡ map (provision_in l.fills) l.provides
