use Rattle.std.proofs.Common.{◌≡◌, drop}
use Rattle.mixin_link.specs.Summaries.{all_held}
use Rattle.mixin_link.proofs.lawful.all_held.Given as goal

abbrev pub invariant-loop-provision : goal.invariant-loop-provision
invariant-loop-provision l =
    all_held l.holes (drop l.provision-index l.provisions) ≡ all_held l.holes l.provisions
