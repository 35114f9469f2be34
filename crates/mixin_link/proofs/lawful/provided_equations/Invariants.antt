use Rattle.std.proofs.Common.{◌≡◌, ◌++◌, drop, map}
use Rattle.mixin_link.specs.Summaries.{itself}
use Rattle.mixin_link.proofs.lawful.provided_equations.Given as goal

abbrev pub invariant-loop-provision : goal.invariant-loop-provision
invariant-loop-provision l =
    l.all ++ map (λ p. itself p.ident) (drop l.provision-index l.provisions)
    ≡ map (λ p. itself p.ident) l.provisions
