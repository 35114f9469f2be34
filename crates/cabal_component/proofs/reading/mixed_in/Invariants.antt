use Rattle.std.proofs.Common.{◌≡◌, ◌++◌, drop, map}
use Rattle.cabal_component.proofs.reading.mixed_in.Given as goal

abbrev pub invariant-loop-mixin : goal.invariant-loop-mixin
invariant-loop-mixin l = l.names ++ map (λ m. m.dep) (drop l.mixin-index l.mixins) ≡ map (λ m. m.dep) l.mixins
