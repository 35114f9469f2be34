use Rattle.std.proofs.Common.{◌≡◌, ◌++◌, length}
use Rattle.std.specs.Prelude.{reverse}
use Rattle.hs_bodies.proofs.slots.reversed.Given as goal

abbrev pub invariant-parts : goal.invariant-parts
invariant-parts l = l.fn.parts ≡ l.left ++ reverse l.back

abbrev pub decreases-parts : goal.decreases-parts
decreases-parts l = length l.left
