use Rattle.std.proofs.Common.{◌≡◌, ◌++◌, length}
use Rattle.std.specs.Prelude.{flat_map, reverse}
use Rattle.hs_body_forms.specs.Bodies.{slots_of}
use Rattle.hs_bodies.proofs.slots.add_parts.Given as goal

abbrev pub invariant-parts : goal.invariant-parts
invariant-parts l = l.fn.before ++ flat_map slots_of l.fn.parts ≡ l.slots ++ flat_map slots_of (reverse l.back)

abbrev pub decreases-parts : goal.decreases-parts
decreases-parts l = length l.back
