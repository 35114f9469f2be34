use Rattle.std.proofs.Common.{◌≡◌, ◌++◌, length}
use Rattle.std.specs.Prelude.{flat_map, reverse}
use Rattle.hs_signature_forms.specs.Signatures.{slots_of}
use Rattle.hs_signatures.proofs.slots.add_parts.Given as goal

abbrev pub invariant-parts : goal.invariant-parts
invariant-parts l = l.fn.before ++ flat_map slots_of l.fn.parts ≡ l.slots ++ flat_map slots_of (reverse l.back)

abbrev pub decreases-parts : goal.decreases-parts
decreases-parts l = length l.back
