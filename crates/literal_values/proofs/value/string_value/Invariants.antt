use Rattle.std.proofs.Common.{◌≡◌, ◌++◌, length}
use Rattle.literal_values.specs.Values.{string_codes, string_value}
use Rattle.literal_values.proofs.value.string_value.Given as goal

abbrev pub invariant-items : goal.invariant-items
invariant-items l = l.codes ++ string_codes 0 l.left ≡ string_value l.fn.text

abbrev pub decreases-items : goal.decreases-items
decreases-items l = length l.left
