use Rattle.std.proofs.Common.{◌≡◌, ◌≤◌, length}
use Rattle.std.specs.List.{fold}
use Rattle.hs_lex.specs.Numbers.{one_more, value_of}
use Rattle.literal_values.proofs.number.number.Given as goal

abbrev pub invariant-digits : goal.invariant-digits
invariant-digits l = record {
  same : fold (one_more l.base) l.value l.left ≡ value_of l.base l.fn.digits;
  within : l.value ≤ l.limit;
}

abbrev pub decreases-digits : goal.decreases-digits
decreases-digits l = length l.left
