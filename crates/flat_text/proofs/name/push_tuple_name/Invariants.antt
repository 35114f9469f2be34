use Rattle.std.proofs.Common.{◌≡◌, ◌++◌}
use Rattle.std.specs.Prelude.{codes, replicate}
use Rattle.flat_text.proofs.name.push_tuple_name.Given as goal

abbrev pub invariant-loop-comma : goal.invariant-loop-comma
invariant-loop-comma l = l.out.items ≡ l.fn.out.items ++ (codes "(" ++ replicate l._comma 44)
