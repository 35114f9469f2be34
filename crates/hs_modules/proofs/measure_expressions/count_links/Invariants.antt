use Rattle.std.proofs.Common.{◌≡◌, ◌+◌, take}
use Rattle.std.specs.Prelude.{map, min, sum}
use Rattle.hs_modules.specs.ExpressionExtents.{operators_of_link}
use Rattle.hs_modules.specs.Measures.{most}
use Rattle.hs_modules.proofs.measure_expressions.count_links.Given as goal

abbrev pub invariant-loop-each : goal.invariant-loop-each
invariant-loop-each l = l.count ≡ min (l.start + sum (map operators_of_link (take l.each-index l.trees))) most
