use Rattle.std.proofs.Common.{◌≡◌, ◌++◌, ◌≤◌}
use Rattle.hs_plain.specs.Text.{arrows_text}
use Rattle.hs_plain.proofs.print.push_arrows.Given as goal

abbrev pub invariant-loop : goal.invariant-loop
invariant-loop l = (l.out.items ≡ l.fn.out.items ++ arrows_text l.counter) × (l.counter ≤ l.arrows)
