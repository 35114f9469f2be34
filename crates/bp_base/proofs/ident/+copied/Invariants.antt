use Rattle.std.proofs.Common.{◌≡◌, ◌++◌, drop}
use Rattle.bp_base.proofs.ident.+copied.Given as goal

abbrev pub invariant-copied_fills-loop-each : goal.invariant-copied_fills-loop-each
invariant-copied_fills-loop-each l = l.all ++ drop l.each-index l.each-items ≡ l.fills
