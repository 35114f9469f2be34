use Rattle.std.proofs.Common.{◌≡◌, ◌++◌, drop}
use Rattle.hs_core.specs.Rename.{composed_shown}
use Rattle.hs_core.proofs.rename.rename_showns.Given as goal

abbrev pub invariant-loop-each : goal.invariant-loop-each
invariant-loop-each l = l.made ++ composed_shown (drop l.each-index l.each-items) l.by ≡ composed_shown l.all l.by
