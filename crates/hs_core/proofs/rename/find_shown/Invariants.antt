use Rattle.std.proofs.Common.{◌≡◌, drop}
use Rattle.hs_core.specs.Rename.{shown_for}
use Rattle.hs_core.proofs.rename.find_shown.Given as goal

abbrev pub invariant-loop-each : goal.invariant-loop-each
invariant-loop-each l = shown_for l.hole l.space l.occ (drop l.each-index l.all) ≡ shown_for l.hole l.space l.occ l.all
