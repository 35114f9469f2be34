use Rattle.std.proofs.Common.{◌≡◌, ◌++◌, drop}
use Rattle.mixin_link.specs.Summaries.{closing}
use Rattle.mixin_link.proofs.lawful.closing.Given as goal

abbrev pub invariant-loop-hole : goal.invariant-loop-hole
invariant-loop-hole l =
    l.fills ++ closing (drop l.hole-index l.holes) ≡ closing l.holes
