use Rattle.std.proofs.Common.{◌≡◌, ◌++◌, drop}
use Rattle.mixin_link.specs.Summaries.{own_fills}
use Rattle.mixin_link.proofs.lawful.own_fills.Given as goal

abbrev pub invariant-loop-hole : goal.invariant-loop-hole
invariant-loop-hole l =
    l.fills ++ own_fills (drop l.hole-index l.holes) ≡ own_fills l.holes
