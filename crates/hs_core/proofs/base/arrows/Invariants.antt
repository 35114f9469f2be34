use Rattle.std.proofs.Common.{◌≡◌, ◌-◌, length, drop}
use Rattle.hs_core.specs.Rows.{arrows}
use Rattle.hs_core.proofs.base.arrows.Given as goal

abbrev pub invariant-loop-behind : goal.invariant-loop-behind
invariant-loop-behind l = l.ty ≡ arrows (drop (length l.params - l.behind) l.params) l.fn.gives
