use Rattle.std.proofs.Common.{◌≡◌, ◌-◌, length, drop}
use Rattle.hs_core.specs.Rows.{row_type}
use Rattle.hs_core.proofs.base.row_type.Given as goal

abbrev pub invariant-loop-behind : goal.invariant-loop-behind
invariant-loop-behind l = l.ty ≡ row_type (drop (length l.arguments - l.behind) l.arguments) l.fn.gives
