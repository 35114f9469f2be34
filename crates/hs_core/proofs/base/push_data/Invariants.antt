use Rattle.std.proofs.Common.{◌≡◌, ◌++◌, take, map}
use Rattle.hs_core.specs.Rows.{row_data}
use Rattle.hs_core.proofs.base.push_data.Given as goal

abbrev pub invariant-loop-row : goal.invariant-loop-row
invariant-loop-row l = l.exports ≡ l.initial.exports ++ map row_data (take l.row-index l.rows)
