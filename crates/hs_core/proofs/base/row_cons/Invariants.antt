use Rattle.std.proofs.Common.{◌≡◌, take, map}
use Rattle.hs_core.specs.Rows.{row_con}
use Rattle.hs_core.proofs.base.row_cons.Given as goal

abbrev pub invariant-loop-row : goal.invariant-loop-row
invariant-loop-row l = l.cons ≡ map row_con (take l.row-index l.rows)
