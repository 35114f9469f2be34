use Rattle.std.proofs.Common.{ℕ, ◌<◌, length}
use Rattle.bp_base.specs.Lists.{Among}
use Rattle.hs_core.specs.Groups.{uses_at}
use Rattle.hs_core.proofs.group.all_in_range.Given as goal

abbrev pub invariant-loop-user : goal.invariant-loop-user
invariant-loop-user l = (v w : ℕ) → v < l.user → Among w (uses_at l.uses v) → w < length l.uses
