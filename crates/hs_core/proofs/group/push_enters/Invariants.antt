use Rattle.std.proofs.Common.{◌≡◌, ◌++◌, ◌-◌, length, drop}
use Rattle.std.specs.Prelude.{reverse}
use Rattle.hs_core.specs.Walking.{enters}
use Rattle.hs_core.proofs.group.push_enters.Given as goal

abbrev pub invariant-loop-behind : goal.invariant-loop-behind
invariant-loop-behind l = reverse l.pending ≡ enters (drop (length l.indices - l.behind) l.indices)
    ++ reverse l.initial.pending
