use Rattle.std.proofs.Common.{◌≡◌, ◌++◌, drop, map}
use Rattle.mixin_link.specs.Opening.{open_in, first_refusal}
use Rattle.mixin_link.proofs.entry.open_all.Given as goal

abbrev pub invariant-loop-entry : goal.invariant-loop-entry
invariant-loop-entry l =
    (l.all ++ map (open_in l.summaries) (drop l.entry-index l.entries) ≡ map (open_in l.summaries) l.entries)
    × (first_refusal l.summaries (drop l.entry-index l.entries) ≡ first_refusal l.summaries l.entries)
