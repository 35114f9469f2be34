use Rattle.std.proofs.Common.{◌≡◌, drop, None}
use Rattle.std.specs.Option.{option_copied}
use Rattle.scope_table.specs.Candidates.{chosen}
use Rattle.scope_table.proofs.table.chosen.Given as goal

abbrev pub invariant-loop-candidate : goal.invariant-loop-candidate
invariant-loop-candidate l =
    chosen l.space l.qualifier (option_copied l.found) (drop l.candidate-index l.candidates)
    ≡ chosen l.space l.qualifier None l.candidates
