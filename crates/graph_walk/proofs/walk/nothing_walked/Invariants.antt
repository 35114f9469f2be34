use Rattle.std.proofs.Common.{◌≡◌, replicate}
use Rattle.graph_walk.specs.declared.walk.Mark.TheVariants.{New}
use Rattle.graph_walk.proofs.walk.nothing_walked.Given as goal

abbrev pub invariant-loop : goal.invariant-loop
invariant-loop l = l.marks ≡ replicate l.counter New
