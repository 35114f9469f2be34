use Rattle.std.proofs.Common.{drop}
use Rattle.kind_check.proofs.ScopeLemmas.{Missed}
use Rattle.kind_check.proofs.scope.place_in_group.Given as goal

abbrev pub invariant-loop-index : goal.invariant-loop-index
invariant-loop-index l = Missed l.decls l.name l.index (drop l.index l.decls)
