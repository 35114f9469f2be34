use Rattle.kind_check.proofs.GroupLemmas.{Gone}
use Rattle.kind_check.proofs.group.solve_group.Given as goal

abbrev pub invariant-loop-index : goal.invariant-loop-index
invariant-loop-index l = Gone l.known l.decls l.index l.bindings l.next
