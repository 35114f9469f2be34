use Rattle.std.proofs.Common.{◌≡◌, ◌++◌, take}
use Rattle.hs_core.specs.WellTyped.{written_fields}
use Rattle.type_drafts.proofs.uses.add_cons.Given as goal

abbrev pub invariant-loop-index : goal.invariant-loop-index
invariant-loop-index l = l.all ≡ l.fn.all ++ written_fields (take l.index l.cons)
