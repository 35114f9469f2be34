use Rattle.std.proofs.Common.{◌≡◌, take}
use Rattle.type_drafts.specs.Uses.{value_uses}
use Rattle.type_drafts.proofs.uses.value_uses.Given as goal

abbrev pub invariant-loop-index : goal.invariant-loop-index
invariant-loop-index l = l.all ≡ value_uses (take l.index l.decls)
