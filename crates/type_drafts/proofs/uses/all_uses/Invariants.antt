use Rattle.std.proofs.Common.{◌≡◌, take}
use Rattle.type_drafts.specs.Uses.{all_uses}
use Rattle.type_drafts.proofs.uses.all_uses.Given as goal

abbrev pub invariant-loop-index : goal.invariant-loop-index
invariant-loop-index l = l.all ≡ all_uses (take l.index l.decls)
