use Rattle.std.proofs.Common.{◌≡◌, ◌++◌, take, map}
use Rattle.type_drafts.specs.Uses.{type_use}
use Rattle.type_drafts.proofs.uses.add_uses.Given as goal

abbrev pub invariant-loop-index : goal.invariant-loop-index
invariant-loop-index l = l.all ≡ l.fn.all ++ map (type_use l.name) (take l.index l.types)
