use Rattle.std.proofs.Common.{◌≡◌, take, map}
use Rattle.type_drafts.specs.Drafts.{draft_con}
use Rattle.type_drafts.proofs.entities.draft_cons.Given as goal

abbrev pub invariant-loop-index : goal.invariant-loop-index
invariant-loop-index l = l.all ≡ map (draft_con l.whole l.params) (take l.index l.cons)
