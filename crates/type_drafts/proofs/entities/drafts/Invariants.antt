use Rattle.std.proofs.Common.{◌≡◌, ◌++◌, drop, ◌≤◌}
use Rattle.type_drafts.specs.Drafts.{drafts}
use Rattle.type_drafts.proofs.entities.drafts.Given as goal

abbrev pub invariant-loop-index : goal.invariant-loop-index
invariant-loop-index l = (l.all ++ drafts l.decls l.here (drop l.index l.decls) (drop l.next l.kinds)
    ≡ drafts l.decls l.here l.decls l.kinds) × (l.next ≤ l.index)
