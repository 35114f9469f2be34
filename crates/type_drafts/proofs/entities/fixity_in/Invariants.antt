use Rattle.std.proofs.Common.{◌≡◌, drop}
use Rattle.type_drafts.specs.Drafts.{fixity_in}
use Rattle.type_drafts.proofs.entities.fixity_in.Given as goal

abbrev pub invariant-loop-index : goal.invariant-loop-index
invariant-loop-index l = fixity_in l.decls l.name ≡ fixity_in (drop l.index l.decls) l.name
