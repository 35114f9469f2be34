use Rattle.std.proofs.Common.{take}
use Rattle.bp_base.specs.Lists.{Among}
use Rattle.kind_check.specs.Answers.{known_synonyms}
use Rattle.type_drafts.specs.declared.uses.TypeUse.{TypeUse}
use Rattle.kind_module.specs.Tests.{IsFull}
use Rattle.kind_module.proofs.written.all_full.Given as goal

abbrev pub invariant-loop-index : goal.invariant-loop-index
invariant-loop-index l = (u : TypeUse) → Among u (take l.index l.uses) → IsFull (known_synonyms l.env.names) u.ty
