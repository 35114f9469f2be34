use Rattle.std.proofs.Common.{take}
use Rattle.bp_base.specs.Lists.{Among}
use Rattle.kind_env.specs.Listings.{known_kind}
use Rattle.type_drafts.specs.declared.uses.TypeUse.{TypeUse}
use Rattle.kind_module.specs.Tests.{IsStarKinded}
use Rattle.kind_module.proofs.written.all_kinded.Given as goal

abbrev pub invariant-loop-index : goal.invariant-loop-index
invariant-loop-index l = (u : TypeUse) → Among u (take l.index l.uses) → IsStarKinded (known_kind l.env.names) u.ty
