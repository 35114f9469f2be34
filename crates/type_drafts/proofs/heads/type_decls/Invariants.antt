use Rattle.std.proofs.Common.{◌≡◌, take}
use Rattle.hs_core.specs.WellTyped.{type_decls, located}
use Rattle.kind_check.specs.Scopes.{decls_of}
use Rattle.type_drafts.proofs.heads.type_decls.Given as goal

abbrev pub invariant-loop-index : goal.invariant-loop-index
invariant-loop-index l = decls_of l.all ≡ type_decls (located l.at (take l.index l.decls))
