use Rattle.std.proofs.Common.{◌≡◌, drop}
use Rattle.hs_core.specs.WellTyped.{number_of}
use Rattle.kind_check.specs.Scopes.{decls_of}
use Rattle.type_groups.proofs.uses.place_of.Given as goal

abbrev pub invariant-loop-index : goal.invariant-loop-index
invariant-loop-index l = number_of 0 (decls_of l.decls) l.name ≡ number_of l.index (decls_of (drop l.index l.decls))
    l.name
