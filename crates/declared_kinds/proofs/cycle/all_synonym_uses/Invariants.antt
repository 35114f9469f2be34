use Rattle.std.proofs.Common.{◌≡◌, map, take}
use Rattle.kind_check.specs.Scopes.{decls_of}
use Rattle.declared_kinds.specs.Cycles.{synonym_use}
use Rattle.declared_kinds.proofs.cycle.all_synonym_uses.Given as goal

abbrev pub invariant-loop-index : goal.invariant-loop-index
invariant-loop-index l = l.all ≡ map (synonym_use (decls_of l.decls)) (take l.index l.decls)
