use Rattle.std.proofs.Common.{◌≡◌, take}
use Rattle.std.specs.Prelude.{map}
use Rattle.kind_check.specs.Scopes.{decls_of}
use Rattle.type_groups.specs.Uses.{use_list}
use Rattle.type_groups.proofs.uses.all_uses.Given as goal

abbrev pub invariant-loop-index : goal.invariant-loop-index
invariant-loop-index l = l.all ≡ map (use_list (decls_of l.decls)) (take l.index l.decls)
