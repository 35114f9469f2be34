use Rattle.std.proofs.Common.{take}
use Rattle.std.specs.Prelude.{flat_map}
use Rattle.hs_core.specs.Types.{count}
use Rattle.hs_core.specs.WellTyped.{field_terms}
use Rattle.kind_check.specs.Scopes.{names_under, variables_under}
use Rattle.kind_check.specs.Walks.{Imposes, stars}
use Rattle.kind_check.proofs.decl.all_fields_star.Given as goal

abbrev pub invariant-loop-index : goal.invariant-loop-index
invariant-loop-index l = Imposes
    (stars (names_under l.known l.decls) (variables_under l.first (count l.params))
    (flat_map (field_terms l.params) (take l.index l.cons)))
    l.fn.bindings l.bindings l.fn.next l.next
