use Rattle.hs_core_laws.proofs.LocalExamples.{group_after_group_is_typed, polymorphic_recursion_is_typed}
use Rattle.hs_core_laws.proofs.LocalExamples.{where_is_seen_in_guards}
use Rattle.hs_core_laws.proofs.programs.local_declarations.Goals as goal

pub returns-clause-groups : goal.returns-clause-groups
returns-clause-groups c = group_after_group_is_typed

pub returns-clause-recursion : goal.returns-clause-recursion
returns-clause-recursion c = polymorphic_recursion_is_typed

pub returns-clause-guards : goal.returns-clause-guards
returns-clause-guards c = where_is_seen_in_guards
