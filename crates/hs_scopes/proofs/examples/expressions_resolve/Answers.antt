use Rattle.hs_scopes.proofs.ExampleLemmas.{minus_groups_left, sign_binds_as_plus, equality_does_not_group}
use Rattle.hs_scopes.proofs.ExampleLemmas.{sections_resolve, right_groups, locals_hide, local_fixities}
use Rattle.hs_scopes.proofs.examples.expressions_resolve.Goals as goal

pub returns-clause-left : goal.returns-clause-left
returns-clause-left c = minus_groups_left

pub returns-clause-sign : goal.returns-clause-sign
returns-clause-sign c = sign_binds_as_plus

pub returns-clause-equality : goal.returns-clause-equality
returns-clause-equality c = equality_does_not_group

pub returns-clause-sections : goal.returns-clause-sections
returns-clause-sections c = sections_resolve

pub returns-clause-right : goal.returns-clause-right
returns-clause-right c = right_groups

pub returns-clause-hide : goal.returns-clause-hide
returns-clause-hide c = locals_hide

pub returns-clause-local : goal.returns-clause-local
returns-clause-local c = local_fixities
