use Rattle.plain_check.proofs.IllLemmas.{ill_refused}
use Rattle.plain_check.proofs.check.check_module.Goals as goal

pub returns-in_ok-ill_typed-in-Err-IllTyped-clause-checks : goal.returns-in_ok-ill_typed-in-Err-IllTyped-clause-checks
returns-in_ok-ill_typed-in-Err-IllTyped-clause-checks g c =
    ill_refused c.args.component.now c.args.plain.now c.as_slice-bindings.result.now c.in-Err-IllTyped.place
    c.in_ok-ill_typed-in-Err-IllTyped.field-0 c.index-bindings-place.result
    c.as_slice-bindings.ensures (rw c.in-Err-IllTyped.field-0-is at c.in-Err-IllTyped.ensures.outcome)
    c.in_ok-ill_typed-in-Err-IllTyped.ensures
