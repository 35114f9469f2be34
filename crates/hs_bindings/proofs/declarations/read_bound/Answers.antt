use Rattle.hs_binding_forms.proofs.BindingLemmas.{bound_took, both_failed}
use Rattle.hs_bindings.proofs.declarations.read_bound.Goals as goal

pub returns-in-Ok : goal.returns-in-Ok
returns-in-Ok g c = bound_took c.args.limit c.args.tokens.now _ _ _ c.in-Ok.ensures

pub returns-in-Err-At : goal.returns-in-Err-At
returns-in-Err-At g c =
    let r = rw c.in-Err-At.field-0-is at c.in-Err-At.ensures in
    rw c.min.ensures (both_failed c.args.limit c.args.tokens.now c.args.left _ c.requires.refused r)
