use Rattle.std.proofs.lemmas.Result.{err_from_is_err_and}
use Rattle.hs_binding_forms.proofs.BindingLemmas.{left_failed, right_failed, binding_took}
use Rattle.hs_bindings.proofs.declarations.read_binding.Goals as goal

pub returns-in_err-left : goal.returns-in_err-left
returns-in_err-left g c =
    let p = err_from_is_err_and c.from_residual.result c.from_residual.ensures.1 in
    rw (p.1, p.2) (left_failed c.args.limit c.args.tokens.now _ c.in_err-left.ensures)

pub returns-in_err-right : goal.returns-in_err-right
returns-in_err-right g c =
    let p = err_from_is_err_and c.from_residual-in_err-right.result c.from_residual-in_err-right.ensures.1 in
    rw (p.1, p.2) (right_failed c.args.limit c.args.tokens.now _ _ _ c.in_ok-left.ensures _ c.in_err-right.ensures)

pub returns : goal.returns
returns g c =
    rw (c.binding_of.ensures, c.max.ensures) (binding_took c.args.limit c.args.tokens.now _ _ _ c.in_ok-left.ensures _ _ _
    c.in_ok-right.ensures)
