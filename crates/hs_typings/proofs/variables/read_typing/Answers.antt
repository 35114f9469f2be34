use Rattle.std.proofs.lemmas.Result.{err_from_is_err_and}
use Rattle.hs_declaration_forms.proofs.TypingLemmas.{vars_failed, typing_missed, typing_failed, typing_took}
use Rattle.hs_typings.proofs.variables.read_typing.Goals as goal

pub returns-in_err-vars : goal.returns-in_err-vars
returns-in_err-vars c =
    let p = err_from_is_err_and c.from_residual.result c.from_residual.ensures.1 in
    rw (p.1, p.2) (vars_failed c.args.limit c.args.tokens.now _ c.in_err-vars.ensures)

pub returns-in_default : goal.returns-in_default
returns-in_default c =
    typing_missed c.args.limit c.args.tokens.now _ _ _ c.in_ok-vars.ensures c.in_default.ensures

pub returns-in_err-ty : goal.returns-in_err-ty
returns-in_err-ty c =
    let p = err_from_is_err_and c.from_residual-in_err-ty.result c.from_residual-in_err-ty.ensures.1 in
    rw (p.1, p.2) (typing_failed c.args.limit c.args.tokens.now _ _ _ c.in_ok-vars.ensures _ c.in-Some.ensures _
    c.in_err-ty.ensures)

pub returns : goal.returns
returns c =
    typing_took c.args.limit c.args.tokens.now _ _ _ c.in_ok-vars.ensures _ c.in-Some.ensures _ _ _
    c.in_ok-ty.ensures
