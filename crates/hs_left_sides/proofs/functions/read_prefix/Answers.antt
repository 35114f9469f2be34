use Rattle.std.proofs.lemmas.Result.{err_from_is_err_and}
use Rattle.hs_left_forms.proofs.FunctionLemmas.{name_failed, named_failed, prefix_took}
use Rattle.hs_left_sides.proofs.functions.read_prefix.Goals as goal

pub returns-in_err-var : goal.returns-in_err-var
returns-in_err-var c =
    let p = err_from_is_err_and c.from_residual.result c.from_residual.ensures.1 in
    rw (p.1, p.2) (name_failed c.args.limit c.args.tokens.now _ c.in_err-var.ensures)

pub returns-in_err-args : goal.returns-in_err-args
returns-in_err-args c =
    let p = err_from_is_err_and c.from_residual-in_err-args.result c.from_residual-in_err-args.ensures.1 in
    rw (p.1, p.2) (named_failed c.args.limit c.args.tokens.now _ _ _ c.in_ok-var.ensures _ c.in_err-args.ensures)

pub returns : goal.returns
returns c =
    prefix_took c.args.limit c.args.tokens.now _ _ _ c.in_ok-var.ensures _ _ _ c.in_ok-args.ensures
