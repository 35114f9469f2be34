use Rattle.std.proofs.lemmas.Result.{err_from_is_err_and}
use Rattle.hs_left_forms.proofs.FunctionLemmas.{operator_failed, right_operand_failed, behind_took}
use Rattle.hs_left_sides.proofs.functions.read_behind.Goals as goal

pub returns-in_err-op : goal.returns-in_err-op
returns-in_err-op c =
    let p = err_from_is_err_and c.from_residual.result c.from_residual.ensures.1 in
    rw (p.1, p.2) (operator_failed c.args.limit c.args.tokens.now _ c.in_err-op.ensures)

pub returns-in_err-operand : goal.returns-in_err-operand
returns-in_err-operand c =
    let p = err_from_is_err_and c.from_residual-in_err-operand.result c.from_residual-in_err-operand.ensures.1 in
    rw (p.1, p.2) (right_operand_failed c.args.limit c.args.tokens.now _ _ _ c.in_ok-op.ensures _
    c.in_err-operand.ensures)

pub returns : goal.returns
returns c =
    behind_took c.args.limit c.args.tokens.now _ _ _ c.in_ok-op.ensures _ _ _ c.in_ok-operand.ensures
