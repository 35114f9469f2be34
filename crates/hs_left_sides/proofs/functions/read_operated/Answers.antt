use Rattle.hs_left_forms.proofs.FunctionLemmas.{function_infix, behind_failed}
use Rattle.hs_left_sides.proofs.functions.read_operated.Goals as goal

pub returns-in-Ok : goal.returns-in-Ok
returns-in-Ok c =
    rw c.max.ensures (function_infix c.args.limit c.args.tokens.now _ _ _ c.requires.operand _ _ _ c.in-Ok.ensures)

pub returns : goal.returns
returns c =
    rw c.later.ensures (behind_failed c.args.limit c.args.tokens.now _ _ _ c.requires.operand c.args.left
    c.requires.named _ c.in-Err.ensures)
