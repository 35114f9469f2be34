use Rattle.std.proofs.lemmas.Result.{err_from_is_err_and}
use Rattle.hs_operand_forms.proofs.LedLemmas.{apply_took, apply_failed}
use Rattle.hs_operands.proofs.operands.read_apply.Goals as goal

pub returns-in_err-read : goal.returns-in_err-read
returns-in_err-read g c =
    let p = err_from_is_err_and c.from_residual.result c.from_residual.ensures.1 in
    rw (p.1, p.2) (apply_failed c.args.limit c.args.tokens.now _ c.requires.starts c.in_err-read.ensures)

pub returns : goal.returns
returns g c =
    rw c.applied.ensures (apply_took c.args.limit c.args.tokens.now c.in_ok-read.read.tree _ _ c.in_ok-read.ensures)
