use Rattle.std.proofs.Common.{false}
use Rattle.std.proofs.lemmas.Result.{err_from_is_err_and}
use Rattle.hs_expressions.proofs.FrontAnswerLemmas.{no_section, exp_answers, exp_failed}
use Rattle.hs_expressions.proofs.annotated.read_exp.Goals as goal

pub returns-in_err-read : goal.returns-in_err-read
returns-in_err-read g c =
    let p = err_from_is_err_and c.from_residual.result c.from_residual.ensures.1 in
    rw (p.1, p.2) (exp_failed c.args.limit c.args.tokens.now _ c.in_err-read.ensures)

pub returns : goal.returns
returns g c =
    exp_answers c.args.limit c.args.tokens.now _ (c.read_annotation.ensures false c.args.tokens.now
    (no_section c.args.limit c.args.tokens.now c.in_ok-read.read.tree _ _ c.in_ok-read.ensures))
