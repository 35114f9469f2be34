use Rattle.std.proofs.Common.{true}
use Rattle.std.proofs.lemmas.Result.{err_from_is_err_and}
use Rattle.hs_expression_forms.proofs.FrontLemmas.{front_failed}
use Rattle.hs_expressions.proofs.FrontAnswerLemmas.{section_took, chain_took}
use Rattle.hs_expressions.proofs.annotated.read_front.Goals as goal

pub returns-in_err-read : goal.returns-in_err-read
returns-in_err-read g c =
    let p = err_from_is_err_and c.from_residual.result c.from_residual.ensures.1 in
    rw (p.1, p.2) (front_failed true c.args.limit c.args.tokens.now _ c.in_err-read.ensures)

pub returns-in-Some : goal.returns-in-Some
returns-in-Some g c =
    section_took c.args.limit c.args.tokens.now c.in_ok-read.read.tree _ _ _ c.in-Some.is c.in_ok-read.ensures

pub returns-in_err-exp : goal.returns-in_err-exp
returns-in_err-exp g c =
    let p = err_from_is_err_and c.from_residual-in_err-exp.result c.from_residual-in_err-exp.ensures.1 in
    rw (p.1, p.2) (c.in_err-exp.ensures true c.args.tokens.now
    (chain_took c.args.limit c.args.tokens.now c.in_ok-read.read.tree _ _ c.in_default.is c.in_ok-read.ensures))

pub returns : goal.returns
returns g c =
    c.in_ok-exp.ensures true c.args.tokens.now
    (chain_took c.args.limit c.args.tokens.now c.in_ok-read.read.tree _ _ c.in_default.is c.in_ok-read.ensures)
