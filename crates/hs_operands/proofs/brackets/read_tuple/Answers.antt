-- Each return is a lemma of `BracketLemmas`.
use Rattle.std.proofs.lemmas.Result.{err_from_is_err_and}
use Rattle.hs_operand_forms.proofs.BracketLemmas.{tuple_took, tuple_failed}
use Rattle.hs_operands.proofs.brackets.read_tuple.Goals as goal

pub returns-in_err-name : goal.returns-in_err-name
returns-in_err-name c = λ limit.
    let p = err_from_is_err_and c.from_residual.result c.from_residual.ensures.1 in
    rw (p.1, p.2) (tuple_failed limit c.args.tokens.now c.requires.starts _ c.in_err-name.ensures.answers)

pub returns : goal.returns
returns c = λ limit.
    rw c.named_con.ensures (tuple_took limit c.args.tokens.now _ _ _ c.in_ok-name.ensures.answers)
