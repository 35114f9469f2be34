-- The first operand, and the chain's steps (`run`).
use Rattle.std.proofs.lemmas.Result.{err_from_is_err_and}
use Rattle.hs_expression_forms.proofs.LinkFirstLemmas.{first_fails}
use Rattle.hs_expressions.proofs.ChainLemmas.{holds_first}
use Rattle.hs_expressions.proofs.chains.read_links.Goals as goal

pub returns-in_err-head : goal.returns-in_err-head
returns-in_err-head g c =
    let p = err_from_is_err_and c.from_residual.result c.from_residual.ensures.1 in
    rw (p.1, p.2) (first_fails c.args.lone c.args.limit c.args.tokens.now _ c.in_err-head.ensures)

pub run-requires-clause-start : goal.run-requires-clause-start
run-requires-clause-start g c =
    rw c.new.ensures (holds_first c.args.limit c.args.tokens.now _ _ _ _ _ c.in_ok-head.ensures c.signs.ensures.value
    c.ends_open.ensures)
