use Rattle.std.proofs.Common.{◌∙◌, sym}
use Rattle.std.proofs.lemmas.Result.{err_from_is_err_and}
use Rattle.hs_block_forms.proofs.GuardLemmas.{test_failed, test_missed, test_took}
use Rattle.hs_blocks.proofs.guards.read_test.Goals as goal

pub returns-in_err-chain-clause-answers : goal.returns-in_err-chain-clause-answers
returns-in_err-chain-clause-answers g c =
    let p = err_from_is_err_and c.from_residual.result c.from_residual.ensures.1 in
    rw (p.1, p.2) (test_failed c.args.limit c.args.tokens.now _ c.in_err-chain.ensures)

pub returns-then-goes_past-clause-answers : goal.returns-then-goes_past-clause-answers
returns-then-goes_past-clause-answers g c =
    test_missed c.args.limit c.args.tokens.now _ _ _ c.in_ok-chain.ensures
    (sym c.goes_past.ensures ∙ c.if-goes_past.true)

pub returns-clause-answers : goal.returns-clause-answers
returns-clause-answers g c = test_took c.args.limit c.args.tokens.now _ _ _ c.in_ok-chain.ensures
