use Rattle.std.proofs.Common.{refl}
use Rattle.std.proofs.lemmas.Result.{err_from_is_err_and}
use Rattle.hs_block_forms.specs.Blocks.{is_left_arrow}
use Rattle.hs_block_forms.proofs.GuardLemmas.{pat_failed, pat_missed, bind_failed, bind_took}
use Rattle.hs_blocks.proofs.guards.read_bind.Goals as goal

pub returns-in_err-pat : goal.returns-in_err-pat
returns-in_err-pat g c =
    let p = err_from_is_err_and c.from_residual.result c.from_residual.ensures.1 in
    rw (p.1, p.2) (pat_failed c.args.limit c.args.tokens.now _ c.in_err-pat.ensures)

pub returns-in_default : goal.returns-in_default
returns-in_default g c =
    pat_missed c.args.limit is_left_arrow refl c.args.tokens.now _ _ _ c.in_ok-pat.ensures c.in_default.ensures

pub returns-in_err-chain : goal.returns-in_err-chain
returns-in_err-chain g c =
    let p = err_from_is_err_and c.from_residual-in_err-chain.result c.from_residual-in_err-chain.ensures.1 in
    rw (p.1, p.2) (bind_failed c.args.limit c.args.tokens.now _ _ _ _ c.in_ok-pat.ensures c.in-Some.ensures _
    c.in_err-chain.ensures)

pub returns : goal.returns
returns g c =
    rw c.max.ensures (bind_took c.args.limit c.args.tokens.now _ _ _ _ c.in_ok-pat.ensures c.in-Some.ensures _ _ _
    c.in_ok-chain.ensures)
