use Rattle.std.proofs.lemmas.Result.{err_from_is_err_and}
use Rattle.hs_signature_forms.proofs.SignatureLemmas.{sig_head_failed, sig_block_failed, sig_took}
use Rattle.hs_signatures.proofs.signature.read_signature.Goals as goal

pub returns-in_err-head : goal.returns-in_err-head
returns-in_err-head c =
    let p = err_from_is_err_and c.from_residual.result c.from_residual.ensures.1 in
    rw (p.1, p.2) (sig_head_failed c.args.limit c.args.tokens.now _ c.in_err-head.ensures)

pub returns-in_err-block : goal.returns-in_err-block
returns-in_err-block c =
    let p = err_from_is_err_and c.from_residual-in_err-block.result c.from_residual-in_err-block.ensures.1 in
    rw (p.1, p.2) (sig_block_failed c.args.limit c.args.tokens.now _ _ _ c.in_ok-head.ensures _
    c.in_err-block.ensures)

pub returns : goal.returns
returns c =
    sig_took c.args.limit c.args.tokens.now _ _ _ c.in_ok-head.ensures _ _ _ c.in_ok-block.ensures
