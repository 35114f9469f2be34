use Rattle.std.proofs.lemmas.Result.{err_from_is_err_and}
use Rattle.hs_body_forms.proofs.ModuleLemmas.{head_failed}
use Rattle.hs_bodies.proofs.modules.read_headed.Goals as goal

pub returns-in_err-head : goal.returns-in_err-head
returns-in_err-head c =
    let p = err_from_is_err_and c.from_residual.result c.from_residual.ensures.1 in
    rw (p.1, p.2) (head_failed c.args.limit c.args.tokens.now c.requires _ c.in_err-head.ensures)

pub returns : goal.returns
returns c =
    c.headed_if_read.ensures c.args.limit c.args.tokens.now c.requires c.in_ok-head.ensures c.read_top_block-block.ensures
