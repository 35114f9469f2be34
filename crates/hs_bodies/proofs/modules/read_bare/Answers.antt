use Rattle.std.proofs.lemmas.Result.{err_from_is_err_and}
use Rattle.hs_body_forms.proofs.ModuleLemmas.{bare_took, bare_failed}
use Rattle.hs_bodies.proofs.modules.read_bare.Goals as goal

pub returns-in_err-block : goal.returns-in_err-block
returns-in_err-block c =
    let p = err_from_is_err_and c.from_residual.result c.from_residual.ensures.1 in
    rw (p.1, p.2) (bare_failed c.args.limit c.args.tokens.now c.requires _ c.in_err-block.ensures)

pub returns : goal.returns
returns c = bare_took c.args.limit c.args.tokens.now _ _ _ c.in_ok-block.ensures
