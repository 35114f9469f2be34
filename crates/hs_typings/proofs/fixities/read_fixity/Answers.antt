use Rattle.std.proofs.lemmas.Result.{err_from_is_err_and}
use Rattle.hs_declaration_forms.proofs.FixityLemmas.{fixity_head_fails, fixity_fails, fixity_took}
use Rattle.hs_typings.proofs.fixities.read_fixity.Goals as goal

pub returns-in_err-head : goal.returns-in_err-head
returns-in_err-head c =
    let p = err_from_is_err_and c.from_residual.result c.from_residual.ensures.1 in
    rw (p.1, p.2) (fixity_head_fails c.args.limit c.args.tokens.now _ c.in_err-head.ensures)

pub returns-in_err-ops : goal.returns-in_err-ops
returns-in_err-ops c =
    let p = err_from_is_err_and c.from_residual-in_err-ops.result c.from_residual-in_err-ops.ensures.1 in
    rw (p.1, p.2) (fixity_fails c.args.limit c.args.tokens.now _ _ _ c.in_ok-head.ensures _ c.in_err-ops.ensures)

pub returns : goal.returns
returns c =
    fixity_took c.args.limit c.args.tokens.now _ _ _ c.in_ok-head.ensures _ _ _ c.in_ok-ops.ensures
