use Rattle.std.proofs.lemmas.Result.{err_from_is_err_and}
use Rattle.hs_headers.proofs.TurnLemmas.{turn_ok, turn_fails}
use Rattle.hs_headers.proofs.ExportLemmas.{exports_none, exports_listed, passes_none}
use Rattle.hs_headers.proofs.exports.read_exports.Goals as goal

pub returns-in_default : goal.returns-in_default
returns-in_default c =
    exports_none c.args.tokens.now c.in_default.ensures

pub returns-in_err-list : goal.returns-in_err-list
returns-in_err-list c =
    let p = err_from_is_err_and c.from_residual.result c.from_residual.ensures.1 in
    rw (p.1, p.2) (turn_fails _ _ _ _ _ _ (exports_listed) c.args.tokens.now _ _
    (c.in-Some.ensures) (passes_none _) c.in_err-list.ensures)

pub returns : goal.returns
returns c =
    turn_ok _ _ _ _ _ _ (exports_listed) c.args.tokens.now _ c.in_ok-list.list.tree _ _
    (c.in-Some.ensures) (passes_none _) c.in_ok-list.ensures
