use Rattle.std.proofs.lemmas.Result.{err_from_is_err_and}
use Rattle.hs_headers.proofs.TurnLemmas.{turn_ok, turn_fails}
use Rattle.hs_headers.proofs.ExportLemmas.{subs_none, subs_dots_open, subs_all_ok, subs_names}
use Rattle.hs_headers.proofs.exports.read_subs.Goals as goal

pub returns-in_default : goal.returns-in_default
returns-in_default c =
    subs_none c.args.tokens.now c.in_default.ensures

pub returns-in_default-after_right_paren : goal.returns-in_default-after_right_paren
returns-in_default-after_right_paren c =
    subs_dots_open c.args.tokens.now _ _ c.in-Some.ensures c.in-Some-after_dots.ensures
    c.in_default-after_right_paren.ensures

pub returns-in-Some-after_dots : goal.returns-in-Some-after_dots
returns-in-Some-after_dots c =
    subs_all_ok c.args.tokens.now _ _ _ c.in-Some.ensures c.in-Some-after_dots.ensures
    c.in-Some-after_right_paren.ensures

pub returns-in_err-list : goal.returns-in_err-list
returns-in_err-list c =
    let p = err_from_is_err_and c.from_residual.result c.from_residual.ensures.1 in
    rw (p.1, p.2) (turn_fails _ _ _ _ _ _ (subs_names) c.args.tokens.now _ _
    (c.in-Some.ensures) (c.in_default-after_dots.ensures) c.in_err-list.ensures)

pub returns : goal.returns
returns c =
    turn_ok _ _ _ _ _ _ (subs_names) c.args.tokens.now _ c.in_ok-list.list.tree _ _
    (c.in-Some.ensures) (c.in_default-after_dots.ensures) c.in_ok-list.ensures
