use Rattle.std.proofs.lemmas.Result.{err_from_is_err_and}
use Rattle.hs_headers.proofs.TurnLemmas.{turn_ok, turn_fails}
use Rattle.hs_headers.proofs.ExportLemmas.{passes_none}
use Rattle.hs_headers.proofs.ImportLemmas.{list_none, only_listed}
use Rattle.hs_headers.proofs.imports.read_import_list.Goals as goal

pub returns-in_default-after_left_paren : goal.returns-in_default-after_left_paren
returns-in_default-after_left_paren c =
    list_none c.args.tokens.now c.in_default.ensures c.in_default-after_left_paren.ensures

pub returns-in_err-list : goal.returns-in_err-list
returns-in_err-list c =
    let p = err_from_is_err_and c.from_residual.result c.from_residual.ensures.1 in
    rw (p.1, p.2) (turn_fails _ _ _ _ _ _ (only_listed) c.args.tokens.now _ _
    (c.in-Some-after_left_paren.ensures) (passes_none _) c.in_err-list.ensures)

pub returns : goal.returns
returns c =
    turn_ok _ _ _ _ _ _ (only_listed) c.args.tokens.now _ c.in_ok-list.list.tree _ _
    (c.in-Some-after_left_paren.ensures) (passes_none _) c.in_ok-list.ensures
