use Rattle.std.proofs.Common.{sym, ◌∙◌, refl}
use Rattle.std.proofs.lemmas.Result.{err_from_is_err_and}
use Rattle.hs_headers.proofs.TurnLemmas.{turn_fails}
use Rattle.hs_headers.proofs.ExportLemmas.{item_var, item_none}
use Rattle.hs_headers.proofs.imports.read_item.Goals as goal

pub returns-then-not-begins_var : goal.returns-then-not-begins_var
returns-then-not-begins_var c =
    item_none c.args.tokens.now c.in_default.ensures (sym c.begins_var.ensures ∙ c.if-not-begins_var.true)

pub returns-in_err-var : goal.returns-in_err-var
returns-in_err-var c =
    let p = err_from_is_err_and c.from_residual.result c.from_residual.ensures.1 in
    rw (p.1, p.2) (turn_fails _ _ _ _ _ _ (item_var) c.args.tokens.now _ _ refl (sym c.begins_var.ensures ∙
    c.if-not-begins_var.false)
    c.in_err-var.ensures)
