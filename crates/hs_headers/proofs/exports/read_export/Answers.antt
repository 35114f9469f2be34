use Rattle.std.proofs.Common.{sym, ◌∙◌, refl}
use Rattle.std.proofs.lemmas.Result.{err_from_is_err_and}
use Rattle.hs_headers.proofs.TurnLemmas.{turn_fails}
use Rattle.hs_headers.proofs.ExportLemmas.{export_var, export_none}
use Rattle.hs_headers.proofs.exports.read_export.Goals as goal

pub returns-then-not-begins_qvar : goal.returns-then-not-begins_qvar
returns-then-not-begins_qvar c =
    export_none c.args.tokens.now c.in_default.ensures c.in_default-after_module.ensures
    (sym c.begins_qvar.ensures ∙ c.if-not-begins_qvar.true)

pub returns-in_err-var : goal.returns-in_err-var
returns-in_err-var c =
    let p = err_from_is_err_and c.from_residual.result c.from_residual.ensures.1 in
    rw (p.1, p.2) (turn_fails _ _ _ _ _ _ (export_var) c.args.tokens.now _ _ refl (sym c.begins_qvar.ensures ∙
    c.if-not-begins_qvar.false)
    c.in_err-var.ensures)
