use Rattle.std.proofs.Common.{◌∙◌, ◌∷◌, ap}
use Rattle.std.proofs.lemmas.Result.{err_from_is_err_and}
use Rattle.hs_tokens.specs.declared.terminal.Terminal.TheVariants as t
use Rattle.hs_tokens.specs.declared.word.Word.TheVariants as w
use Rattle.hs_headers.proofs.TurnLemmas.{turn_ok, turn_fails}
use Rattle.hs_headers.proofs.ExportLemmas.{passes_none}
use Rattle.hs_headers.proofs.ImportLemmas.{import_none, import_plain, import_qualified}
use Rattle.hs_headers.proofs.imports.read_import.Goals as goal

pub returns-in_default : goal.returns-in_default
returns-in_default c =
    import_none c.args.tokens.now c.in_default.ensures

pub returns-in_err-part : goal.returns-in_err-part
returns-in_err-part c =
    let p = err_from_is_err_and c.from_residual.result c.from_residual.ensures.1 in
    rw (p.1, p.2) (turn_fails _ _ _ _ _ _ (import_qualified) c.args.tokens.now _ _
    (c.in-Some.ensures ∙ ap (λ l. t.Word w.Import ∷ l) c.in-Some-after_qualified.ensures)
    (passes_none _)
    c.in_err-part.ensures)

pub returns-in-Some-after_qualified : goal.returns-in-Some-after_qualified
returns-in-Some-after_qualified c =
    turn_ok _ _ _ _ _ _ import_qualified c.args.tokens.now _ c.in_ok-part.part.tree _ _
    (c.in-Some.ensures ∙ ap (λ l. t.Word w.Import ∷ l) c.in-Some-after_qualified.ensures) (passes_none _)
    c.in_ok-part.ensures

pub returns-in_err-part-2 : goal.returns-in_err-part-2
returns-in_err-part-2 c =
    let p = err_from_is_err_and c.from_residual-in_err-part-2.result c.from_residual-in_err-part-2.ensures.1 in
    rw (p.1, p.2) (turn_fails _ _ _ _ _ _ (import_plain) c.args.tokens.now _ _
    (c.in-Some.ensures)
    (c.in_default-after_qualified.ensures)
    c.in_err-part-2.ensures)

pub returns : goal.returns
returns c =
    turn_ok _ _ _ _ _ _ import_plain c.args.tokens.now _ c.in_ok-part-2.part.tree _ _ c.in-Some.ensures
    c.in_default-after_qualified.ensures c.in_ok-part-2.ensures
