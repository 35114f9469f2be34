use Rattle.std.proofs.Common.{◌∙◌, ap, sym}
use Rattle.std.proofs.lemmas.Result.{err_from_is_err_and}
use Rattle.hs_body_forms.specs.declared.parts.TopPart.TheVariants as v
use Rattle.hs_body_forms.specs.Bodies.{parts}
use Rattle.hs_signature_forms.proofs.PartLemmas.{blank_took}
use Rattle.hs_body_forms.proofs.PartLemmas.{part_blank, import_took, import_failed, run_took}
use Rattle.hs_body_forms.proofs.PartLemmas.{run_failed}
use Rattle.hs_bodies.proofs.parts.read_top_part.Goals as goal

pub returns-then-not-begins_place : goal.returns-then-not-begins_place
returns-then-not-begins_place c = λ before.
    blank_took parts v.Empty part_blank c.args.limit before c.args.tokens.now
    (sym c.begins_place.ensures ∙ c.if-not-begins_place.true)

pub returns-in_err-import : goal.returns-in_err-import
returns-in_err-import c = λ before.
    let p = err_from_is_err_and c.from_residual.result c.from_residual.ensures.1 in
    rw (p.1, p.2) (import_failed c.args.limit before c.args.tokens.now
    (sym c.begins_import.ensures ∙ c.if-begins_import.true) _ c.in_err-import.ensures)

pub returns-then-begins_import : goal.returns-then-begins_import
returns-then-begins_import c = λ before.
    import_took c.args.limit before c.args.tokens.now _ _ _ c.in_ok-import.ensures

pub returns-in_err-run : goal.returns-in_err-run
returns-in_err-run c = λ before.
    let p = err_from_is_err_and c.from_residual-in_err-run.result c.from_residual-in_err-run.ensures.1 in
    rw (p.1, p.2) (run_failed c.args.limit before c.args.tokens.now
    (sym c.begins_place.ensures ∙ c.if-not-begins_place.false)
    (sym c.begins_import.ensures ∙ c.if-begins_import.false) _ c.in_err-run.ensures)

pub returns : goal.returns
returns c = λ before. run_took c.args.limit before c.args.tokens.now _ _ _ c.in_ok-run.ensures
