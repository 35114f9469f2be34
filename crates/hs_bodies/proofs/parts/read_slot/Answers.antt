use Rattle.std.proofs.Common.{◌∙◌, ap, sym}
use Rattle.std.specs.Prelude.{not}
use Rattle.std.proofs.lemmas.Result.{err_from_is_err_and}
use Rattle.std.proofs.lemmas.Bool.{not-true, not-false}
use Rattle.hs_modules.specs.declared.declarations.TopSlot.TheVariants as v
use Rattle.hs_body_forms.specs.Bodies.{later_slots}
use Rattle.hs_signature_forms.proofs.PartLemmas.{blank_took}
use Rattle.hs_body_forms.proofs.PartLemmas.{slot_blank, slot_took, slot_failed}
use Rattle.hs_bodies.proofs.parts.read_slot.Goals as goal

pub returns-then-not-begins_place : goal.returns-then-not-begins_place
returns-then-not-begins_place c = λ before.
    blank_took later_slots v.Empty slot_blank c.args.limit before c.args.tokens.now
    (sym c.begins_place.ensures ∙ c.if-not-begins_place.true)

pub returns-in_err-decl : goal.returns-in_err-decl
returns-in_err-decl c = λ before.
    let p = err_from_is_err_and c.from_residual.result c.from_residual.ensures.1 in
    rw (p.1, p.2) (slot_failed c.args.limit before c.args.tokens.now
    (sym c.begins_place.ensures ∙ c.if-not-begins_place.false) _ c.in_err-decl.ensures)

pub returns : goal.returns
returns c = λ before. slot_took c.args.limit before c.args.tokens.now _ _ _ c.in_ok-decl.ensures
