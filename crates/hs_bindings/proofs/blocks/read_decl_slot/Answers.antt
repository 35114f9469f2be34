use Rattle.std.proofs.Common.{◌∷◌, ◌∙◌, refl, sym}
use Rattle.std.proofs.lemmas.Result.{err_from_is_err_and}
use Rattle.hs_declaration_forms.specs.Typings.{fills_place}
use Rattle.hs_modules.specs.declared.expressions.DeclSlot.TheVariants as sl
use Rattle.hs_block_forms.specs.Blocks.{ends_item}
use Rattle.hs_binding_forms.specs.Bindings.{decls, decl_slots}
use Rattle.hs_block_forms.proofs.CombinedLemmas.{place_empty, place_took, place_failed}
use Rattle.hs_binding_forms.proofs.DeclBlockLemmas.{decl_places}
use Rattle.hs_bindings.proofs.blocks.read_decl_slot.Goals as goal

pub returns-then-not-begins_place : goal.returns-then-not-begins_place
returns-then-not-begins_place g c = λ before.
    place_empty decls decl_slots sl.NoDecl (λ x. sl.Decl x) fills_place ends_item decl_places before c.args.limit
    (before ∷ c.args.tokens.now) c.args.tokens.now refl (sym c.begins_place.ensures ∙ c.if-not-begins_place.true)

pub returns-in_err-decl : goal.returns-in_err-decl
returns-in_err-decl g c = λ before.
    let p = err_from_is_err_and c.from_residual.result c.from_residual.ensures.1 in
    rw (p.1, p.2) (place_failed decls decl_slots sl.NoDecl (λ x. sl.Decl x) fills_place ends_item decl_places before
    c.args.limit (before ∷ c.args.tokens.now) c.args.tokens.now _ refl
    (sym c.begins_place.ensures ∙ c.if-not-begins_place.false) c.in_err-decl.ensures)

pub returns : goal.returns
returns g c = λ before.
    place_took decls decl_slots sl.NoDecl (λ x. sl.Decl x) fills_place ends_item decl_places before c.args.limit
    (before ∷ c.args.tokens.now) c.args.tokens.now _ _ _ refl c.in_ok-decl.ensures
