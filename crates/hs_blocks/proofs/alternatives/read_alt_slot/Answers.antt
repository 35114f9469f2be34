use Rattle.std.proofs.Common.{◌∷◌, ◌∙◌, refl, sym}
use Rattle.std.proofs.lemmas.Result.{err_from_is_err_and}
use Rattle.hs_trees.specs.Patterns.{starts_lpat}
use Rattle.hs_modules.specs.declared.expressions.AltSlot.TheVariants as sl
use Rattle.hs_block_forms.specs.Blocks.{alts, alt_slots, ends_item}
use Rattle.hs_block_forms.proofs.CombinedLemmas.{place_empty, place_took, place_failed}
use Rattle.hs_block_forms.proofs.ItemLayerLemmas.{alt_places}
use Rattle.hs_blocks.proofs.alternatives.read_alt_slot.Goals as goal

pub returns-then-not-begins_lpat : goal.returns-then-not-begins_lpat
returns-then-not-begins_lpat g c = λ before.
    place_empty alts alt_slots sl.NoAlt (λ x. sl.Alt x) starts_lpat ends_item alt_places before c.args.limit
    (before ∷ c.args.tokens.now) c.args.tokens.now refl (sym c.begins_lpat.ensures ∙ c.if-not-begins_lpat.true)

pub returns-in_err-alt : goal.returns-in_err-alt
returns-in_err-alt g c = λ before.
    let p = err_from_is_err_and c.from_residual.result c.from_residual.ensures.1 in
    rw (p.1, p.2) (place_failed alts alt_slots sl.NoAlt (λ x. sl.Alt x) starts_lpat ends_item alt_places before
    c.args.limit (before ∷ c.args.tokens.now) c.args.tokens.now _ refl
    (sym c.begins_lpat.ensures ∙ c.if-not-begins_lpat.false) c.in_err-alt.ensures)

pub returns : goal.returns
returns g c = λ before.
    place_took alts alt_slots sl.NoAlt (λ x. sl.Alt x) starts_lpat ends_item alt_places before c.args.limit
    (before ∷ c.args.tokens.now) c.args.tokens.now _ _ _ refl c.in_ok-alt.ensures
