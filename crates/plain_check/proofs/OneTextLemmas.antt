-- A module has one text.
use Rattle.std.proofs.Common.{◌≡◌, List, sym, ap, ◌∙◌}
use Rattle.bp_base.specs.Texts.{Text}
use Rattle.hs_plain.specs.Plain.{names_of}
use Rattle.hs_plain.specs.Text.{text_with, IsFlatText}
use Rattle.hs_plain.specs.declared.plain.PlainModule.{PlainModule}
use Rattle.bp_base.proofs.SortedLemmas.{one_order}

pub one_flat_text : (m : PlainModule) (t u : Text) → IsFlatText m t → IsFlatText m u → t ≡ u
one_flat_text m t u p q = p.written ∙ ap (λ (names : List Text). text_with m names)
    (one_order (names_of m.bindings) p.exports q.exports p.same q.same p.sorted q.sorted) ∙ sym q.written
