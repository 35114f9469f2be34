use Rattle.std.proofs.Common.{◌<◌, ◌∙◌, sym, arith, length}
use Rattle.std.proofs.lemmas.Grind.{common_steps}
use Rattle.cabal_text.proofs.ListedLemmas.{items_none, items_next}
use Rattle.cabal_text.proofs.fields.next_item.Goals as goal

pub returns-then-is_empty-clause-item : goal.returns-then-is_empty-clause-item
returns-then-is_empty-clause-item c =
    sym c.skip_gaps-rest.ensures.same ∙ items_none c.skip_gaps-rest.result.now (grind (arith, common_steps))

pub returns-clause-item : goal.returns-clause-item
returns-clause-item c =
    let some : 0 < length c.skip_gaps-rest.result.now = grind (arith, common_steps) in
    let long = c.skip_gaps-rest.ensures.item some in
    let whole = items_next c.skip_gaps-rest.result.now c.item_len.result
    (omega (arith, long)) c.item_len.ensures.value c.item_len.ensures.within in
    sym c.skip_gaps-rest.ensures.same ∙ rw (c.split_at.ensures.front, c.split_at.ensures.back) whole
