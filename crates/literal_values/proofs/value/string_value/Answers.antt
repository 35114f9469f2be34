use Rattle.literal_values.proofs.ValueLemmas.{item_read}
use Rattle.literal_values.proofs.value.string_value.Goals as goal

pub items-preserved : goal.items-preserved
items-preserved c = item_read _ _ _ _ _ _ c.in-Some.first.now c.string_item-item.result c.in-Some.ensures.cases.0
    c.if-first-eq34.false c.string_item-item.ensures c.in_ok-add_code.ensures c.behind-left-in-Some.ensures
    c.items.invariant
