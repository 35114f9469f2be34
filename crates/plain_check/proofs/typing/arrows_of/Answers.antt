use Rattle.std.proofs.Common.{sym, ◌∙◌}
use Rattle.plain_check.proofs.TableLemmas.{table_kept, table_more}
use Rattle.plain_check.proofs.typing.arrows_of.Goals as goal

pub loop-binding-preserved-then-contains_key : goal.loop-binding-preserved-then-contains_key
loop-binding-preserved-then-contains_key c =
    table_kept c.args.bindings.now c.loop-binding.binding-index c.binding-item.result c.loop-binding.table
    c.loop-binding-test.true c.binding-item.is
    (sym c.contains_key.ensures ∙ c.if-contains_key.true) c.loop-binding.invariant

pub loop-binding-preserved : goal.loop-binding-preserved
loop-binding-preserved c =
    table_more c.args.bindings.now c.loop-binding.binding-index c.binding-item.result c.in_ok-occ.occ
    c.loop-binding.table c.insert.new.self
    c.loop-binding-test.true c.binding-item.is c.in_ok-occ.ensures (sym c.contains_key.ensures
    ∙ c.if-contains_key.false)
    c.in_ok-insert.ensures.updates.0 c.loop-binding.invariant
