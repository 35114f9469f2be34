use Rattle.std.proofs.Common.{sym, ◌∙◌}
use Rattle.mixin_names.proofs.RenamedLemmas.{known_at, new_at}
use Rattle.mixin_names.proofs.requirement.names_by_old.Goals.{then-not-contains_key+in_ok-copied+in_ok-copied-2+in_ok-insert+in-Some-1}
use Rattle.mixin_names.proofs.requirement.names_by_old.Goals.{then-not-contains_key+in_ok-copied+in_ok-copied-2+in_ok-insert+in-None-1}
use Rattle.mixin_names.proofs.requirement.names_by_old.Goals.{else-not-contains_key}
use Rattle.mixin_names.proofs.requirement.names_by_old.Goals as goal

pub loop-each-preserved : goal.loop-each-preserved
loop-each-preserved c =
    elim c.if-not-contains_key.branch [
      | then-not-contains_key+in_ok-copied+in_ok-copied-2+in_ok-insert+in-Some-1 w ↦ λ q.
          rw w.table-is (new_at c.loop-each.table w.insert.new.self c.args.needs.now c.loop-each.each-index
          c.each-item.result w.in_ok-copied.field-0 w.in_ok-copied-2.field-0 q _ c.loop-each-test.true
          c.each-item.is
          w.in_ok-copied.ensures w.in_ok-copied-2.ensures (sym c.contains_key.ensures
          ∙ w.if-not-contains_key.true) (w.in_ok-insert.ensures.updates.0 q) (c.loop-each.invariant q))
      | then-not-contains_key+in_ok-copied+in_ok-copied-2+in_ok-insert+in-None-1 w ↦ λ q.
          rw w.table-is (new_at c.loop-each.table w.insert.new.self c.args.needs.now c.loop-each.each-index
          c.each-item.result w.in_ok-copied.field-0 w.in_ok-copied-2.field-0 q _ c.loop-each-test.true
          c.each-item.is
          w.in_ok-copied.ensures w.in_ok-copied-2.ensures (sym c.contains_key.ensures
          ∙ w.if-not-contains_key.true) (w.in_ok-insert.ensures.updates.0 q) (c.loop-each.invariant q))
      | else-not-contains_key w ↦ λ q.
          rw w.table-is (known_at c.loop-each.table c.args.needs.now c.loop-each.each-index c.each-item.result q _
          c.loop-each-test.true c.each-item.is
          (sym c.contains_key.ensures ∙ w.if-not-contains_key.false) (c.loop-each.invariant q))
    ]
