use Rattle.std.proofs.Common.{arith, subst, sym}
use Rattle.ident_table.specs.Numbers.{AreFillsBelow, IsNodeBelow}
use Rattle.ident_table.proofs.WrittenLemmas.{fill-below, written-step}
use Rattle.ident_table.proofs.table.IdentTable.+written.Goals as goal

pub fills_below-ident_at-requires : goal.fills_below-ident_at-requires
fills_below-ident_at-requires t c =
    let low = fill-below c.args.fills.now c.loop-fill.fill-index c.fill-item.result c.args.limit
    (omega (arith, c.loop-fill-test.true)) c.fill-item.is c.requires.below in
    (omega (arith, low, c.decreases), omega (arith, low, c.requires.limit))

pub fills_below-loop-fill-preserved : goal.fills_below-loop-fill-preserved
fills_below-loop-fill-preserved t c =
    written-step c.args.self.now c.args.fills.now c.loop-fill.fill-index c.fill-item.result _ _ _ _
    (omega (arith, c.loop-fill-test.true)) c.fill-item.is c.loop-fill.invariant c.in_ok-copied.ensures
    c.in_ok-ident_at.ensures c.in_ok-push.ensures.ok

pub ident_at-fills_below-requires : goal.ident_at-fills_below-requires
ident_at-fills_below-requires t c = (
  omega (arith, c.decreases),
  (
    omega (arith, c.requires),
    subst (AreFillsBelow c.args.number) (sym c.as_slice.ensures)
        (subst (IsNodeBelow c.args.number) c.in-Module.is c.node_at.ensures.below),
  ),
)
