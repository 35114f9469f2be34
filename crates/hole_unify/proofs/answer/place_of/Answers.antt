use Rattle.std.proofs.Common.{◌+◌, ◌-◌, ap, sym, ◌∙◌, arith}
use Rattle.std.specs.Prelude.{◌/◌}
use Rattle.std.specs.Ordering.{nat_cmp, is_lt}
use Rattle.std.specs.Cmp.Lexicographic.{slice_cmp}
use Rattle.hole_unify.proofs.FillingLemmas.{place-after, place-before, place-within}
use Rattle.hole_unify.proofs.answer.place_of.Goals as goal

pub loop-low-init : goal.loop-low-init
loop-low-init c = let a = place-within c.args.hole.now c.args.fills.now in
    record { before = omega arith; after = a; within = omega arith }

pub loop-low-preserved-then-is_before : goal.loop-low-preserved-then-is_before
loop-low-preserved-then-is_before c = record {
  before = place-after c.args.hole.now c.args.fills.now
      (c.loop-low.low + (c.loop-low.high - c.loop-low.low) / 2) c.index-fills-middle.result c.requires
      (omega (arith, c.loop-low-test.true, c.loop-low.invariant.within)) c.index-fills-middle.is
      (ap (λ z. is_lt (slice_cmp nat_cmp z.hole c.args.hole.now)) c.index-fills-middle.is ∙ sym c.is_before.ensures
      ∙ c.if-is_before.true);
  after = c.loop-low.invariant.after;
  within = c.loop-low.invariant.within;
}

pub loop-low-preserved : goal.loop-low-preserved
loop-low-preserved c = record {
  before = c.loop-low.invariant.before;
  after = place-before c.args.hole.now c.args.fills.now
      (c.loop-low.low + (c.loop-low.high - c.loop-low.low) / 2) c.index-fills-middle.result
      (omega (arith, c.loop-low-test.true, c.loop-low.invariant.within)) c.index-fills-middle.is
      (ap (λ z. is_lt (slice_cmp nat_cmp z.hole c.args.hole.now)) c.index-fills-middle.is ∙ sym c.is_before.ensures
      ∙ c.if-is_before.false);
  within = omega (arith, c.loop-low-test.true, c.loop-low.invariant.within);
}
