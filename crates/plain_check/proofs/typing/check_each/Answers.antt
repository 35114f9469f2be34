use Rattle.std.proofs.Common.{arith}
use Rattle.plain_check.specs.Typing.{assumptions_of}
use Rattle.plain_check.proofs.TypeLemmas.{first_ill, typed_next}
use Rattle.plain_check.proofs.typing.check_each.Goals as goal

pub returns-then-not-is_typed-clause-outcome : goal.returns-then-not-is_typed-clause-outcome
returns-then-not-is_typed-clause-outcome g c =
    λ all h.
    first_ill (assumptions_of all) c.args.bindings.now c.loop-place.place c.index-bindings-place.result
    c.loop-place-test.true c.index-bindings-place.is
    (c.loop-place.invariant.0 all h) (λ t. let e = (c.is_typed.ensures all h).1 t in cc (e, c.if-not-is_typed.true))

pub loop-place-preserved : goal.loop-place-preserved
loop-place-preserved g c = (
  λ all h.
      typed_next (assumptions_of all) c.args.bindings.now c.loop-place.place c.index-bindings-place.result
      c.loop-place-test.true c.index-bindings-place.is
      (c.loop-place.invariant.0 all h) ((c.is_typed.ensures all h).0 c.if-not-is_typed.false),
  omega (arith, c.loop-place.invariant.1, c.tick.ensures),
)
