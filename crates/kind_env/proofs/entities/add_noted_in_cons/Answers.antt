use Rattle.std.proofs.Common.{◌≡◌, refl, ap, length, subst, arith}
use Rattle.std.specs.Prelude.{flat_map}
use Rattle.kind_env.specs.Listings.{noted_in_con}
use Rattle.kind_env.specs.Listings.{Adds, noted_in_field}
use Rattle.kind_env.proofs.ListLemmas.{adds_nothing, adds_next, adds_same}
use Rattle.kind_check.proofs.LoopLemmas.{take_end}
use Rattle.kind_env.proofs.entities.add_noted_in_cons.Goals as goal

pub loop-index-init : goal.loop-index-init
loop-index-init c = adds_nothing _ _ refl

pub loop-index-preserved : goal.loop-index-preserved
loop-index-preserved c =
    adds_next noted_in_con c.args.cons.now c.loop-index.index _ c.index-cons-index.result _ _ _
    c.loop-index-test.true refl c.loop-index.invariant
    (subst (λ fs. Adds (flat_map noted_in_field fs) c.loop-index.names c.add_noted_in_con.new.names) c.as_slice.ensures
    c.in_ok-add_noted_in_con.ensures)

pub returns : goal.returns
returns c =
    let e : c.loop-index.index ≡ length c.args.cons.now =
    omega (arith, c.loop-index-test.false, c.loop-index.auto.index-end) in
    adds_same _ _ _ _ (ap (flat_map noted_in_con) (take_end c.args.cons.now c.loop-index.index e))
    c.loop-index.invariant
