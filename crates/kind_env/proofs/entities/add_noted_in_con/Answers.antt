use Rattle.std.proofs.Common.{◌≡◌, refl, ap, length, arith}
use Rattle.std.specs.Prelude.{flat_map}
use Rattle.kind_env.specs.Listings.{noted_in_field}
use Rattle.kind_env.proofs.ListLemmas.{adds_nothing, adds_next, adds_same}
use Rattle.kind_check.proofs.LoopLemmas.{take_end}
use Rattle.kind_env.proofs.entities.add_noted_in_con.Goals as goal

pub loop-index-init : goal.loop-index-init
loop-index-init c = adds_nothing _ _ refl

pub loop-index-preserved : goal.loop-index-preserved
loop-index-preserved c =
    adds_next noted_in_field c.args.fields.now c.loop-index.index _ c.index-fields-index.result _ _ _
    c.loop-index-test.true refl c.loop-index.invariant c.in_ok-add_noted_in.ensures

pub returns : goal.returns
returns c =
    let e : c.loop-index.index ≡ length c.args.fields.now =
    omega (arith, c.loop-index-test.false, c.loop-index.auto.index-end) in
    adds_same _ _ _ _ (ap (flat_map noted_in_field) (take_end c.args.fields.now c.loop-index.index e))
    c.loop-index.invariant
