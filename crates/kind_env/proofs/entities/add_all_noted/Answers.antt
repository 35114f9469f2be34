use Rattle.std.proofs.Common.{◌≡◌, refl, ap, length, arith}
use Rattle.std.specs.Prelude.{flat_map}
use Rattle.hs_core.specs.Globals.{noted_by}
use Rattle.kind_env.proofs.ListLemmas.{adds_nothing, adds_next, adds_same}
use Rattle.kind_check.proofs.LoopLemmas.{take_end}
use Rattle.kind_env.proofs.entities.add_all_noted.Goals as goal

pub loop-index-init : goal.loop-index-init
loop-index-init c = adds_nothing _ _ refl

pub loop-index-preserved : goal.loop-index-preserved
loop-index-preserved c =
    adds_next noted_by c.args.entities.now c.loop-index.index c.index-entities-index.result
    c.index-entities-index.result _ _ _
    c.loop-index-test.true c.index-entities-index.is c.loop-index.invariant c.in_ok-add_noted.ensures

pub returns : goal.returns
returns c =
    let e : c.loop-index.index ≡ length c.args.entities.now =
    omega (arith, c.loop-index-test.false, c.loop-index.auto.index-end) in
    adds_same _ _ _ _ (ap (flat_map noted_by) (take_end c.args.entities.now c.loop-index.index e))
    c.loop-index.invariant
