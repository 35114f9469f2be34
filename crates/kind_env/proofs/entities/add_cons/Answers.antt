use Rattle.std.proofs.Common.{◌≡◌, refl, ap, length, arith}
use Rattle.std.specs.Prelude.{map}
use Rattle.hs_core.specs.Globals.{constructor_of}
use Rattle.kind_env.proofs.ListLemmas.{adds_nothing, adds_next_one, adds_same}
use Rattle.kind_check.proofs.LoopLemmas.{take_end}
use Rattle.kind_env.proofs.entities.add_cons.Goals as goal

pub loop-index-init : goal.loop-index-init
loop-index-init c = adds_nothing _ _ refl

pub loop-index-preserved : goal.loop-index-preserved
loop-index-preserved c =
    adds_next_one (constructor_of c.args.name.now c.args.params) c.args.cons.now c.loop-index.index
    c.index-cons-index.result c.index-cons-index.result _ _ _ c.loop-index-test.true c.index-cons-index.is
    c.loop-index.invariant c.in_ok-add_con.ensures

pub returns : goal.returns
returns c =
    let e : c.loop-index.index ≡ length c.args.cons.now =
    omega (arith, c.loop-index-test.false, c.loop-index.auto.index-end) in
    adds_same _ _ _ _
    (ap (map (constructor_of c.args.name.now c.args.params)) (take_end c.args.cons.now c.loop-index.index e))
    c.loop-index.invariant
