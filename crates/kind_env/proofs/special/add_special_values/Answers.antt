use Rattle.std.proofs.Common.{◌≡◌, refl, ◌∙◌, ap, arith}
use Rattle.std.specs.Prelude.{map}
use Rattle.kind_env.specs.Listings.{value_of_special, nth_value, firsts}
use Rattle.kind_env.proofs.ListLemmas.{adds_nothing, adds_nth, adds_same, all_values}
use Rattle.kind_env.proofs.special.add_special_values.Goals as goal

pub loop-index-init : goal.loop-index-init
loop-index-init c = adds_nothing _ _ refl

pub loop-index-preserved : goal.loop-index-preserved
loop-index-preserved c =
    adds_nth value_of_special nth_value c.loop-index.index _ _ _ _ c.value_at.ensures c.loop-index.invariant
    c.in_ok-add_special_value.ensures

pub returns : goal.returns
returns c =
    let e : c.loop-index.index ≡ 17 = omega (arith, c.loop-index-test.false, c.loop-index.auto.index-end) in
    adds_same _ _ _ _ (ap (λ i. map value_of_special (firsts nth_value i)) e ∙ all_values) c.loop-index.invariant
