use Rattle.std.proofs.Common.{◌≡◌, refl, ◌∙◌, ap, arith}
use Rattle.std.specs.Prelude.{map}
use Rattle.kind_env.specs.Listings.{type_of_special, nth_type, firsts}
use Rattle.kind_env.proofs.ListLemmas.{adds_nothing, adds_nth, adds_same, all_types}
use Rattle.kind_env.proofs.special.add_special_types.Goals as goal

pub loop-index-init : goal.loop-index-init
loop-index-init c = adds_nothing _ _ refl

pub loop-index-preserved : goal.loop-index-preserved
loop-index-preserved c =
    adds_nth type_of_special nth_type c.loop-index.index _ _ _ _ c.type_at.ensures c.loop-index.invariant
    c.in_ok-add_special_type.ensures

pub returns : goal.returns
returns c =
    let e : c.loop-index.index ≡ 17 = omega (arith, c.loop-index-test.false, c.loop-index.auto.index-end) in
    adds_same _ _ _ _ (ap (λ i. map type_of_special (firsts nth_type i)) e ∙ all_types) c.loop-index.invariant
