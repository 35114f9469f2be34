use Rattle.std.proofs.Common.{◌+◌, ◌∙◌}
use Rattle.std.specs.Prelude.{min}
use Rattle.hs_modules.specs.ExpressionExtents.{operators_of_link}
use Rattle.hs_modules.specs.Measures.{most}
use Rattle.hs_modules.proofs.MeasuringLemmas.{count_more}
use Rattle.hs_modules.proofs.measure_expressions.count_links.Goals as goal

pub loop-each-preserved : goal.loop-each-preserved
loop-each-preserved c =
    c.saturating_add-count.ensures
    ∙ (λ i. min (c.loop-each.invariant i + c.count_link-more.ensures i) most)
    ∙ count_more operators_of_link c.args.start c.args.trees.now c.loop-each.each-index c.each-item.result
    c.loop-each-test.true c.each-item.is
