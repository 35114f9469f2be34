use Rattle.cabal_component.specs.Package.{given_again}
use Rattle.cabal_component.proofs.RefusedLemmas.{field_next}
use Rattle.cabal_component.proofs.package.again_in.Goals as goal

pub loop-field-preserved : goal.loop-field-preserved
loop-field-preserved c =
    field_next (given_again c.args.givens.now) c.args.fields.now c.loop-field.field-index _ c.loop-field.least
    c.again_line.result c.sooner-least.result _ c.loop-field-test.true c.again_line.ensures c.sooner-least.ensures
    c.loop-field.invariant
