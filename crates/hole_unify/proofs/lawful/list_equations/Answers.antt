use Rattle.std.proofs.Common.{arith}
use Rattle.hole_unify.proofs.LawfulnessLemmas.{equations-step}
use Rattle.hole_unify.proofs.lawful.list_equations.Goals as goal

pub loop-each-preserved : goal.loop-each-preserved
loop-each-preserved c = equations-step c.args.equations.now c.loop-each.each-index c.each-item.result _ _ _ _
    (omega (arith, c.loop-each-test.true)) c.each-item.is c.in_ok-list_ident.ensures c.in_ok-list_ident-2.ensures
    c.loop-each.invariant
