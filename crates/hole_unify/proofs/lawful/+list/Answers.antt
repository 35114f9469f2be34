use Rattle.std.proofs.Common.{ap, ◌∙◌, arith}
use Rattle.bp_base.specs.declared.ident.Unit.{out-Unit}
use Rattle.hole_unify.proofs.LawfulnessLemmas.{fills-step, ident-step}
use Rattle.hole_unify.proofs.lawful.+list.Goals as goal

pub list_fills-loop-each-preserved : goal.list_fills-loop-each-preserved
list_fills-loop-each-preserved t c = fills-step c.args.fills.now c.loop-each.each-index c.each-item.result _ _ _
    (omega (arith, c.loop-each-test.true)) c.each-item.is c.in_ok-list_ident.ensures c.loop-each.invariant

pub list_ident-returns-in_ok-list_fills-in-Module : goal.list_ident-returns-in_ok-list_fills-in-Module
list_ident-returns-in_ok-list_fills-in-Module t c =
    ident-step _ _ _ _ _ _ _ _ c.in-Module.is (c.in_ok-copied-in-Module.ensures
    ∙ c.get.ensures) c.in_ok-push-in-Module.ensures.items (c.as_slice.ensures
    ∙ ap (λ v. (out-Unit v).fills) c.get-in-Module.ensures) c.in_ok-list_fills-in-Module.ensures
