use Rattle.kind_check.proofs.ScopeLemmas.{IfOk-then}
use Rattle.std.proofs.Common.{refl, arith, ◌∙◌}
use Rattle.type_expand.proofs.TypeLemmas.{var_in, var_past, replaced_app}
use Rattle.type_expand.proofs.apply.+substituted.Goals as goal

pub returns-then-index-args : goal.returns-then-index-args
returns-then-index-args t c =
    IfOk-then c.copied.result
    (λ u e. var_in c.args.args.now c.in-Var.index c.args.ty.now u _ c.in-Var.is c.if-index-args.true
    (e ∙ c.index-args-index.is)) c.copied.ensures

pub returns-else-index-args : goal.returns-else-index-args
returns-else-index-args t c =
    var_past c.args.args.now c.in-Var.index _ c.args.ty.now c.in-Var.is (omega (arith, c.if-index-args.false)) refl

pub returns-in_ok-arg-in-App : goal.returns-in_ok-arg-in-App
returns-in_ok-arg-in-App t c =
    IfOk-then c.applied_type.result
    (λ u e. replaced_app c.args.args.now c.args.ty.now _ _ _ _ c.in_ok-fun-in-App.fun c.in_ok-arg-in-App.arg u
    c.in-App.is c.get.ensures c.get-in-App.ensures
    c.in_ok-fun-in-App.ensures c.in_ok-arg-in-App.ensures e) c.applied_type.ensures
