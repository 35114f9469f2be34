use Rattle.std.proofs.Common.{sym, ap, ◌∙◌, map}
use Rattle.hs_core.specs.Types.{kind_term}
use Rattle.kind_check.proofs.ScopeLemmas.{IfOk-then}
use Rattle.kind_check.proofs.ArmLemmas.{kind_arrow}
use Rattle.type_equations.specs.Coded.{result_kind}
use Rattle.infer_patterns.specs.Names.{noted_kind}
use Rattle.infer_patterns.proofs.NameLemmas.{kind_at-within, kind_at-past, result_star}
use Rattle.infer_patterns.proofs.instance.+kind_of.Goals as goal

pub returns-then-index-kinds : goal.returns-then-index-kinds
returns-then-index-kinds t c = IfOk-then c.copied.result
    (λ k e. ap kind_term (e ∙ c.index-kinds-index.is)
    ∙ kind_at-within c.args.kinds.now c.in-Var.index _ c.if-index-kinds.true
    ∙ sym (ap (noted_kind (map kind_term c.args.kinds.now)) c.in-Var.is)) c.copied.ensures

pub returns-in-Var : goal.returns-in-Var
returns-in-Var t c = kind_at-past c.args.kinds.now c.in-Var.index c.if-index-kinds.false
    ∙ sym (ap (noted_kind (map kind_term c.args.kinds.now)) c.in-Var.is)

pub returns-in-Star : goal.returns-in-Star
returns-in-Star t c =
    sym (ap (λ k. result_kind (kind_term k)) c.in-Star.is)
    ∙ result_star (map kind_term c.args.kinds.now) c.args.ty.now c.in-App.fun c.in-App.arg c.get.result.now _
    c.in-App.is c.get.ensures c.in_ok-kind_of-in-App.ensures

pub returns : goal.returns
returns t c = IfOk-then c.copied-in-Arrow.result
    (λ k e. ap kind_term (e ∙ c.get-in-Arrow.ensures)
    ∙ sym (ap (λ j. result_kind (kind_term j)) c.in-Arrow.is ∙ ap result_kind
    (kind_arrow c.in-Arrow.from c.in-Arrow.to))
    ∙ result_star (map kind_term c.args.kinds.now) c.args.ty.now c.in-App.fun c.in-App.arg c.get.result.now _
    c.in-App.is c.get.ensures c.in_ok-kind_of-in-App.ensures) c.copied-in-Arrow.ensures
