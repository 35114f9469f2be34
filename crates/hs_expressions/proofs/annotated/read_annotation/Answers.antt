-- Each return is a lemma of `FrontLemmas`.
use Rattle.std.proofs.Common.{◌∙◌, sym, ap, subst, true≢false}
use Rattle.std.specs.Prelude.{None}
use Rattle.std.proofs.lemmas.Result.{err_from_is_err_and}
use Rattle.hs_modules.specs.Formed.{facts_of_infix}
use Rattle.hs_expression_forms.specs.Trees.{Took, Failed}
use Rattle.hs_expression_forms.specs.Expressions.{types}
use Rattle.hs_expression_forms.specs.Links.{Links}
use Rattle.hs_expression_forms.proofs.FrontLemmas.{front_stop, typed_over, typed_failed, typed_took}
use Rattle.hs_expressions.proofs.annotated.read_annotation.Goals as goal

pub returns-in_default : goal.returns-in_default
returns-in_default c = λ lone ts acc.
    front_stop lone c.args.limit ts (c.args.chain.tree, None) _ _ acc
    (λ y is shut. c.in_default.ensures (ap (λ (l : Links). (facts_of_infix l.0).is_open) is ∙ shut))

pub returns-then-not-allows : goal.returns-then-not-allows
returns-then-not-allows c = λ lone ts acc.
    typed_over lone c.args.limit ts c.args.chain.tree _ _ _ acc c.in-Some.ensures.0 c.in-Some.ensures.1
    (λ w. true≢false (sym (c.allows.ensures.1 w) ∙ c.if-not-allows.true))

pub returns-in_err-ty : goal.returns-in_err-ty
returns-in_err-ty c = λ lone ts acc.
    let p = err_from_is_err_and c.from_residual.result c.from_residual.ensures.1 in
    rw (p.1, p.2) (typed_failed lone c.args.limit ts c.args.chain.tree _ _ _ acc c.in-Some.ensures.0
    c.in-Some.ensures.1 (c.allows.ensures.0 c.if-not-allows.false) _
    (subst (λ l. Failed types l c.in-Some.next.now c.in_err-ty.field-0.0) c.lower.ensures c.in_err-ty.ensures))

pub returns : goal.returns
returns c = λ lone ts acc.
    rw c.max.ensures (typed_took lone c.args.limit ts c.args.chain.tree _ _ _ acc c.in-Some.ensures.0
    c.in-Some.ensures.1 (c.allows.ensures.0 c.if-not-allows.false) c.in_ok-ty.ty.tree _ _
    (subst (λ l. Took types l c.in-Some.next.now c.in_ok-ty.ty.tree c.in_ok-ty.ty.rest.now c.in_ok-ty.ty.depth)
    c.lower.ensures c.in_ok-ty.ensures))
