-- What goes on behind a chain, and why it doesn't (`LinkFails`).
use Rattle.std.proofs.Common.{◌∙◌, refl, sym, true≢false}
use Rattle.std.proofs.lemmas.Result.{err_from_is_err_and}
use Rattle.hs_expressions.specs.LinkAnswers.{over, operator, behind}
use Rattle.hs_expressions.proofs.LinksLemmas.{may_not, ends_there, goes_there}
use Rattle.hs_expressions.proofs.links.read_link.Goals as goal

pub returns-then-not-may_follow : goal.returns-then-not-may_follow
returns-then-not-may_follow g c =
    let no = may_not c.args.lone _ (λ w. true≢false (sym (c.may_follow.ensures.1 w) ∙ c.if-not-may_follow.true)) in
    over refl no.0 no.1

pub returns-in_err-op : goal.returns-in_err-op
returns-in_err-op g c =
    let p = err_from_is_err_and c.from_residual.result c.from_residual.ensures.1 in
    rw (p.1, p.2) (operator (c.may_follow.ensures.0 c.if-not-may_follow.false) (c.in_err-op.ensures c.args.limit))

pub returns-then-ends_section : goal.returns-then-ends_section
returns-then-ends_section g c =
    let ends = ends_there c.args.lone _ (sym c.ends_section.ensures ∙ c.if-ends_section.true) in
    (ends.0, (c.in_ok-op.ensures c.args.limit).spelled, ends.1)

pub returns-in_err-signed : goal.returns-in_err-signed
returns-in_err-signed g c =
    let p = err_from_is_err_and c.from_residual-in_err-signed.result c.from_residual-in_err-signed.ensures.1 in
    rw (p.1, p.2) (behind (c.may_follow.ensures.0 c.if-not-may_follow.false) _ _
    (c.in_ok-op.ensures c.args.limit).spelled
    (goes_there c.args.lone _ (sym c.ends_section.ensures ∙ c.if-ends_section.false)) c.in_err-signed.ensures)

pub returns : goal.returns
returns g c = (_, (c.in_ok-op.ensures c.args.limit).spelled, c.in_ok-signed.ensures)
