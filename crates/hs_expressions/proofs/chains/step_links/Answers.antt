-- Each way is a lemma of `ChainLemmas`.
use Rattle.std.proofs.Common.{◌∙◌, sym}
use Rattle.std.proofs.lemmas.Result.{err_from_is_err_and}
use Rattle.hs_expressions.proofs.LinksLemmas.{goes, link_fails}
use Rattle.hs_expressions.proofs.chains.step_links.Goals as goal

pub returns-then-not-goes_on : goal.returns-then-not-goes_on
returns-then-not-goes_on g c =
    c.finished.ensures c.args.limit c.args.lone c.args.tokens.now c.requires.holds
    (sym c.goes_on.ensures ∙ c.if-not-goes_on.true)

pub returns-in_err-link : goal.returns-in_err-link
returns-in_err-link g c =
    let p = err_from_is_err_and c.from_residual.result c.from_residual.ensures.1 in
    let on = goes _ _ (sym c.goes_on.ensures ∙ c.if-not-goes_on.false) in
    rw (p.1, p.2) (link_fails c.args.limit c.args.lone c.args.tokens.now _ _ _ _ _ _ c.requires.holds.0 on.0 on.1 _
    c.in_err-link.ensures)

pub returns : goal.returns
returns g c =
    let on = goes _ _ (sym c.goes_on.ensures ∙ c.if-not-goes_on.false) in
    c.followed.ensures c.args.limit c.args.lone c.args.tokens.now c.requires.holds on.0 c.in_ok-link.ensures
