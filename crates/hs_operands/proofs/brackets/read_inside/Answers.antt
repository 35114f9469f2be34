-- Each return is a lemma of `BracketLemmas`.
use Rattle.std.proofs.Common.{subst}
use Rattle.std.proofs.lemmas.Result.{err_from_is_err_and}
use Rattle.hs_expression_forms.specs.Trees.{Took}
use Rattle.hs_expression_forms.specs.Fronts.{bunches}
use Rattle.hs_operand_forms.proofs.BracketLemmas.{inside_failed}
use Rattle.hs_operands.proofs.brackets.read_inside.Goals as goal

pub returns-in_err-inner : goal.returns-in_err-inner
returns-in_err-inner g c =
    let p = err_from_is_err_and c.from_residual.result c.from_residual.ensures.1 in
    rw (p.1, p.2) (inside_failed c.args.limit c.args.tokens.now c.requires.opens _ c.lower.ensures _
    c.in_err-inner.ensures)

pub returns : goal.returns
returns g c =
    c.end_inside.ensures c.args.limit c.args.tokens.now c.requires.opens
    (subst (λ l. Took bunches l c.args.tokens.now c.in_ok-inner.inner.tree c.in_ok-inner.inner.rest.now
    c.in_ok-inner.inner.depth) c.lower.ensures c.in_ok-inner.ensures)
