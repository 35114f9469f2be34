-- Where no `)` stands is a lemma of `BracketLemmas`.
use Rattle.std.proofs.Common.{refl, subst, sym}
use Rattle.std.proofs.lemmas.Result.{err_from_is_err_and}
use Rattle.hs_forms.specs.Limits.{lowered}
use Rattle.hs_expression_forms.specs.Trees.{Took}
use Rattle.hs_expression_forms.specs.Fronts.{bunches}
use Rattle.hs_operand_forms.proofs.BracketLemmas.{inside_missed}
use Rattle.hs_operands.proofs.brackets.end_inside.Goals as goal

pub returns-in_err-closed : goal.returns-in_err-closed
returns-in_err-closed c = λ limit ts opens took.
    let p = err_from_is_err_and c.from_residual.result c.from_residual.ensures.1 in
    let missed = c.in_err-closed.ensures.missed in
    rw (p.1, p.2, missed.0) (inside_missed limit ts opens _ refl c.args.inner.tree _ _ took missed.1)

pub returns : goal.returns
returns c = λ limit ts opens took.
    let f = c.in_ok-closed.ensures.took in
    let here = c.args.inner.rest.now in
    c.enclosed.ensures limit ts here opens
    (subst (λ x. Took bunches (lowered limit 1) ts x here c.in_ok-closed.closed.depth) (sym f.0)
    (subst (λ d. Took bunches (lowered limit 1) ts c.args.inner.tree here d) (sym f.1.1) took))
    f.1.0
