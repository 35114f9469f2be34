use Rattle.std.proofs.Common.{ap, sym, ◌∙◌, subst}
use Rattle.hole_unify.specs.Causes.{IsCause}
use Rattle.hole_unify.proofs.SolvingLemmas.{cause}
use Rattle.hole_unify.proofs.solve.refusal.Goals as goal

pub returns : goal.returns
returns c = subst (IsCause c.args.equations.now) (sym c.with_label-error.ensures)
    (cause c.args.equations.now c.in_ok-first.first.low c.in_ok-first.first.obstacle c.index-equations-first.result
    c.in_ok-label.label c.in_ok-first.ensures c.index-equations-first.is
    (c.in_ok-label.ensures ∙ ap (λ z. z.label) (sym c.index-equations-first.is)))
