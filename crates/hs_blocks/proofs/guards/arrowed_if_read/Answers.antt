-- Each way is a lemma of `BodyLemmas`.
use Rattle.std.proofs.Common.{subst}
use Rattle.hs_readers.specs.Answers.{Answers}
use Rattle.hs_expression_forms.specs.Trees.{sort_of}
use Rattle.hs_expression_forms.specs.Expressions.{exps}
use Rattle.hs_block_forms.proofs.BodyLemmas.{gda_exp_failed, gda_took}
use Rattle.hs_blocks.proofs.guards.arrowed_if_read.Goals as goal

pub returns-in-Ok : goal.returns-in-Ok
returns-in-Ok c = λ limit ts next after at took led fits answers.
    rw (c.arrowed.ensures.tree, c.arrowed.ensures.rest, c.arrowed.ensures.depth)
    (gda_took limit ts next at _ _ _ _ took led fits _ _ _
    (subst (λ r. Answers (sort_of exps limit) after r) c.in-Ok.is answers))

pub returns-in-Err : goal.returns-in-Err
returns-in-Err c = λ limit ts next after at took led fits answers.
    gda_exp_failed limit ts next at _ _ _ _ took led fits _
    (subst (λ r. Answers (sort_of exps limit) after r) c.in-Err.is answers)
