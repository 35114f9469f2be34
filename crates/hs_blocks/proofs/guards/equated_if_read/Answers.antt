-- Each way is a lemma of `BodyLemmas`.
use Rattle.std.proofs.Common.{subst}
use Rattle.hs_readers.specs.Answers.{Answers}
use Rattle.hs_expression_forms.specs.Trees.{sort_of}
use Rattle.hs_expression_forms.specs.Expressions.{exps}
use Rattle.hs_block_forms.proofs.BodyLemmas.{gd_exp_failed, gd_took}
use Rattle.hs_blocks.proofs.guards.equated_if_read.Goals as goal

pub returns-in-Ok : goal.returns-in-Ok
returns-in-Ok c = λ limit ts next after at took led answers.
    rw (c.equated.ensures.tree, c.equated.ensures.rest, c.equated.ensures.depth)
    (gd_took limit ts next at _ _ _ _ took led _ _ _
    (subst (λ r. Answers (sort_of exps limit) after r) c.in-Ok.is answers))

pub returns-in-Err : goal.returns-in-Err
returns-in-Err c = λ limit ts next after at took led answers.
    gd_exp_failed limit ts next at _ _ _ _ took led _
    (subst (λ r. Answers (sort_of exps limit) after r) c.in-Err.is answers)
