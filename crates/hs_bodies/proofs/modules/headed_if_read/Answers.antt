use Rattle.std.proofs.Common.{subst}
use Rattle.hs_readers.specs.Answers.{Answers}
use Rattle.hs_expression_forms.specs.Trees.{sort_of}
use Rattle.hs_body_forms.specs.Bodies.{top_blocks}
use Rattle.hs_body_forms.proofs.ModuleLemmas.{head_block_failed, headed_took}
use Rattle.hs_bodies.proofs.modules.headed_if_read.Goals as goal

pub returns-in-Ok : goal.returns-in-Ok
returns-in-Ok c = λ limit ts off took answers.
    rw (c.headed.ensures.tree, c.headed.ensures.rest, c.headed.ensures.depth)
    (headed_took limit ts off _ _ _ took _ _ _
    (subst (λ r. Answers (sort_of top_blocks limit) c.args.head.rest.now r) c.in-Ok.is answers))

pub returns-in-Err : goal.returns-in-Err
returns-in-Err c = λ limit ts off took answers.
    head_block_failed limit ts off _ _ _ took _
    (subst (λ r. Answers (sort_of top_blocks limit) c.args.head.rest.now r) c.in-Err.is answers)
