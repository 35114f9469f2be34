use Rattle.std.proofs.Common.{refl, sym, subst}
use Rattle.std.specs.Prelude.{reverse}
use Rattle.std.proofs.lemmas.Result.{err_from_is_err_and}
use Rattle.graph_walk.specs.declared.walk.Step.{Step}
use Rattle.graph_walk.specs.Walking.{IsStep}
use Rattle.graph_walk.specs.Walking.IsStep.{leaves}
use Rattle.graph_walk.specs.Walking.StopsAt.{lacking}
use Rattle.graph_walk.proofs.walk.take_step.Goals as goal

pub returns-in_err-leave-in-Leave-clause-err : goal.returns-in_err-leave-in-Leave-clause-err
returns-in_err-leave-in-Leave-clause-err c =
    let p = err_from_is_err_and c.from_residual.result c.from_residual.ensures.1 in
    rw (p.1, p.2) (lacking c.args.step c.args.walked.now)

pub returns-in_ok-leave-in-Leave-clause-ok : goal.returns-in_ok-leave-in-Leave-clause-ok
returns-in_ok-leave-in-Leave-clause-ok c = subst (λ (s : Step). IsStep c.args.nodes.now s (reverse c.args.pending.now)
    c.args.walked.now (reverse c.args.pending.now) c.leave.new.walked) (sym c.in-Leave.is)
    (leaves c.in-Leave.index _ _ _ _ refl c.in_ok-leave-in-Leave.ensures.marks c.in_ok-leave-in-Leave.ensures.done)
