use Rattle.std.proofs.Common.{drop}
use Rattle.bp_checks.specs.Check.{Through}
use Rattle.backpack_run.proofs.LoopLemmas.{each_name}
use Rattle.backpack_run.proofs.plan.reached.Given as goal

abbrev pub invariant-loop-name : goal.invariant-loop-name
invariant-loop-name l = Through (each_name l.project) l.order l.all (drop l.name-index l.order)
