use Rattle.std.proofs.Common.{take}
use Rattle.expression_demands.specs.Expressions.{IsUnbound}
use Rattle.infer_expressions.proofs.scope.find_local.Given as goal

abbrev pub invariant-loop-binder : goal.invariant-loop-binder
invariant-loop-binder l = IsUnbound l.name (take l.binder-index l.env)
