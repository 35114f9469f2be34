use Rattle.std.proofs.Common.{◌≡◌, ◌++◌, take}
use Rattle.infer_expressions.proofs.scope.scope_of.Given as goal

abbrev pub invariant-loop-binder : goal.invariant-loop-binder
invariant-loop-binder l = l.binders.items ≡ l.fn.binders.items ++ take l.binder-index l.env
