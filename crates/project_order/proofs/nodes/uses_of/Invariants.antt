use Rattle.std.proofs.Common.{◌≡◌, ◌++◌, drop}
use Rattle.project_order.specs.Numbers.{number_at, uses_of}
use Rattle.project_order.proofs.nodes.uses_of.Given as goal

abbrev pub invariant-loop-dep : goal.invariant-loop-dep
invariant-loop-dep l =
    l.uses ++ uses_of (number_at l.table l.count) (drop l.dep-index l.deps) ≡ uses_of (number_at l.table l.count) l.deps
