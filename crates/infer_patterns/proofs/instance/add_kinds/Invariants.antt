use Rattle.std.proofs.Common.{◌≡◌, ◌++◌, take}
use Rattle.infer_patterns.proofs.instance.add_kinds.Given as goal

abbrev pub invariant-loop-kind : goal.invariant-loop-kind
invariant-loop-kind l = (l.state.kinds.items ≡ l.fn.state.kinds.items ++ take l.kind-index l.kinds)
    × (l.state.bindings ≡ l.fn.state.bindings)
