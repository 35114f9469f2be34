use Rattle.std.proofs.Common.{◌≡◌, replicate}
use Rattle.infer_patterns.proofs.pattern.repeated.Given as goal

abbrev pub invariant-loop-index : goal.invariant-loop-index
invariant-loop-index l = l.ids.items ≡ replicate l._index l.id
