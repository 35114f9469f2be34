use Rattle.std.proofs.Common.{◌≡◌}
use Rattle.std.specs.Prelude.{replicate}
use Rattle.hs_core.specs.Types.{kind_term, arrows, star}
use Rattle.kind_env.proofs.special.kind_with.Given as goal

abbrev pub invariant-loop-index : goal.invariant-loop-index
invariant-loop-index l = kind_term l.kind ≡ arrows (replicate l._index star) star
