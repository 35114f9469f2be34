use Rattle.std.proofs.Common.{◌≡◌, codes, drop}
use Rattle.bp_base.specs.Lists.{is_among}
use Rattle.plain_check.proofs.asked.has_base.Given as goal

abbrev pub invariant-loop-dep : goal.invariant-loop-dep
invariant-loop-dep l = is_among (codes "base") (drop l.dep-index l.deps) ≡ is_among (codes "base") l.deps
