use Rattle.std.proofs.Common.{take}
use Rattle.std.specs.Prelude.{◌≢◌}
use Rattle.bp_base.specs.Lists.{Among}
use Rattle.infer_patterns.specs.declared.names.Declared.{Declared}
use Rattle.infer_patterns.proofs.names.find.Given as goal

abbrev pub invariant-loop-index : goal.invariant-loop-index
invariant-loop-index l = (d : Declared) → Among d (take l.index l.names) → d.name ≢ l.name
