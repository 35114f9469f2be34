use Rattle.std.proofs.Common.{◌≡◌, drop}
use Rattle.backpack_run.specs.Given.{built_in}
use Rattle.backpack_run.proofs.build.built_in.Given as goal

abbrev pub invariant-loop-built : goal.invariant-loop-built
invariant-loop-built l = built_in (drop l.built-index l.all) l.name ≡ built_in l.all l.name
