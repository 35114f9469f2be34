use Rattle.std.proofs.Common.{◌≡◌, drop}
use Rattle.backpack_run.specs.Given.{content_in}
use Rattle.backpack_run.proofs.plan.content_in.Given as goal

abbrev pub invariant-loop-package : goal.invariant-loop-package
invariant-loop-package l = content_in (drop l.package-index l.packages) l.path ≡ content_in l.packages l.path
