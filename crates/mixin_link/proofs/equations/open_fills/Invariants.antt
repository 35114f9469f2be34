use Rattle.std.proofs.Common.{◌≡◌, ◌++◌, drop}
use Rattle.bp_base.specs.declared.ident.Ident.TheVariants.{Hole}
use Rattle.mixin_link.specs.Linkings.{fills_under}
use Rattle.mixin_link.proofs.equations.open_fills.Given as goal

abbrev pub invariant-loop-need : goal.invariant-loop-need
invariant-loop-need l = l.fills ++ fills_under Hole (drop l.need-index l.needs) ≡ fills_under Hole l.needs
