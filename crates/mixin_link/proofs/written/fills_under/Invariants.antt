use Rattle.std.proofs.Common.{◌≡◌, ◌++◌, drop}
use Rattle.mixin_link.specs.Linkings.{fills_under}
use Rattle.mixin_link.specs.Tables.{ident_in}
use Rattle.mixin_link.proofs.written.fills_under.Given as goal

abbrev pub invariant-loop-need : goal.invariant-loop-need
invariant-loop-need l = l.all ++ fills_under (ident_in l.table) (drop l.need-index l.needs)
    ≡ fills_under (ident_in l.table) l.needs
