use Rattle.std.proofs.Common.{◌≡◌, ◌++◌, drop}
use Rattle.mixin_link.specs.Answers.{holes_left}
use Rattle.mixin_link.specs.Tables.{ident_in}
use Rattle.mixin_link.proofs.written.holes_left.Given as goal

abbrev pub invariant-loop-name : goal.invariant-loop-name
invariant-loop-name l = l.holes ++ holes_left (ident_in l.table) (drop l.name-index l.names)
    ≡ holes_left (ident_in l.table) l.names
