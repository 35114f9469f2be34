use Rattle.std.proofs.Common.{◌≡◌, ◌++◌, drop, map}
use Rattle.mixin_link.specs.Answers.{assigned}
use Rattle.mixin_link.specs.Tables.{ident_in}
use Rattle.mixin_link.proofs.written.all_assigned.Given as goal

abbrev pub invariant-loop-name : goal.invariant-loop-name
invariant-loop-name l = l.all ++ map (assigned (ident_in l.table)) (drop l.name-index l.names)
    ≡ map (assigned (ident_in l.table)) l.names
