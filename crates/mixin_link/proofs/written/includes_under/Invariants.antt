use Rattle.std.proofs.Common.{◌≡◌, ◌++◌, drop, map}
use Rattle.mixin_link.specs.Answers.{include_under}
use Rattle.mixin_link.specs.Tables.{ident_in}
use Rattle.mixin_link.proofs.written.includes_under.Given as goal

abbrev pub invariant-loop-include : goal.invariant-loop-include
invariant-loop-include l = l.all ++ map (include_under (ident_in l.table)) (drop l.include-index l.includes)
    ≡ map (include_under (ident_in l.table)) l.includes
