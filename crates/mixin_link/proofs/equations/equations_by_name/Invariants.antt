use Rattle.std.proofs.Common.{◌≡◌, ◌++◌, drop}
use Rattle.std.specs.Prelude.{List, ℕ}
use Rattle.mixin_link.specs.Tables.{equations_in}
use Rattle.mixin_link.specs.Equations.{equations_at}
use Rattle.mixin_link.proofs.equations.equations_by_name.Given as goal

abbrev pub invariant-loop-include : goal.invariant-loop-include
invariant-loop-include l =
    (q : List ℕ) → equations_in l.table q ++ equations_at q (drop l.include-index l.includes)
    ≡ equations_at q l.includes
