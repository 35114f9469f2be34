use Rattle.std.proofs.Common.{◌≡◌, drop}
use Rattle.std.specs.Prelude.{◌≤◌, length}
use Rattle.type_equations.specs.Syntax.{plain_functions, unknowns}
use Rattle.type_equations.proofs.syntax.functions.Given as goal

abbrev pub invariant-parameters : goal.invariant-parameters
invariant-parameters l = (l.left ≤ length l.from) × (l.all ≡ plain_functions (unknowns (drop l.left l.from)) l.fn.to)

abbrev pub decreases-parameters : goal.decreases-parameters
decreases-parameters l = l.left
