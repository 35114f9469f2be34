use Rattle.std.proofs.Common.{◌≡◌, drop}
use Rattle.type_equations.specs.Syntax.{plain_applied, plain_tuple, unknowns}
use Rattle.type_equations.proofs.syntax.tuple_of.Given as goal

abbrev pub invariant-loop-part : goal.invariant-loop-part
invariant-loop-part l = plain_applied l.all (unknowns (drop l.part-index l.parts)) ≡ plain_tuple (unknowns l.parts)
