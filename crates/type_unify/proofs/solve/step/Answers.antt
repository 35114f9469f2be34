use Rattle.std.proofs.Common.{refl, length}
use Rattle.type_unify.specs.Cells.{seen}
use Rattle.type_unify.proofs.SteppingLemmas.{Reduces-same, Reduces-parts, Asks-bind, HaveNoSolution-clash}
use Rattle.type_unify.proofs.solve.step.Goals as goal

pub returns-in-Same-clause-ok : goal.returns-in-Same-clause-ok
returns-in-Same-clause-ok c =
    Reduces-same (seen c.args.cells.now c.args.entries.now.entries)
    (length c.args.cells.now) _ _ c.args.one c.args.other refl c.in-Same.ensures

pub returns-in_ok-push_pairs-in-Parts-clause-ok : goal.returns-in_ok-push_pairs-in-Parts-clause-ok
returns-in_ok-push_pairs-in-Parts-clause-ok c =
    Reduces-parts c.args.cells.now c.args.entries.now.entries _ _ c.args.one c.args.other _ _
    c.in_ok-push_pairs-in-Parts.ensures c.in-Parts.ensures

pub returns-in-Bind-clause-ok : goal.returns-in-Bind-clause-ok
returns-in-Bind-clause-ok c =
    Asks-bind c.args.cells.now c.args.entries.now.entries _ _ c.args.one c.args.other _ _ refl c.in-Bind.ensures

pub returns-in-Clash-clause-none : goal.returns-in-Clash-clause-none
returns-in-Clash-clause-none c =
    λ _. HaveNoSolution-clash (seen c.args.cells.now c.args.entries.now.entries) _ c.args.one c.args.other
    c.in-Clash.ensures
