use Rattle.std.proofs.Common.{◌≡◌, ◌++◌, drop, map}
use Rattle.std.specs.Prelude.{List, ℕ}
use Rattle.mixin_names.specs.Names.{provisions_of}
use Rattle.mixin_link.specs.Tables.{equations_in}
use Rattle.mixin_link.specs.Equations.{equation_in}
use Rattle.mixin_link.proofs.equations.add_provisions.Given as goal

abbrev pub invariant-loop-provision : goal.invariant-loop-provision
invariant-loop-provision l = (q : List ℕ) → equations_in l.table q
    ++ map (equation_in l.fills) (provisions_of (drop l.provision-index l.provides) q)
    ≡ equations_in l.initial.table q ++ map (equation_in l.fills) (provisions_of l.provides q)
