use Rattle.std.proofs.Common.{◌≡◌, ◌++◌, drop}
use Rattle.export_resolve.specs.Named.{all_at}
use Rattle.export_resolve.specs.Found.{owned_of}
use Rattle.export_resolve.proofs.things.owned_of.Given as goal

abbrev pub invariant-loop-con : goal.invariant-loop-con
invariant-loop-con l =
    l.things ++ owned_of (all_at l.owners) l.entity (drop l.con-index l.cons)
    ≡ owned_of (all_at l.owners) l.entity l.cons
