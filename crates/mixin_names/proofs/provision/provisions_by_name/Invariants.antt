use Rattle.std.proofs.Common.{◌≡◌, ◌++◌, List, ℕ, drop}
use Rattle.mixin_names.specs.Names.{provisions_of}
use Rattle.mixin_names.specs.Tables.{provisions_at}
use Rattle.mixin_names.proofs.provision.provisions_by_name.Given as goal

abbrev pub invariant-loop-each : goal.invariant-loop-each
invariant-loop-each l =
    (q : List ℕ) → provisions_at l.table q ++ provisions_of (drop l.each-index l.exposed) q ≡ provisions_of l.exposed q
