use Rattle.std.proofs.Common.{◌≡◌, List, ℕ, drop, unwrap_or}
use Rattle.std.specs.HashMap.{get}
use Rattle.std.specs.Str.{bytes_eq}
use Rattle.mixin_names.specs.Names.{linkage_name}
use Rattle.mixin_names.proofs.requirement.names_by_old.Given as goal

abbrev pub invariant-loop-each : goal.invariant-loop-each
invariant-loop-each l =
    (q : List ℕ) → unwrap_or (get bytes_eq l.table q)
    (linkage_name (drop l.each-index l.needs) q) ≡ linkage_name l.needs q
