use Rattle.std.proofs.Common.{◌≡◌, ◌++◌, ◌∷◌, drop, map}
use Rattle.std.specs.List.{flat_map}
use Rattle.import_resolve.specs.Scopes.{import_name, top_import}
use Rattle.export_resolve.proofs.qualifiers.add_block.Given as goal

abbrev pub invariant-loop-slot : goal.invariant-loop-slot
invariant-loop-slot l =
    l.names ++ map import_name (flat_map top_import (drop l.slot-index l.slot-items))
    ≡ l.fn.names ++ map import_name (flat_map top_import (l.block.first ∷ l.block.rest))
