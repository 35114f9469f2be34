use Rattle.std.proofs.Common.{◌≡◌, drop}
use Rattle.std.specs.List.{flat_map}
use Rattle.import_resolve.specs.Scopes.{all_imported, behind, top_import}
use Rattle.import_resolve.proofs.scope.tops_imported.Given as goal

abbrev pub invariant-loop-slot : goal.invariant-loop-slot
invariant-loop-slot l = behind l.items (all_imported l.visible (flat_map top_import (drop l.slot-index l.slots)))
    ≡ all_imported l.visible (flat_map top_import l.slots)
