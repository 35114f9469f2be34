use Rattle.std.proofs.Common.{◌≡◌, drop}
use Rattle.std.specs.List.{flat_map, list_any}
use Rattle.import_resolve.specs.Scopes.{names_prelude, sig_import}
use Rattle.import_resolve.proofs.scope.sigs_name_prelude.Given as goal

abbrev pub invariant-loop-slot : goal.invariant-loop-slot
invariant-loop-slot l =
    list_any names_prelude (flat_map sig_import (drop l.slot-index l.slots)) ≡ list_any names_prelude (flat_map sig_import l.slots)
