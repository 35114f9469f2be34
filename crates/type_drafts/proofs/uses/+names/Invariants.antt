use Rattle.std.proofs.Common.{◌≡◌, ◌++◌, take}
use Rattle.std.specs.Prelude.{flat_map}
use Rattle.hs_core.specs.FreeNames.{pattern_names}
use Rattle.type_drafts.proofs.uses.+names.Given as goal

abbrev pub invariant-add_all_names-loop-each : goal.invariant-add_all_names-loop-each
invariant-add_all_names-loop-each l = l.all ≡ l.fn.all ++ flat_map pattern_names (take l.each-index l.pats)
