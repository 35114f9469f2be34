use Rattle.std.proofs.Common.{◌≡◌, drop}
use Rattle.std.specs.Prelude.{map}
use Rattle.bp_base.specs.Lists.{is_among}
use Rattle.bp_base.specs.declared.entity.Export.{Export}
use Rattle.plain_trees.proofs.modules.is_shown.Given as goal

abbrev pub invariant-loop-export : goal.invariant-loop-export
invariant-loop-export l =
    is_among l.name (map (λ (x : Export). x.occ) (drop l.export-index l.exports))
    ≡ is_among l.name (map (λ (x : Export). x.occ) l.exports)
