use Rattle.std.proofs.Common.{◌≡◌, ◌++◌, drop, map}
use Rattle.hs_core.specs.Rename.{renamed_field}
use Rattle.hs_core.proofs.rename.rename_fields.Given as goal

abbrev pub invariant-loop-each : goal.invariant-loop-each
invariant-loop-each l = l.made ++ map (λ e. renamed_field e l.by) (drop l.each-index l.each-items) ≡ map
    (λ e. renamed_field e l.by) l.all
