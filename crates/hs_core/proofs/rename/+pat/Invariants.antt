use Rattle.std.proofs.Common.{◌≡◌, ◌++◌, drop, map}
use Rattle.hs_core.specs.Rename.{renamed_pat}
use Rattle.hs_core.proofs.rename.+pat.Given as goal

abbrev pub invariant-rename_pats-loop-each : goal.invariant-rename_pats-loop-each
invariant-rename_pats-loop-each l = l.made ++ map (λ e. renamed_pat e l.by) (drop l.each-index l.each-items) ≡ map
    (λ e. renamed_pat e l.by) l.all
