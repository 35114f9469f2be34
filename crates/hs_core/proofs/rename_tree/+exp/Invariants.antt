use Rattle.std.proofs.Common.{◌≡◌, ◌++◌, drop, map}
use Rattle.hs_core.specs.Rename.{renamed_exp, renamed_decl, renamed_choice, renamed_guard, renamed_alt}
use Rattle.hs_core.proofs.rename_tree.+exp.Given as goal

abbrev pub invariant-rename_exps-loop-each : goal.invariant-rename_exps-loop-each
invariant-rename_exps-loop-each l = l.made ++ map (λ e. renamed_exp e l.by) (drop l.each-index l.each-items) ≡ map
    (λ e. renamed_exp e l.by) l.all

abbrev pub invariant-rename_decls-loop-each : goal.invariant-rename_decls-loop-each
invariant-rename_decls-loop-each l = l.made ++ map (λ e. renamed_decl e l.by) (drop l.each-index l.each-items) ≡ map
    (λ e. renamed_decl e l.by) l.all

abbrev pub invariant-rename_choices-loop-each : goal.invariant-rename_choices-loop-each
invariant-rename_choices-loop-each l = l.made ++ map (λ e. renamed_choice e l.by) (drop l.each-index l.each-items) ≡ map
    (λ e. renamed_choice e l.by) l.all

abbrev pub invariant-rename_guards-loop-each : goal.invariant-rename_guards-loop-each
invariant-rename_guards-loop-each l = l.made ++ map (λ e. renamed_guard e l.by) (drop l.each-index l.each-items) ≡ map
    (λ e. renamed_guard e l.by) l.all

abbrev pub invariant-rename_alts-loop-each : goal.invariant-rename_alts-loop-each
invariant-rename_alts-loop-each l = l.made ++ map (λ e. renamed_alt e l.by) (drop l.each-index l.each-items) ≡ map
    (λ e. renamed_alt e l.by) l.all
