-- A renamed module is printable, and closed, just if the module is.
use Rattle.std.proofs.Common.{◌≡◌, List, [], ◌∷◌, map, refl}
use Rattle.std.specs.Prelude.{not, ◌&&◌}
use Rattle.hs_forms.specs.Limits.{all_of}
use Rattle.bp_base.specs.declared.linking.Renaming.{Renaming}
use Rattle.hs_core.specs.declared.tree.Decl.{Decl}
use Rattle.hs_core.specs.Rename.{renamed_decl}
use Rattle.flat_spelled.specs.Printable.{is_some}
use Rattle.flat_whole.specs.PrintableModule.{is_printable_top}
use Rattle.flat_renaming.specs.Closed.{is_closed, RenamingKeepsTexts}
use Rattle.flat_renaming.proofs.RenamedTextLemmas.{top_keeps}
use Rattle.flat_renaming.proofs.RenamedLocalLemmas.{decl_keeps}

tops_keep : (decls : List Decl) (by : Renaming)
    → all_of (map is_printable_top (map (λ d. renamed_decl d by) decls)) ≡ all_of (map is_printable_top decls)
tops_keep [] by = refl
tops_keep (d ∷ decls) by = λ i. top_keeps d by i && tops_keep decls by i

closed_keep : (decls : List Decl) (by : Renaming)
    → all_of (map is_closed (map (λ d. renamed_decl d by) decls)) ≡ all_of (map is_closed decls)
closed_keep [] by = refl
closed_keep (d ∷ decls) by = λ i. not (is_some (decl_keeps d by i)) && closed_keep decls by i

pub texts_kept : RenamingKeepsTexts
texts_kept = record {
  printable = λ body by. tops_keep body.decls by;
  closed = λ body by. closed_keep body.decls by;
}
