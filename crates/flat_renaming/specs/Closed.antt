-- Which declarations of a module bind each local that they mention, and what renaming keeps.
use Rattle.std.specs.Prelude.{◌≡◌, Bool, not, map}
use Rattle.hs_forms.specs.Limits.{all_of}
use Rattle.bp_base.specs.declared.linking.Renaming.{Renaming}
use Rattle.hs_core.specs.declared.tree.Body.{Body}
use Rattle.hs_core.specs.declared.tree.Decl.{Decl}
use Rattle.hs_core.specs.FreeNames.{mentioned_in_decl}
use Rattle.hs_core.specs.Rename.{renamed_body}
use Rattle.flat_spelled.specs.Printable.{is_some}
use Rattle.flat_whole.specs.PrintableModule.{is_printable_top}

-- A declaration of a module mentions no local that it does not bind: what the module declares is no local there.
abbrev pub is_closed : Decl → Bool
is_closed d = not (is_some (mentioned_in_decl d))

abbrev pub is_closed_body : Body → Bool
is_closed_body body = all_of (map is_closed body.decls)

abbrev pub is_printable_body : Body → Bool
is_printable_body body = all_of (map is_printable_top body.decls)

-- A renamed module has a text of the grammar just if the module has one, and is closed just if it is.
pub record RenamingKeepsTexts : Type 0 where
  pub printable : (body : Body) (by : Renaming) → is_printable_body (renamed_body body by) ≡ is_printable_body body
  pub closed : (body : Body) (by : Renaming) → is_closed_body (renamed_body body by) ≡ is_closed_body body
