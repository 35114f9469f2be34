-- Which modules have a text of the grammar: what is declared or exported fits its place.
use Rattle.std.specs.Prelude.{ℕ, Bool, true, false, not, ◌&&◌, List, [], ◌∷◌, map}
use Rattle.hs_forms.specs.Limits.{all_of}
use Rattle.hs_modules.specs.Words.{has_dot, begins_with_colon}
use Rattle.hs_core.specs.declared.tree.ConDecl.{ConDecl}
use Rattle.hs_core.specs.declared.tree.FieldDecl.{FieldDecl}
use Rattle.hs_core.specs.declared.tree.Decl.{Decl}
use Rattle.hs_core.specs.declared.tree.Decl.TheVariants.{DataDecl, SynonymDecl}
use Rattle.flat_text.specs.declared.name.NameForm.{NameForm}
use Rattle.flat_text.specs.declared.name.NameForm.TheVariants as f
use Rattle.flat_text.specs.declared.flat.FlatExport.{FlatExport}
use Rattle.flat_text.specs.declared.flat.FlatModule.{FlatModule}
use Rattle.flat_text.specs.Names.{form_of, flat_form}
use Rattle.flat_spelled.specs.Printable.{is_some, is_printable_type, is_printable_decl}

-- a name that is written without brackets
abbrev pub is_word : NameForm → Bool
is_word f.VarSym = false
is_word f.ConSym = false
is_word _ = true

-- a constructor's name where it is declared, or listed with its type: not qualified
abbrev pub is_own : NameForm → List ℕ → Bool
is_own f.VarSym name = begins_with_colon name
is_own f.ConSym name = begins_with_colon name
is_own _ name = not (has_dot name)

abbrev pub is_own_con : List ℕ → Bool
is_own_con name = is_own (form_of name) name

abbrev pub is_param : List ℕ → Bool
is_param name = is_word (form_of name)

-- a type's name where it is declared, with its variables
abbrev pub is_type_head : List ℕ → List (List ℕ) → Bool
is_type_head occ params = is_word (form_of occ) && (not (has_dot occ) && all_of (map is_param params))

abbrev pub is_printable_field : FieldDecl → Bool
is_printable_field field = is_printable_type field.ty

abbrev pub is_printable_con : ConDecl → Bool
is_printable_con con = is_own_con con.occ && all_of (map is_printable_field con.fields)

-- A newtype has one constructor with one field, which is not strict (Haskell 2010 Report, section 4.2.3).
abbrev pub is_lone_field : List FieldDecl → Bool
is_lone_field [] = false
is_lone_field (field ∷ []) = not field.strict
is_lone_field (field ∷ next ∷ fields) = false

abbrev pub is_lone_con : List ConDecl → Bool
is_lone_con [] = false
is_lone_con (con ∷ []) = is_lone_field con.fields
is_lone_con (con ∷ next ∷ cons) = false

abbrev pub fits_word : Bool → List ConDecl → Bool
fits_word true cons = is_lone_con cons
fits_word false cons = true

-- a declaration of a module
abbrev pub is_printable_top : Decl → Bool
is_printable_top (DataDecl occ is_new params cons) =
    is_type_head occ params && (fits_word is_new cons && all_of (map is_printable_con cons))
is_printable_top (SynonymDecl occ params body) = is_type_head occ params && is_printable_type body
is_printable_top decl = is_printable_decl decl

-- A type is exported with its constructors, a value without any; a constructor is not exported alone.
abbrev pub exports_by : NameForm → List (List ℕ) → Bool
exports_by f.Con cons = all_of (map is_own_con cons)
exports_by f.ConSym cons = false
exports_by _ cons = not (is_some cons)

abbrev pub is_printable_export : FlatExport → Bool
is_printable_export export = exports_by (flat_form false export.name) export.cons

abbrev pub is_printable_module : FlatModule → Bool
is_printable_module m = all_of (map is_printable_export m.exports) && all_of (map is_printable_top m.decls)
