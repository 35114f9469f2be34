-- The fields of components: their names, and what a component of each kind makes of them (Cabal manual, "library",
-- "executables", "build information").
use Rattle.std.specs.Prelude.{ℕ, Bool, List, [], ◌∷◌, Option, codes, map, ◌==◌}
use Rattle.std.specs.Str.{bytes_eq}
use Rattle.std.specs.Map.{lookup}
use Rattle.cabal_stanzas.specs.declared.table.Kind.{Kind}
use Rattle.cabal_stanzas.specs.declared.table.Kind.TheVariants.{Library, Executable}
use Rattle.cabal_stanzas.specs.declared.table.ComponentField.{ComponentField}
use Rattle.cabal_stanzas.specs.declared.table.ComponentField.TheVariants as f
use Rattle.cabal_stanzas.specs.declared.table.Use.{Use}
use Rattle.cabal_stanzas.specs.declared.table.Use.TheVariants.{Read, Ignored, Refused}

-- the fields with their names, in small letters
abbrev pub named_fields : List (List ℕ × ComponentField)
named_fields =
    (codes "exposed-modules", f.ExposedModules) ∷ (codes "other-modules", f.OtherModules)
    ∷ (codes "signatures", f.Signatures) ∷ (codes "reexported-modules", f.ReexportedModules)
    ∷ (codes "main-is", f.MainIs) ∷ (codes "build-depends", f.BuildDepends) ∷ (codes "mixins", f.Mixins)
    ∷ (codes "hs-source-dirs", f.HsSourceDirs) ∷ []

-- the field of a name
unfoldable pub component_field : List ℕ → Option ComponentField
component_field name = lookup (bytes_eq name) named_fields

-- all fields of components
abbrev pub all_fields : List ComponentField
all_fields = map (λ p. p.1) named_fields

-- what a component of a kind makes of a field
abbrev pub use_of : Kind → ComponentField → Use
use_of Library f.MainIs = Ignored
use_of Library _ = Read
use_of Executable f.ExposedModules = Ignored
use_of Executable f.ReexportedModules = Ignored
use_of Executable f.Signatures = Refused
use_of Executable _ = Read

abbrev pub field_number : ComponentField → ℕ
field_number f.ExposedModules = 0
field_number f.OtherModules = 1
field_number f.Signatures = 2
field_number f.ReexportedModules = 3
field_number f.MainIs = 4
field_number f.BuildDepends = 5
field_number f.Mixins = 6
field_number f.HsSourceDirs = 7

-- both are one field
abbrev pub is_field : ComponentField → ComponentField → Bool
is_field field other = field_number field == field_number other
