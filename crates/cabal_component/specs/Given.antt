-- What the fields of a component give (Cabal manual, "library", "executables", "build information").
use Rattle.std.specs.Prelude.{ℕ, Option, Some, None, option_map, List, [], ◌∷◌, map, if◌then◌else◌}
use Rattle.std.specs.List.{filter, filter_map}
use Rattle.bp_base.specs.declared.linking.Rename.{Rename}
use Rattle.cabal_text.specs.Tokens.{tokens_of}
use Rattle.cabal_text.specs.Names.{renames_of, module_names}
use Rattle.cabal_stanzas.specs.declared.stanzas.Field.{Field}
use Rattle.cabal_stanzas.specs.declared.table.Kind.{Kind}
use Rattle.cabal_stanzas.specs.declared.table.ComponentField.{ComponentField}
use Rattle.cabal_stanzas.specs.declared.table.ComponentField.TheVariants as f
use Rattle.cabal_stanzas.specs.declared.table.Use.{Use}
use Rattle.cabal_stanzas.specs.declared.table.Use.TheVariants.{Read, Ignored, Refused}
use Rattle.cabal_stanzas.specs.Table.{component_field, use_of, is_field}
use Rattle.cabal_stanzas.specs.Folder.{folders_of}
use Rattle.cabal_stanzas.specs.Values.{ranged_names, source_name}
use Rattle.cabal_component.specs.declared.component.Mixin.{Mixin}
use Rattle.cabal_component.specs.declared.given.Value.{Value}
use Rattle.cabal_component.specs.declared.given.Value.TheVariants as v
use Rattle.cabal_component.specs.declared.given.Given.{Given}
use Rattle.cabal_component.specs.Entries.{mixins_of}

-- the value of a field, where it has the form that the field needs
abbrev pub value_of : ComponentField → List ℕ → Option Value
value_of f.ExposedModules text = option_map (λ names. v.Modules names) (module_names text)
value_of f.OtherModules text = option_map (λ names. v.Modules names) (module_names text)
value_of f.Signatures text = option_map (λ names. v.Modules names) (module_names text)
value_of f.ReexportedModules text = option_map (λ renames. v.Renames renames) (renames_of (tokens_of text))
value_of f.MainIs text = option_map (λ path. v.Main path) (source_name text)
value_of f.BuildDepends text = option_map (λ names. v.Dependencies names) (ranged_names text)
value_of f.Mixins text = option_map (λ mixins. v.Mixins mixins) (mixins_of text)
value_of f.HsSourceDirs text = option_map (λ paths. v.Folders paths) (folders_of text)

-- what a component that makes this of a field is given by it
abbrev pub given_by : Use → ℕ → ComponentField → List ℕ → Option Given
given_by Read line field text = Some (record { line = line; field = field; value = value_of field text })
given_by Refused line field text = Some (record { line = line; field = field; value = None })
given_by Ignored line field text = None

abbrev pub given_if : Kind → Field → Option ComponentField → Option Given
given_if kind f None = None
given_if kind f (Some field) = given_by (use_of kind field) f.line field f.value

-- what a field gives; nothing where a component of this kind ignores it
abbrev pub given : Kind → Field → Option Given
given kind f = given_if kind f (component_field f.name)

-- what the fields of a component give, in their order
abbrev pub givens : Kind → List Field → List Given
givens kind fs = filter_map (given kind) fs

-- the lines of those of a field
abbrev pub lines_of : ComponentField → List Given → List ℕ
lines_of field gs = map (λ g. g.line) (filter (λ g. is_field g.field field) gs)

-- the value of the first of a field
abbrev pub value_at : ComponentField → List Given → Option Value
value_at field [] = None
value_at field (g ∷ gs) = if is_field g.field field then g.value else value_at field gs

abbrev pub modules_in : Option Value → List (List ℕ)
modules_in (Some (v.Modules names)) = names
modules_in _ = []

abbrev pub renames_in : Option Value → List Rename
renames_in (Some (v.Renames renames)) = renames
renames_in _ = []

abbrev pub main_in : Option Value → List ℕ
main_in (Some (v.Main path)) = path
main_in _ = []

abbrev pub dependencies_in : Option Value → List (List ℕ)
dependencies_in (Some (v.Dependencies names)) = names
dependencies_in _ = []

abbrev pub mixins_in : Option Value → List Mixin
mixins_in (Some (v.Mixins mixins)) = mixins
mixins_in _ = []

abbrev pub folders_in : Option Value → List (List ℕ)
folders_in (Some (v.Folders paths)) = paths
folders_in _ = []

-- the modules or signatures that a field lists
abbrev pub modules_at : ComponentField → List Given → List (List ℕ)
modules_at field gs = modules_in (value_at field gs)

abbrev pub renames_at : List Given → List Rename
renames_at gs = renames_in (value_at f.ReexportedModules gs)

-- the main file; nothing where there is none
abbrev pub main_at : List Given → List ℕ
main_at gs = main_in (value_at f.MainIs gs)

abbrev pub dependencies_at : List Given → List (List ℕ)
dependencies_at gs = dependencies_in (value_at f.BuildDepends gs)

abbrev pub mixins_at : List Given → List Mixin
mixins_at gs = mixins_in (value_at f.Mixins gs)

abbrev pub folders_at : List Given → List (List ℕ)
folders_at gs = folders_in (value_at f.HsSourceDirs gs)
