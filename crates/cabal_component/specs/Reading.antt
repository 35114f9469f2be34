-- The components that a package file gives. A value that can't be read counts as empty here; its line is refused.
use Rattle.std.specs.Prelude.{◌≡◌, ℕ, Bool, true, false, Option, Some, None, List, [], ◌∷◌, ◌++◌, length, map, codes}
use Rattle.std.specs.Prelude.{◌==◌, if◌then◌else◌}
use Rattle.std.specs.List.{filter_map, flat_map}
use Rattle.bp_base.specs.Lists.{is_among}
use Rattle.cabal_text.specs.declared.lines.Line.{Line}
use Rattle.cabal_text.specs.Lines.{Block, blocks}
use Rattle.cabal_text.specs.Least.{least_of}
use Rattle.cabal_text.specs.Seen.{distinct}
use Rattle.cabal_stanzas.specs.declared.heads.Head.{Head}
use Rattle.cabal_stanzas.specs.declared.heads.Head.TheVariants as h
use Rattle.cabal_stanzas.specs.declared.table.Kind.{Kind}
use Rattle.cabal_stanzas.specs.declared.table.Kind.TheVariants.{Library, Executable}
use Rattle.cabal_stanzas.specs.declared.table.ComponentField.TheVariants.{ExposedModules, OtherModules, Signatures}
use Rattle.cabal_stanzas.specs.Stanzas.{fields_at}
use Rattle.cabal_stanzas.specs.Heads.{head_at, package_of, library_name, component_name}
use Rattle.cabal_component.specs.declared.component.Component.{Component}
use Rattle.cabal_component.specs.declared.component.Mixin.{Mixin}
use Rattle.cabal_component.specs.declared.given.Given.{Given}
use Rattle.cabal_component.specs.declared.reading.ComponentError.{ComponentError}
use Rattle.cabal_component.specs.declared.reading.ComponentError.TheVariants.{ComponentSyntax, NoMemory}
use Rattle.cabal_component.specs.Given.{modules_at, renames_at, main_at, dependencies_at, mixins_at, folders_at}
use Rattle.cabal_component.specs.Package.{givens_in}

-- the name of a library that is no main library
abbrev pub part_if : Option Head → Option (List ℕ)
part_if (Some (h.Component Library name)) = if length name == 0 then None else Some name
part_if _ = None

abbrev pub part_at : Line → Option (List ℕ)
part_at l = if l.indent == 0 then part_if (head_at l) else None

-- the libraries of a package that have names of their own
abbrev pub own_libraries : List Line → List (List ℕ)
own_libraries ls = filter_map part_at ls

-- the own package has such a library
abbrev pub is_own : List Line → List ℕ → Bool
is_own ls name = is_among name (own_libraries ls)

-- the component that a name means: that of the own package, where it has a library of the name, or else the library of
-- the package of the name
abbrev pub resolved : List ℕ → (List ℕ → Bool) → List ℕ → List ℕ
resolved owner own name = if own name then library_name owner name else name

abbrev pub resolved_mixin : List ℕ → (List ℕ → Bool) → Mixin → Mixin
resolved_mixin owner own m = record { dep = resolved owner own m.dep; provides = m.provides; needs = m.needs }

-- the entries of `mixins`
abbrev pub own_mixins : List ℕ → (List ℕ → Bool) → List Given → List Mixin
own_mixins owner own gs = map (resolved_mixin owner own) (mixins_at gs)

-- the dependencies of `build-depends`
abbrev pub listed_deps : List ℕ → (List ℕ → Bool) → List Given → List (List ℕ)
listed_deps owner own gs = map (resolved owner own) (dependencies_at gs)

-- each dependency once, at its first place; those that stand in `mixins` alone are last
abbrev pub deps_of : List (List ℕ) → List Mixin → List (List ℕ)
deps_of listed mixins = distinct (listed ++ map (λ m. m.dep) mixins)

-- the package file's folder, where no folder is listed
abbrev pub or_here : List (List ℕ) → List (List ℕ)
or_here [] = codes "." ∷ []
or_here (d ∷ ds) = d ∷ ds

abbrev pub folders : List Given → List (List ℕ)
folders gs = or_here (folders_at gs)

abbrev pub is_executable : Kind → Bool
is_executable Library = false
is_executable Executable = true

-- the component of this name that a stanza with these fields describes
abbrev pub component_with : List ℕ → List ℕ → (List ℕ → Bool) → Kind → List ℕ → List Given → Component
component_with file owner own kind name gs = record {
  name = name;
  executable = is_executable kind;
  exposed = modules_at ExposedModules gs;
  other = modules_at OtherModules gs;
  main_is = main_at gs;
  signatures = modules_at Signatures gs;
  reexports = renames_at gs;
  deps = deps_of (listed_deps owner own gs) (own_mixins owner own gs);
  mixins = own_mixins owner own gs;
  dirs = folders gs;
  file = file;
}

abbrev pub component_in : List ℕ → List ℕ → (List ℕ → Bool) → Kind → List ℕ → List Line → List Component
component_in file owner own kind name deeper =
    component_with file owner own kind (component_name owner kind name) (givens_in kind deeper) ∷ []

-- the component that a stanza with this head describes
abbrev pub stanza_components : List ℕ → List ℕ → (List ℕ → Bool) → Option Head → List Line → List Component
stanza_components file owner own (Some (h.Component kind name)) deeper = component_in file owner own kind name deeper
stanza_components file owner own _ deeper = []

abbrev pub block_components : List ℕ → List ℕ → (List ℕ → Bool) → Block → List Component
block_components file owner own block = stanza_components file owner own (head_at block.line) block.deeper

abbrev pub components_in : List ℕ → List ℕ → (List ℕ → Bool) → List Line → List Component
components_in file owner own ls = flat_map (block_components file owner own) (blocks 0 ls)

-- the components of a package file, in its order
abbrev pub components_of : List ℕ → List Line → List Component
components_of file ls = components_in file (package_of (fields_at 0 ls)) (is_own ls) ls

-- the error names the least refused line
abbrev pub NamesLeast : ComponentError → List ℕ → Type 0
NamesLeast (ComponentSyntax line) refused = least_of refused ≡ Some line
NamesLeast NoMemory refused = Unit {0}
