-- A project: its package files in order, with what was read of them.
use Rattle.std.specs.Prelude.{◌+◌, ℕ, List, [], ◌∷◌, length, codes}
use Rattle.std.specs.List.{flat_map}
use Rattle.bp_base.specs.Texts.{Text}
use Rattle.bp_checks.specs.Check.{Check, ◌>>=◌, given, each}
use Rattle.bp_checks.specs.Refused.{Refused}
use Rattle.bp_edges.specs.declared.files.File.{File}
use Rattle.cabal_component.specs.declared.component.Component.{Component}
use Rattle.project_sources.specs.declared.project.Package.{Package}
use Rattle.project_sources.specs.declared.project.Named.{Named}
use Rattle.project_sources.specs.declared.project.Project.{Project}
use Rattle.project_sources.specs.Limits.{Limits}
use Rattle.project_sources.specs.Reading.{whole_file}
use Rattle.project_sources.specs.Texts.{components_at, package_files}
use Rattle.project_sources.specs.Once.{told_apart}

-- the bytes of package files
abbrev pub total : List Package → ℕ
total [] = 0
total (p ∷ ps) = length p.content + total ps

abbrev pub package_of : Text → Text → List Component → Package
package_of path content cs = record { path = path; content = content; components = cs }

-- the package file at a path, where so many bytes were read before it
unfoldable pub package_at : Limits → List File → ℕ → Text → Check Package Refused
package_at l files seen path =
    whole_file l files seen [] [] path >>= λ content.
    components_at path content >>= λ cs. given (package_of path content cs)

-- package files in order, each behind the bytes of those before it
unfoldable pub packages_at : Limits → List File → ℕ → List Text → Check (List Package) Refused
packages_at l files seen paths = each paths (λ done path. package_at l files (seen + total done) path)

abbrev pub project_path : Text
project_path = codes "cabal.project"

abbrev pub named_of : Text → List Text → Named
named_of content paths = record { paths = paths; bytes = length content }

-- the package files that `cabal.project` names
unfoldable pub named_files : Limits → List File → Check Named Refused
named_files l files =
    whole_file l files 0 [] [] project_path >>= λ content.
    package_files content >>= λ paths. given (named_of content paths)

-- the components of package files, in order
abbrev pub components_of : List Package → List Component
components_of ps = flat_map (λ p. p.components) ps

abbrev pub project_of : Named → List Package → Project
project_of n ps = record { bytes = n.bytes + total ps; packages = ps; components = components_of ps }

-- a project: `cabal.project`, its package files, and components that are told apart
unfoldable pub project_at : Limits → List File → Check Project Refused
project_at l files =
    named_files l files >>= λ n. packages_at l files n.bytes n.paths >>= λ ps.
    told_apart l (components_of ps) >>= λ _. given (project_of n ps)
