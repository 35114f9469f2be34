-- What a project file and a package file give, or at which line they are refused.
use Rattle.std.specs.Prelude.{◌≡◌, ℕ, List, [], Some}
use Rattle.bp_base.specs.Texts.{Text}
use Rattle.bp_base.specs.declared.code.Code.TheVariants.{ProjectSyntax, ComponentSyntax}
use Rattle.bp_base.specs.declared.defect.Item.TheVariants.{Line}
use Rattle.bp_checks.specs.Check.{Check}
use Rattle.bp_checks.specs.Refused.{Refused, Wrong, defect_at}
use Rattle.cabal_text.specs.Lines.{kept_lines}
use Rattle.cabal_text.specs.Least.{least_of}
use Rattle.cabal_stanzas.specs.Project.{project_files, project_refused, first_of}
use Rattle.cabal_component.specs.declared.component.Component.{Component}
use Rattle.cabal_component.specs.Package.{package_refused}
use Rattle.cabal_component.specs.Reading.{components_of}

-- the package files that a project file names, or its first refused line
unfoldable pub package_files : Text → Check (List Text) Refused
package_files content = record {
  passes = λ paths. (project_refused (kept_lines content) ≡ []) × (paths ≡ project_files (kept_lines content));
  fails = λ r. (line : ℕ) × (first_of (project_refused (kept_lines content)) ≡ Some line)
      × (r ≡ Wrong (defect_at ProjectSyntax [] [] (Line line)));
}

-- the components of the package file at a path, or its least refused line
unfoldable pub components_at : Text → Text → Check (List Component) Refused
components_at path content = record {
  passes = λ cs. (package_refused (kept_lines content) ≡ []) × (cs ≡ components_of path (kept_lines content));
  fails = λ r. (line : ℕ) × (least_of (package_refused (kept_lines content)) ≡ Some line)
      × (r ≡ Wrong (defect_at ComponentSyntax path [] (Line line)));
}
