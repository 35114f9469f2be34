-- Package files have one outcome, and are refused as without limits, but for the limits.
use Rattle.std.proofs.Common.{ℕ, ◌+◌, List}
use Rattle.bp_base.specs.Texts.{Text}
use Rattle.bp_checks.specs.Check.{IsExact, IsWithin}
use Rattle.bp_checks.specs.Refused.{IsWrong}
use Rattle.bp_checks.proofs.CheckLemmas.{IsExact-then, IsExact-given, IsExact-each, IsWithin-then, IsWithin-each}
use Rattle.bp_edges.specs.declared.files.File.{File}
use Rattle.project_sources.specs.Limits.{Limits, unlimited}
use Rattle.project_sources.specs.Project.{package_at, packages_at, package_of, total}
use Rattle.project_sources.proofs.FileLemmas.{IsExact-whole_file, IsWithin-whole_file}
use Rattle.project_sources.proofs.TextLemmas.{IsExact-components_at}

IsExact-package_at : (l : Limits) (files : List File) (seen : ℕ) (path : Text) → IsExact (package_at l files seen path)
unfolding package_at
IsExact-package_at l files seen path = IsExact-then _ _ (IsExact-whole_file l files seen _ _ path)
    (λ content. IsExact-then _ _ (IsExact-components_at path content)
    (λ cs. IsExact-given (package_of path content cs)))

IsWithin-package_at : (l : Limits) (files : List File) (seen : ℕ) (path : Text)
    → IsWithin IsWrong (package_at l files seen path) (package_at unlimited files seen path)
unfolding package_at
IsWithin-package_at l files seen path = IsWithin-then IsWrong _ _ _ _ (IsWithin-whole_file l files seen _ _ path)
    (λ content. record { answer = λ b p. p; refusal = λ r k p. p })

-- package files have one outcome
pub IsExact-packages_at : (l : Limits) (files : List File) (seen : ℕ) (paths : List Text)
    → IsExact (packages_at l files seen paths)
unfolding packages_at
IsExact-packages_at l files seen paths =
    IsExact-each _ (λ done path. IsExact-package_at l files (seen + total done) path) paths

-- and are refused as without limits, but for the limits
pub IsWithin-packages_at : (l : Limits) (files : List File) (seen : ℕ) (paths : List Text)
    → IsWithin IsWrong (packages_at l files seen paths) (packages_at unlimited files seen paths)
unfolding packages_at
IsWithin-packages_at l files seen paths =
    IsWithin-each IsWrong _ _ (λ done path. IsWithin-package_at l files (seen + total done) path) paths
