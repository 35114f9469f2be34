-- A project, from what its steps tell.
use Rattle.std.proofs.Common.{◌≡◌, inl, inr, Option, List, [], Ok, Err, subst, ◌∙◌}
use Rattle.bp_base.specs.Texts.{Text}
use Rattle.bp_base.specs.declared.defect.Refusal.{Refusal}
use Rattle.bp_checks.specs.Check.{IsExact, IsWithin}
use Rattle.bp_checks.specs.Refused.{OnRefusal, IsWrong}
use Rattle.bp_checks.specs.Stop.{Tells, stop_of}
use Rattle.bp_checks.specs.declared.stop.Stop.{Stop}
use Rattle.bp_checks.proofs.RefusedLemmas.{OnStop-map, OnRefusal-map, OnRefusal-stops}
use Rattle.bp_edges.specs.declared.files.File.{File}
use Rattle.cabal_component.specs.declared.component.Component.{Component}
use Rattle.project_sources.specs.declared.project.Package.{Package}
use Rattle.project_sources.specs.declared.project.Named.{Named}
use Rattle.project_sources.specs.declared.project.Project.{Project}
use Rattle.project_sources.specs.Limits.{Limits, limited, unlimited}
use Rattle.project_sources.specs.Reading.{whole_file}
use Rattle.project_sources.specs.Texts.{package_files}
use Rattle.project_sources.specs.Once.{told_apart}
use Rattle.project_sources.specs.Project.{packages_at, named_files, named_of, components_of, project_at, project_of}
use Rattle.project_sources.specs.Project.{project_path}
use Rattle.bp_checks.proofs.CheckLemmas.{IsExact-then, IsExact-given, IsWithin-then, IsWithin-given}
use Rattle.project_sources.proofs.FileLemmas.{IsExact-whole_file, IsWithin-whole_file}
use Rattle.project_sources.proofs.TextLemmas.{IsExact-package_files}
use Rattle.project_sources.proofs.PackageLemmas.{IsExact-packages_at, IsWithin-packages_at}
use Rattle.project_sources.proofs.OnceLemmas.{IsExact-told_apart, IsWithin-told_apart}

module _ (told : Option (List File)) where
  module _ (path : Text) (is : path ≡ project_path) where
    pub named_stopped : (stop : Stop)
        → Tells told (λ (files : List File). whole_file limited files 0 [] [] path) (Err stop)
        → Tells told (λ (files : List File). named_files limited files) (Err stop)
    unfolding named_files
    named_stopped stop h = λ files t. OnStop-map stop (whole_file limited files 0 [] [] path).fails
        (named_files limited files).fails
        (λ r z. inl (subst (λ (p : Text). (whole_file limited files 0 [] [] p).fails r) is z)) (h files t)

    at_project : (files : List File) (content : Text) → (whole_file limited files 0 [] [] path).passes content
        → (whole_file limited files 0 [] [] project_path).passes content
    at_project files content h = subst (λ (p : Text). (whole_file limited files 0 [] [] p).passes content) is h

    pub named_refused : (content : Text) (refusal : Refusal)
        → Tells told (λ (files : List File). whole_file limited files 0 [] [] path) (Ok content)
        → OnRefusal refusal (package_files content).fails
        → Tells told (λ (files : List File). named_files limited files) (Err (stop_of refusal))
    unfolding named_files
    named_refused content refusal h k = λ files t. OnRefusal-stops refusal (named_files limited files).fails
        (OnRefusal-map refusal (package_files content).fails (named_files limited files).fails
        (λ r z. inr (content, at_project files content (h files t), inl z)) k)

    pub named_told : (content : Text) (paths : List Text) (n : Named)
        → Tells told (λ (files : List File). whole_file limited files 0 [] [] path) (Ok content)
        → (package_files content).passes paths → n ≡ named_of content paths
        → Tells told (λ (files : List File). named_files limited files) (Ok n)
    unfolding named_files
    named_told content paths n h k e = λ files t. (content, at_project files content (h files t), (paths, k, e))

  pub project_stopped : (stop : Stop) → Tells told (λ (files : List File). named_files limited files) (Err stop)
      → Tells told (λ (files : List File). project_at limited files) (Err stop)
  unfolding project_at
  project_stopped stop h = λ files t. OnStop-map stop (named_files limited files).fails
      (project_at limited files).fails (λ r z. inl z) (h files t)

  module _ (later : Option (List File)) (same : later ≡ told) (n : Named)
      (h : Tells told (λ (files : List File). named_files limited files) (Ok n)) where
    pub packages_refused : (stop : Stop)
        → Tells later (λ (files : List File). packages_at limited files n.bytes n.paths) (Err stop)
        → Tells told (λ (files : List File). project_at limited files) (Err stop)
    unfolding project_at
    packages_refused stop k = λ files t. OnStop-map stop (packages_at limited files n.bytes n.paths).fails
        (project_at limited files).fails (λ r z. inr (n, h files t, inl z)) (k files (same ∙ t))

    pub apart_refused : (ps : List Package) (cs : List Component) (refusal : Refusal)
        → Tells later (λ (files : List File). packages_at limited files n.bytes n.paths) (Ok ps)
        → cs ≡ components_of ps → OnRefusal refusal (told_apart limited cs).fails
        → Tells told (λ (files : List File). project_at limited files) (Err (stop_of refusal))
    unfolding project_at
    apart_refused ps cs refusal k e a = λ files t. OnRefusal-stops refusal (project_at limited files).fails
        (OnRefusal-map refusal (told_apart limited (components_of ps)).fails (project_at limited files).fails
        (λ r z. inr (n, h files t, inr (ps, k files (same ∙ t), inl z)))
        (subst (λ (xs : List Component). OnRefusal refusal (told_apart limited xs).fails) e a))

    pub project_told : (ps : List Package) (cs : List Component) (u : Unit {0}) (p : Project)
        → Tells later (λ (files : List File). packages_at limited files n.bytes n.paths) (Ok ps)
        → cs ≡ components_of ps → (told_apart limited cs).passes u → p ≡ project_of n ps
        → Tells told (λ (files : List File). project_at limited files) (Ok p)
    unfolding project_at
    project_told ps cs u p k e a d = λ files t.
        let apart = subst (λ (xs : List Component). (told_apart limited xs).passes u) e a in
        (n, h files t, (ps, k files (same ∙ t), (u, apart, d)))

IsExact-named_files : (l : Limits) (files : List File) → IsExact (named_files l files)
unfolding named_files
IsExact-named_files l files = IsExact-then _ _ (IsExact-whole_file l files 0 [] [] project_path)
    (λ content. IsExact-then _ _ (IsExact-package_files content) (λ paths. IsExact-given (named_of content paths)))

-- a project has one outcome
pub IsExact-project_at : (l : Limits) (files : List File) → IsExact (project_at l files)
unfolding project_at
IsExact-project_at l files = IsExact-then _ _ (IsExact-named_files l files) (λ n.
    IsExact-then _ _ (IsExact-packages_at l files n.bytes n.paths) (λ ps.
    IsExact-then _ _ (IsExact-told_apart l (components_of ps)) (λ _. IsExact-given (project_of n ps))))

IsWithin-named_files : (l : Limits) (files : List File)
    → IsWithin IsWrong (named_files l files) (named_files unlimited files)
unfolding named_files
IsWithin-named_files l files = IsWithin-then IsWrong _ _ _ _ (IsWithin-whole_file l files 0 [] [] project_path)
    (λ content. record { answer = λ b p. p; refusal = λ r k p. p })

-- and is refused as without limits, but for the limits
pub IsWithin-project_at : (l : Limits) (files : List File)
    → IsWithin IsWrong (project_at l files) (project_at unlimited files)
unfolding project_at
IsWithin-project_at l files = IsWithin-then IsWrong _ _ _ _ (IsWithin-named_files l files) (λ n.
    IsWithin-then IsWrong _ _ _ _ (IsWithin-packages_at l files n.bytes n.paths) (λ ps.
    IsWithin-then IsWrong _ _ _ _ (IsWithin-told_apart l (components_of ps))
    (λ _. IsWithin-given IsWrong (project_of n ps))))
