-- Package files on their way.
use Rattle.std.proofs.Common.{◌≡◌, inl, inr, ℕ, ◌+◌, ◌<◌, ◌≤◌, Option, List, [], ◌∷◌, ◌++◌, Ok, Err, refl, sym, subst}
use Rattle.std.proofs.Common.{drop, length, get_or, arith}
use Rattle.bp_checks.specs.Check.{Check, Through}
use Rattle.bp_checks.proofs.CheckLemmas.{Through-start}
use Rattle.bp_checks.proofs.LoopLemmas.{stopped_on_the_way, one_more, at_the_end}
use Rattle.bp_base.specs.Texts.{Text}
use Rattle.bp_base.specs.declared.defect.Refusal.{Refusal}
use Rattle.bp_checks.specs.Refused.{Refused, OnRefusal}
use Rattle.bp_checks.specs.Stop.{OnStop, Tells, stop_of}
use Rattle.bp_checks.specs.declared.stop.Stop.{Stop}
use Rattle.bp_checks.proofs.RefusedLemmas.{OnStop-map, OnRefusal-map, OnRefusal-stops}
use Rattle.bp_edges.specs.declared.files.File.{File}
use Rattle.cabal_component.specs.declared.component.Component.{Component}
use Rattle.project_sources.specs.declared.project.Package.{Package}
use Rattle.project_sources.specs.Limits.{limited}
use Rattle.project_sources.specs.Reading.{whole_file}
use Rattle.project_sources.specs.Texts.{components_at}
use Rattle.project_sources.specs.Project.{package_at, packages_at, package_of, total}

module _ (told : Option (List File)) (seen : ℕ) (path : Text) where
  pub package_stopped : (stop : Stop)
      → Tells told (λ (files : List File). whole_file limited files seen [] [] path) (Err stop)
      → Tells told (λ (files : List File). package_at limited files seen path) (Err stop)
  unfolding package_at
  package_stopped stop h = λ files t. OnStop-map stop (whole_file limited files seen [] [] path).fails
      (package_at limited files seen path).fails (λ r z. inl z) (h files t)

  pub package_refused : (content : Text) (refusal : Refusal)
      → Tells told (λ (files : List File). whole_file limited files seen [] [] path) (Ok content)
      → OnRefusal refusal (components_at path content).fails
      → Tells told (λ (files : List File). package_at limited files seen path) (Err (stop_of refusal))
  unfolding package_at
  package_refused content refusal h k = λ files t. OnRefusal-stops refusal (package_at limited files seen path).fails
      (OnRefusal-map refusal (components_at path content).fails (package_at limited files seen path).fails
      (λ r z. inr (content, h files t, inl z)) k)

  pub package_told : (content : Text) (cs : List Component) (p : Package)
      → Tells told (λ (files : List File). whole_file limited files seen [] [] path) (Ok content)
      → (components_at path content).passes cs → p ≡ package_of path content cs
      → Tells told (λ (files : List File). package_at limited files seen path) (Ok p)
  unfolding package_at
  package_told content cs p h k e = λ files t. (content, h files t, (cs, k, e))

-- the bytes of one more
pub total-push : (ps : List Package) (p : Package) → total (ps ++ p ∷ []) ≡ total ps + length p.content
total-push [] p = omega arith
total-push (x ∷ ps) p = let e = total-push ps p in omega (arith, e)

pub total_more : (seen read : ℕ) (ps new : List Package) (p : Package) → read ≡ seen + total ps → new ≡ ps ++ p ∷ []
    → read + length p.content ≡ seen + total new
total_more seen read ps new p e n =
    let t = total-push ps p in
    subst (λ (xs : List Package). read + length p.content ≡ seen + total xs) (sym n) (omega (arith, e, t))

-- the step of a loop over package files
abbrev pub one_package : List File → ℕ → List Package → Text → Check Package Refused
one_package files seen done path = package_at limited files (seen + total done) path

module _ (files : List File) (seen : ℕ) (paths : List Text) where
  pub packages_start : Through (one_package files seen) paths [] paths
  packages_start = Through-start (one_package files seen) paths

  module _ (all : List Package) (i read : ℕ) (x : Text)
      (way : Through (one_package files seen) paths all (drop i paths)) where
    pub packages_stopped : (stop : Stop) → i < length paths → x ≡ get_or paths i x → read ≡ seen + total all
        → OnStop stop (package_at limited files read x).fails
        → OnStop stop (packages_at limited files seen paths).fails
    unfolding packages_at
    packages_stopped stop l is e h =
        stopped_on_the_way (one_package files seen) paths all i all x stop way l is refl
        (subst (λ (n : ℕ). OnStop stop (package_at limited files n x).fails) e h)

    pub packages_more : (p : Package) (new : List Package) → i < length paths → x ≡ get_or paths i x
        → read ≡ seen + total all → (package_at limited files read x).passes p → new ≡ all ++ p ∷ []
        → Through (one_package files seen) paths new (drop (i + 1) paths)
    packages_more p new l is e h n =
        one_more (one_package files seen) paths all i all x p new way l is refl
        (subst (λ (m : ℕ). (package_at limited files m x).passes p) e h) n

  pub packages_end : (all : List Package) (i : ℕ) → Through (one_package files seen) paths all (drop i paths)
      → length paths ≤ i → (packages_at limited files seen paths).passes all
  unfolding packages_at
  packages_end all i way l = at_the_end (one_package files seen) paths all i way l
