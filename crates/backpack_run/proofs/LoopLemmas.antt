-- The loops over a build order and over its components.
use Rattle.std.proofs.Common.{◌≡◌, ◌≤◌, ◌<◌, ◌+◌, ℕ, List, [], ◌∷◌, ◌++◌, drop, length, get_or, refl, sym, subst, arith}
use Rattle.bp_base.specs.Texts.{Text}
use Rattle.bp_base.specs.declared.defect.Refusal.{Refusal}
use Rattle.bp_checks.specs.Check.{Check, Through}
use Rattle.bp_checks.specs.Refused.{Refused, OnRefusal}
use Rattle.bp_checks.specs.Stop.{OnStop}
use Rattle.bp_checks.specs.declared.stop.Stop.{Stop}
use Rattle.bp_checks.proofs.LoopLemmas.{stopped_on_the_way, refused_on_the_way, one_more, at_the_end}
use Rattle.bp_edges.specs.declared.files.File.{File}
use Rattle.cabal_component.specs.declared.component.Component.{Component}
use Rattle.project_sources.specs.declared.project.Project.{Project}
use Rattle.project_sources.specs.Limits.{limited}
use Rattle.backpack_run.specs.declared.build.Built.{Built}
use Rattle.backpack_run.specs.Given.{reached_one, reached, checked_one, all_checked, built_total}

-- the step of the loop over a build order
abbrev pub each_name : Project → List Component → Text → Check Component Refused
each_name p done name = reached_one p name

module _ (p : Project) (order : List Text) (all : List Component) (i : ℕ)
    (way : Through (each_name p) order all (drop i order)) where
  pub name_refused : (x : Text) (refusal : Refusal) → i < length order → x ≡ get_or order i x
      → OnRefusal refusal (reached_one p x).fails → OnRefusal refusal (reached p order).fails
  unfolding reached
  name_refused x refusal l is h = refused_on_the_way (each_name p) order all i all x refusal way l is refl h

  pub name_more : (x : Text) (c : Component) (new : List Component) → i < length order → x ≡ get_or order i x
      → (reached_one p x).passes c → new ≡ all ++ c ∷ [] → Through (each_name p) order new (drop (i + 1) order)
  name_more x c new l is h e = one_more (each_name p) order all i all x c new way l is refl h e

  pub names_end : length order ≤ i → (reached p order).passes all
  unfolding reached
  names_end l = at_the_end (each_name p) order all i way l

-- the bytes of one more
pub built_total-push : (bs : List Built) (b : Built) → built_total (bs ++ b ∷ []) ≡ built_total bs + b.bytes
built_total-push [] b = omega arith
built_total-push (x ∷ bs) b = let e = built_total-push bs b in omega (arith, e)

pub built_total_more : (seen read : ℕ) (bs new : List Built) (b : Built) → read ≡ seen + built_total bs
    → new ≡ bs ++ b ∷ [] → read + b.bytes ≡ seen + built_total new
built_total_more seen read bs new b e n =
    let t = built_total-push bs b in
    subst (λ (xs : List Built). read + b.bytes ≡ seen + built_total xs) (sym n) (omega (arith, e, t))

-- the step of the loop over components
abbrev pub each_component : List File → ℕ → List Built → Component → Check Built Refused
each_component files seen done c = checked_one limited files (seen + built_total done) c

module _ (files : List File) (seen : ℕ) (cs : List Component) (all : List Built) (i : ℕ)
    (way : Through (each_component files seen) cs all (drop i cs)) where
  pub component_stopped : (read : ℕ) (x : Component) (stop : Stop) → i < length cs → x ≡ get_or cs i x
      → read ≡ seen + built_total all → OnStop stop (checked_one limited files read x).fails
      → OnStop stop (all_checked limited files seen cs).fails
  unfolding all_checked
  component_stopped read x stop l is e h =
      stopped_on_the_way (each_component files seen) cs all i all x stop way l is refl
      (subst (λ (n : ℕ). OnStop stop (checked_one limited files n x).fails) e h)

  pub component_more : (read : ℕ) (x : Component) (b : Built) (new : List Built) → i < length cs → x ≡ get_or cs i x
      → read ≡ seen + built_total all → (checked_one limited files read x).passes b → new ≡ all ++ b ∷ []
      → Through (each_component files seen) cs new (drop (i + 1) cs)
  component_more read x b new l is e h n =
      one_more (each_component files seen) cs all i all x b new way l is refl
      (subst (λ (m : ℕ). (checked_one limited files m x).passes b) e h) n

  pub components_end : length cs ≤ i → (all_checked limited files seen cs).passes all
  unfolding all_checked
  components_end l = at_the_end (each_component files seen) cs all i way l
