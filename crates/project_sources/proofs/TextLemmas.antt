-- A project file and a package file have one outcome.
use Rattle.std.proofs.Common.{◌≡◌, ℕ, Option, Some, List, [], sym, ap, ◌∙◌}
use Rattle.bp_base.specs.Texts.{Text}
use Rattle.bp_base.specs.declared.code.Code.TheVariants.{ProjectSyntax, ComponentSyntax}
use Rattle.bp_base.specs.declared.defect.Item.TheVariants.{Line}
use Rattle.bp_checks.specs.Check.{IsExact}
use Rattle.bp_checks.specs.Refused.{Wrong, defect_at}
use Rattle.cabal_text.specs.Lines.{kept_lines}
use Rattle.cabal_text.specs.Least.{least_of}
use Rattle.cabal_stanzas.specs.Project.{project_refused, first_of}
use Rattle.cabal_component.specs.Package.{package_refused}
use Rattle.project_sources.specs.Texts.{package_files, components_at}

same_line : (o : Option ℕ) (a b : ℕ) → o ≡ Some a → o ≡ Some b → a ≡ b
same_line o a b e f = let p : Some a ≡ Some b = sym e ∙ f in cc

no_first : (ls : List ℕ) (n : ℕ) → ls ≡ [] → first_of ls ≡ Some n → ⊥
no_first ls n e f = let p : first_of [] ≡ Some n = ap first_of (sym e) ∙ f in cc

no_least : (ls : List ℕ) (n : ℕ) → ls ≡ [] → least_of ls ≡ Some n → ⊥
no_least ls n e f = let p : least_of [] ≡ Some n = ap least_of (sym e) ∙ f in cc

pub IsExact-package_files : (content : Text) → IsExact (package_files content)
unfolding package_files
IsExact-package_files content = record {
  one_answer = λ b c p q. p.1 ∙ sym q.1;
  one_refusal = λ r q p z. p.2 ∙ ap (λ (n : ℕ). Wrong (defect_at ProjectSyntax [] [] (Line n)))
      (same_line (first_of (project_refused (kept_lines content))) p.0 z.0 p.1 z.1) ∙ sym z.2;
  never_both = λ b r p z. no_first (project_refused (kept_lines content)) z.0 p.0 z.1;
}

pub IsExact-components_at : (path content : Text) → IsExact (components_at path content)
unfolding components_at
IsExact-components_at path content = record {
  one_answer = λ b c p q. p.1 ∙ sym q.1;
  one_refusal = λ r q p z. p.2 ∙ ap (λ (n : ℕ). Wrong (defect_at ComponentSyntax path [] (Line n)))
      (same_line (least_of (package_refused (kept_lines content))) p.0 z.0 p.1 z.1) ∙ sym z.2;
  never_both = λ b r p z. no_least (package_refused (kept_lines content)) z.0 p.0 z.1;
}
