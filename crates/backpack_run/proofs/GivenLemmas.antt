-- A project gives one outcome for a target, and what it gives within limits it gives without them.
use Rattle.std.proofs.Common.{◌≡◌, ◌+◌, ℕ, Option, Some, None, List, sym, ◌∙◌}
use Rattle.bp_base.specs.Texts.{Text}
use Rattle.bp_checks.specs.Check.{IsExact, IsWithin}
use Rattle.bp_checks.specs.Refused.{IsWrong}
use Rattle.bp_checks.proofs.CheckLemmas.{IsExact-then, IsExact-given, IsExact-each}
use Rattle.bp_checks.proofs.CheckLemmas.{IsWithin-then, IsWithin-each}
use Rattle.bp_edges.specs.declared.files.File.{File}
use Rattle.cabal_component.specs.declared.component.Component.{Component}
use Rattle.project_sources.specs.declared.project.Project.{Project}
use Rattle.project_sources.specs.Limits.{Limits, unlimited}
use Rattle.project_sources.proofs.WholeLemmas.{IsExact-project_at, IsWithin-project_at}
use Rattle.project_sources.proofs.SourceLemmas.{IsExact-gathered, IsWithin-gathered}
use Rattle.project_order.proofs.OrderLemmas.{IsExact-build_order}
use Rattle.plain_check.proofs.ExactLemmas.{IsExact-source_read, IsExact-typed, IsExact-text_of, IsExact-asks_nothing}
use Rattle.plain_check.proofs.ExactLemmas.{IsWithin-source_read}
use Rattle.backpack_run.specs.declared.build.Built.{Built}
use Rattle.backpack_run.specs.Given.{component_in, listed, reached_one, reached, planned, plan_of, read_one, built_of}
use Rattle.backpack_run.specs.Given.{checked_one, built_total, all_checked, built_in, text_if, closed, built, content_in}

same_component : (o : Option Component) (a b : Component) → o ≡ Some a → o ≡ Some b → a ≡ b
same_component o a b e f = let p : Some a ≡ Some b = sym e ∙ f in cc

not_there : (o : Option Component) (a : Component) → o ≡ Some a → o ≡ None → ⊥
not_there o a e f = cc (e, f)

IsExact-listed : (cs : List Component) (name : Text) → IsExact (listed cs name)
unfolding listed
IsExact-listed cs name = record {
  one_answer = λ a b p q. same_component (component_in cs name) a b p q;
  one_refusal = λ r q p z. p.1 ∙ sym z.1;
  never_both = λ a r p z. not_there (component_in cs name) a p z.0;
}

IsExact-reached_one : (p : Project) (name : Text) → IsExact (reached_one p name)
unfolding reached_one
IsExact-reached_one p name = IsExact-then _ _ (IsExact-listed p.components name) (λ c.
    IsExact-then _ _ (IsExact-asks_nothing c (content_in p.packages c.file)) (λ _. IsExact-given c))

IsExact-reached : (p : Project) (order : List Text) → IsExact (reached p order)
unfolding reached
IsExact-reached p order = IsExact-each _ (λ done name. IsExact-reached_one p name) order

pub IsExact-planned : (l : Limits) (files : List File) (target : Text) → IsExact (planned l files target)
unfolding planned
IsExact-planned l files target = IsExact-then _ _ (IsExact-project_at l files) (λ p.
    IsExact-then _ _ (IsExact-build_order p.components target) (λ order.
    IsExact-then _ _ (IsExact-reached p order) (λ cs. IsExact-given (plan_of p cs))))

pub IsExact-read_one : (l : Limits) (files : List File) (seen : ℕ) (c : Component) → IsExact (read_one l files seen c)
unfolding read_one
IsExact-read_one l files seen c = IsExact-then _ _ (IsExact-gathered l files seen c) (λ i.
    IsExact-then _ _ (IsExact-source_read l.nesting i.component.name _ _) (λ m. IsExact-given (built_of i m)))

IsExact-checked_one : (l : Limits) (files : List File) (seen : ℕ) (c : Component) → IsExact (checked_one l files seen c)
unfolding checked_one
IsExact-checked_one l files seen c = IsExact-then _ _ (IsExact-read_one l files seen c) (λ b.
    IsExact-then _ _ (IsExact-typed b.name b.plain) (λ _. IsExact-given b))

IsExact-all_checked : (l : Limits) (files : List File) (seen : ℕ) (cs : List Component)
    → IsExact (all_checked l files seen cs)
unfolding all_checked
IsExact-all_checked l files seen cs =
    IsExact-each _ (λ done c. IsExact-checked_one l files (seen + built_total done) c) cs

IsExact-text_if : (target : Text) (o : Option Built) → IsExact (text_if target o)
IsExact-text_if target None = record {
  one_answer = λ a b p q. absurd p;
  one_refusal = λ r q p z. p ∙ sym z;
  never_both = λ a r p z. p;
}
IsExact-text_if target (Some b) = IsExact-text_of b.plain

IsExact-closed : (bs : List Built) (target : Text) → IsExact (closed bs target)
unfolding closed
IsExact-closed bs target = IsExact-text_if target (built_in bs target)

-- a target has one text, or one refusal
pub IsExact-built : (l : Limits) (files : List File) (target : Text) → IsExact (built l files target)
unfolding built
IsExact-built l files target = IsExact-then _ _ (IsExact-planned l files target) (λ plan.
    IsExact-then _ _ (IsExact-all_checked l files plan.bytes plan.components) (λ bs. IsExact-closed bs target))

pub IsWithin-planned : (l : Limits) (files : List File) (target : Text)
    → IsWithin IsWrong (planned l files target) (planned unlimited files target)
unfolding planned
IsWithin-planned l files target = IsWithin-then IsWrong _ _ _ _ (IsWithin-project_at l files)
    (λ p. record { answer = λ b q. q; refusal = λ r k q. q })

pub IsWithin-read_one : (l : Limits) (files : List File) (seen other : ℕ) (c : Component)
    → IsWithin IsWrong (read_one l files seen c) (read_one unlimited files other c)
unfolding read_one
IsWithin-read_one l files seen other c = IsWithin-then IsWrong _ _ _ _ (IsWithin-gathered l files seen other c)
    (λ i. IsWithin-then IsWrong _ _ _ _ (IsWithin-source_read l.nesting i.component.name _ _)
    (λ m. record { answer = λ b q. q; refusal = λ r k q. q }))

IsWithin-checked_one : (l : Limits) (files : List File) (seen : ℕ) (c : Component)
    → IsWithin IsWrong (checked_one l files seen c) (checked_one unlimited files seen c)
unfolding checked_one
IsWithin-checked_one l files seen c = IsWithin-then IsWrong _ _ _ _ (IsWithin-read_one l files seen seen c)
    (λ b. record { answer = λ x q. q; refusal = λ r k q. q })

IsWithin-all_checked : (l : Limits) (files : List File) (seen : ℕ) (cs : List Component)
    → IsWithin IsWrong (all_checked l files seen cs) (all_checked unlimited files seen cs)
unfolding all_checked
IsWithin-all_checked l files seen cs =
    IsWithin-each IsWrong _ _ (λ done c. IsWithin-checked_one l files (seen + built_total done) c) cs

-- what is given within limits is given without them, and so is each refusal but for the limits
pub IsWithin-built : (l : Limits) (files : List File) (target : Text)
    → IsWithin IsWrong (built l files target) (built unlimited files target)
unfolding built
IsWithin-built l files target = IsWithin-then IsWrong _ _ _ _ (IsWithin-planned l files target) (λ plan.
    IsWithin-then IsWrong _ _ _ _ (IsWithin-all_checked l files plan.bytes plan.components)
    (λ bs. record { answer = λ b q. q; refusal = λ r k q. q }))
