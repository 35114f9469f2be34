-- Components that are told apart: one outcome.
use Rattle.std.proofs.Common.{◌≡◌, Option, Some, List, [], length, refl, sym, ap, ◌∙◌}
use Rattle.bp_base.specs.Texts.{Text}
use Rattle.bp_base.specs.declared.code.Code.TheVariants.{TwiceComponent}
use Rattle.bp_base.specs.declared.defect.Item.TheVariants.{Nothing}
use Rattle.bp_checks.specs.Check.{IsExact, IsWithin}
use Rattle.bp_checks.specs.Refused.{Wrong, IsWrong, defect_at}
use Rattle.bp_checks.proofs.CheckLemmas.{IsExact-then, IsWithin-then}
use Rattle.cabal_component.specs.declared.component.Component.{Component}
use Rattle.project_sources.specs.Limits.{Limits, unlimited}
use Rattle.project_sources.specs.Once.{once, twice_after, told_apart}
use Rattle.project_sources.proofs.LimitLemmas.{IsExact-at_most, IsWithin-at_most}

same_name : (o : Option Text) (a b : Text) → o ≡ Some a → o ≡ Some b → a ≡ b
same_name o a b e f = let p : Some a ≡ Some b = sym e ∙ f in cc

IsExact-once : (cs : List Component) → IsExact (once cs)
IsExact-once cs = record {
  one_answer = λ b c p q. refl;
  one_refusal = λ r q p z. p.2 ∙ ap (λ (n : Text). Wrong (defect_at TwiceComponent n [] Nothing))
      (same_name (twice_after [] cs) p.0 z.0 p.1 z.1) ∙ sym z.2;
  never_both = λ b r p z. let e = z.1 in cc;
}

pub IsExact-told_apart : (l : Limits) (cs : List Component) → IsExact (told_apart l cs)
unfolding told_apart
IsExact-told_apart l cs = IsExact-then _ _ (IsExact-once cs) (λ b. IsExact-at_most l.components (length cs) _)

-- components are refused as without limits, but for the limit
pub IsWithin-told_apart : (l : Limits) (cs : List Component)
    → IsWithin IsWrong (told_apart l cs) (told_apart unlimited cs)
unfolding told_apart
IsWithin-told_apart l cs = IsWithin-then IsWrong _ _ _ _ (record { answer = λ b p. p; refusal = λ r k p. p })
    (λ b. IsWithin-at_most l.components (length cs) _)
