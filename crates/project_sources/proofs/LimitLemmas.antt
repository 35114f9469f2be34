-- A limit has one outcome.
use Rattle.std.proofs.Common.{◌≡◌, ℕ, Option, Some, None, refl, sym, ◌∙◌, subst, arith}
use Rattle.bp_base.specs.declared.defect.LimitHit.{LimitHit}
use Rattle.bp_checks.specs.Check.{IsExact, IsWithin}
use Rattle.bp_checks.specs.Refused.{Refused, Passed, IsWrong}
use Rattle.bp_checks.proofs.CheckLemmas.{IsExact-given, IsWithin-given}
use Rattle.project_sources.specs.Limits.{at_most}

pub IsExact-at_most : (most : Option ℕ) (n : ℕ) (q : Refused) → IsExact (at_most most n q)
IsExact-at_most None n q = IsExact-given tt
IsExact-at_most (Some most) n q = record {
  one_answer = λ b c p s. refl_unit b c;
  one_refusal = λ r s p z. p.1 ∙ sym z.1;
  never_both = λ b r p z. let l = z.0 in omega (arith, p, l);
}
  where
    refl_unit : (b c : Unit {0}) → b ≡ c
    refl_unit b c = refl

-- a limit that is passed is no defect
pub IsWithin-at_most : (most : Option ℕ) (n : ℕ) (hit : LimitHit)
    → IsWithin IsWrong (at_most most n (Passed hit)) (at_most None n (Passed hit))
IsWithin-at_most None n hit = IsWithin-given IsWrong tt
IsWithin-at_most (Some most) n hit = record {
  answer = λ b p. refl;
  refusal = λ r k p. absurd (subst IsWrong p.1 k);
}
