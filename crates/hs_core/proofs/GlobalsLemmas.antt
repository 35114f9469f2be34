-- Names have one meaning, and of a list the first of a name.
use Rattle.std.proofs.Common.{◌≡◌, refl, sym, ap, ◌∙◌, Bool, true, false, cond}
use Rattle.std.specs.Prelude.{Option, unwrap_or}
use Rattle.bp_base.specs.declared.ty.OrigName.{OrigName}
use Rattle.hs_core.specs.Sameness.{same_original}
use Rattle.hs_core.specs.Globals.{NameMeaning, KindIsOne, FirstCounts}
use Rattle.hs_core.proofs.SamenessLemmas.{original_itself, original_same}

pub kind_is_one : KindIsOne
kind_is_one G n k j p q = ap (λ o. unwrap_or o k) (sym p ∙ q)

at_test : (b : Bool) (m o : Option NameMeaning) → b ≡ true → cond b m o ≡ m
at_test b m o e = ap (λ x. cond x m o) e

past_test : (b : Bool) (m o : Option NameMeaning) → b ≡ false → cond b m o ≡ o
past_test b m o e = ap (λ x. cond x m o) e

pub first_counts : FirstCounts
first_counts x xs G = (
  at_test _ _ _ (original_itself x.name),
  λ n other. past_test _ _ _ (differs n other (same_original x.name n) refl),
)
  where
    differs : (n : OrigName) → (x.name ≡ n → ⊥) → (b : Bool) → same_original x.name n ≡ b
        → same_original x.name n ≡ false
    differs n other true e = absurd (other (original_same x.name n e))
    differs n other false e = e
