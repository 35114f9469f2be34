-- The test of original names.
use Rattle.std.proofs.Common.{◌≡◌, ◌↔◌, Bool, true, false, refl, subst}
use Rattle.std.specs.Prelude.{IsTrue}
use Rattle.bp_base.specs.declared.ty.OrigName.{OrigName}
use Rattle.hs_core.specs.Sameness.{same_original}
use Rattle.hs_core.proofs.SamenessLemmas.{original_itself, original_same}

by_test : (a b : OrigName) (t s : Bool) → same_original a b ≡ s → IsTrue t ↔ (a ≡ b) → t ≡ s
by_test a b true true e h = refl
by_test a b false false e h = refl
by_test a b true false e h =
    let p = h.0 refl in
    let q : same_original a b ≡ true = subst (λ (n : OrigName). same_original a n ≡ true) p (original_itself a) in
    absurd (cc)
by_test a b false true e h = let p = h.1 (original_same a b e) in absurd (cc)

-- what decides equality is the test
pub same_test : (a b : OrigName) (t : Bool) → IsTrue t ↔ (a ≡ b) → t ≡ same_original a b
same_test a b t h = by_test a b t (same_original a b) refl h
