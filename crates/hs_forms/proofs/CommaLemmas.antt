-- One token several times and a closing one.
use Rattle.std.proofs.Common.{◌≡◌, ℕ, zero, suc, ◌+◌, ◌<◌, ◌≤◌, Bool, true, false, List, [], ◌∷◌, ◌++◌, length, refl}
use Rattle.std.proofs.Common.{sym, ap, ◌∙◌, append_assoc, true≢false, arith, length-append}
use Rattle.std.specs.Prelude.{replicate}
use Rattle.hs_forms.specs.Reading.{begins, Reads}
use Rattle.hs_forms.specs.Answers.{Accepts, Rejects}
use Rattle.hs_forms.specs.Forms.{commas_form}
use Rattle.hs_forms.proofs.FormLemmas.{begins_same, uncons}

module _ {K : Type 0} (comma shut : K) (is_comma is_shut : K → Bool) (comma_is : is_comma comma ≡ true)
    (shut_is : is_shut shut ≡ true) (apart : is_comma shut ≡ false) (bound : ℕ) where
  abbrev commas : ℕ → List K
  commas n = replicate n comma ++ shut ∷ []

  clash : (f : K → Bool) (xs ys : List K) → begins f ys ≡ true → xs ≡ ys → begins f xs ≡ false → ⊥
  clash f xs ys h e k = true≢false (sym h ∙ sym (ap (begins f) e) ∙ k)

  one_name : (n m : ℕ) (s after : List K) → commas n ++ s ≡ commas m ++ after → (m ≡ n) × (after ≡ s)
  one_name zero zero s after e = (refl, sym (uncons _ _ _ e))
  one_name zero (suc m) s after e = absurd (clash is_comma _ _ comma_is e apart)
  one_name (suc n) zero s after e = absurd (clash is_comma _ _ comma_is (sym e) apart)
  one_name (suc n) (suc m) s after e = let found = one_name n m s after (uncons _ _ _ e) in (ap suc found.0, found.1)

  no_name : (n m : ℕ) (s after : List K) → begins is_comma s ≡ false → begins is_shut s ≡ false →
      replicate n comma ++ s ≡ commas m ++ after → ⊥
  no_name zero zero s after c p e = clash is_shut _ _ shut_is e p
  no_name zero (suc m) s after c p e = clash is_comma _ _ comma_is e c
  no_name (suc n) zero s after c p e = clash is_comma _ _ comma_is (sym e) apart
  no_name (suc n) (suc m) s after c p e = no_name n m s after c p (uncons _ _ _ e)

  longer_name : (n m : ℕ) (s after : List K) → m ≤ n → begins is_comma s ≡ true →
      replicate n comma ++ s ≡ commas m ++ after → ⊥
  longer_name zero zero s after le c e = clash is_comma _ _ c (sym e) apart
  longer_name zero (suc m) s after le c e = absurd (omega arith)
  longer_name (suc n) zero s after le c e = clash is_comma _ _ comma_is (sym e) apart
  longer_name (suc n) (suc m) s after le c e = longer_name n m s after (omega arith) c (uncons _ _ _ e)

  pub commas_read : (n : ℕ) (rest : List K) → n < bound → Reads (commas_form comma shut bound) n rest
  commas_read n rest most = record {
    good = most;
    only = λ s other after same good quiet e. one_name n other s after e;
  }

  -- the commas and the closing token stand there
  pub commas_ok : (ts : List K) (n : ℕ) (rest : List K) → ts ≡ replicate n comma ++ (shut ∷ rest) → n < bound →
      Accepts (commas_form comma shut bound) (λ n. 0) ts n rest 0
  commas_ok ts n rest split most =
      let spelled : ts ≡ commas n ++ rest = split ∙ sym (append_assoc (replicate n comma) (shut ∷ []) rest) in
      record {
        spelled = spelled;
        reads = commas_read n rest most;
        measured_is = refl;
        room = omega (
          arith,
          ap length spelled,
          length-append (commas n) rest,
          length-append (replicate n comma) (shut ∷ []),
        );
      }

  -- the closing token does not follow
  pub commas_open : (ts : List K) (n : ℕ) (bad : List K) → ts ≡ replicate n comma ++ bad → n < bound →
      begins is_comma bad ≡ false → begins is_shut bad ≡ false → Rejects (commas_form comma shut bound) ts (length bad)
  commas_open ts n bad split most c p = record {
    before = replicate n comma;
    bad = bad;
    split = split;
    left_is = refl;
    refuses = record {
      begun = (shut ∷ [], n, most, refl);
      never = λ s other after same good quiet e.
          no_name n other s after (begins_same is_comma bad s same ∙ c) (begins_same is_shut bad s same ∙ p) e;
    };
  }

  -- one comma too many
  pub commas_over : (ts : List K) (n : ℕ) (bad : List K) → ts ≡ replicate n comma ++ bad → n + 1 ≡ bound →
      begins is_comma bad ≡ true → Rejects (commas_form comma shut bound) ts (length bad)
  commas_over ts n bad split most c = record {
    before = replicate n comma;
    bad = bad;
    split = split;
    left_is = refl;
    refuses = record {
      begun = (shut ∷ [], n, omega arith, refl);
      never = λ s other after same good quiet e.
          longer_name n other s after (omega (arith, good)) (begins_same is_comma bad s same ∙ c) e;
    };
  }
