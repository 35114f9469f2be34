-- Which bytes begin what.
use Rattle.std.proofs.Common.{◌≡◌, ℕ, ◌+◌, Bool, true, false, ◌&&◌, ◌||◌, ◌==◌, List, [], ◌∷◌, refl, sym, ap, ◌∙◌}
use Rattle.std.proofs.Common.{subst, arith, if◌then◌else◌}
use Rattle.std.proofs.lemmas.Bool.{cases_Bool}
use Rattle.std.proofs.lemmas.Bool.Decides.{nat_tests}
use Rattle.hs_lex.specs.declared.class.Class.TheVariants as c
use Rattle.hs_lex.specs.declared.class.Start.{Start}
use Rattle.hs_lex.specs.declared.class.Start.TheVariants as s
use Rattle.hs_lex.specs.Classes.{from_to, is_in, start_of}
use Rattle.flat_lex.specs.Pieces.{goes_on, of_name, of_symbol, joins}

-- a property of what begins with a byte, by the ranges
by_ranges : (P : Start → Type 0) (b : ℕ) →
    (from_to 97 122 b || b == 95 ≡ true → P s.Small) →
    (from_to 65 90 b ≡ true → P s.Large) →
    (from_to 48 57 b ≡ true → P s.Digit) →
    (is_in c.White b ≡ true → P s.White) →
    (b == 123 ≡ true → P s.Brace) →
    (from_to 40 41 b || (b == 44 || (b == 59 || (b == 91 || (b == 93 || (b == 96 || b == 125))))) ≡ true → P s.Special)
    →
    (is_in c.Symbol b ≡ true → P s.Symbol) →
    (b == 39 ≡ true → P s.Quote) →
    (b == 34 ≡ true → P s.DoubleQuote) →
    ((from_to 97 122 b || b == 95 ≡ false) → (from_to 65 90 b ≡ false) → (from_to 48 57 b ≡ false)
    → (is_in c.Symbol b ≡ false) → (b == 39 ≡ false) → P s.Other) →
    P (start_of b)
unfolding start_of
by_ranges P b small large digit white brace special symbol quote double other =
    split (from_to 97 122 b || b == 95) _ _ small (λ e1.
    split (from_to 65 90 b) _ _ large (λ e2.
    split (from_to 48 57 b) _ _ digit (λ e3.
    split (is_in c.White b) _ _ white (λ e4.
    split (b == 123) _ _ brace (λ e5.
    split (from_to 40 41 b || (b == 44 || (b == 59 || (b == 91 || (b == 93 || (b == 96 || b == 125)))))) _ _ special
    (λ e6.
    split (is_in c.Symbol b) _ _ symbol (λ e7.
    split (b == 39) _ _ quote (λ e8.
    split (b == 34) _ _ double (λ e9. other e1 e2 e3 e7 e8)))))))))
  where
    split : (v : Bool) (x y : Start) → (v ≡ true → P x) → (v ≡ false → P y) → P (if v then x else y)
    split true x y f g = f refl
    split false x y f g = g refl

-- what is of a name, by its first byte
pub name_byte : (b : ℕ) → is_in c.Name b ≡ of_name (start_of b)
name_byte b = by_ranges (λ st. is_in c.Name b ≡ of_name st) b
    (λ e. grind (arith, nat_tests)) (λ e. grind (arith, nat_tests)) (λ e. grind (arith, nat_tests))
    (λ e. grind (arith, nat_tests)) (λ e. grind (arith, nat_tests))
    (λ e. grind (arith, nat_tests)) (λ e. grind (arith, nat_tests)) (λ e. grind (arith, nat_tests))
    (λ e. grind (arith, nat_tests))
    (λ e1 e2 e3 e7 e8. grind (arith, nat_tests))

pub symbol_byte : (b : ℕ) → is_in c.Symbol b ≡ of_symbol (start_of b)
symbol_byte b = by_ranges (λ st. is_in c.Symbol b ≡ of_symbol st) b
    (λ e. grind (arith, nat_tests)) (λ e. grind (arith, nat_tests)) (λ e. grind (arith, nat_tests))
    (λ e. grind (arith, nat_tests)) (λ e. grind (arith, nat_tests))
    (λ e. grind (arith, nat_tests)) (λ e. e) (λ e. grind (arith, nat_tests)) (λ e. grind (arith, nat_tests))
    (λ e1 e2 e3 e7 e8. e7)

pub dash_byte : (b : ℕ) → is_in c.Symbol b ≡ false → is_in c.Dash b ≡ false
dash_byte b e = grind (arith, nat_tests)

-- what does not join does not go on
pub joined_byte : (start : Start) (b : ℕ) → joins start (start_of b) ≡ false → goes_on start b ≡ false
joined_byte s.Small b e = name_byte b ∙ e
joined_byte s.Large b e = ap (λ v. v || is_in c.Symbol b) (name_byte b)
    ∙ ap (λ v. of_name (start_of b) || v) (symbol_byte b) ∙ e
joined_byte s.Digit b e = ap (λ v. v || is_in c.Symbol b) (name_byte b)
    ∙ ap (λ v. of_name (start_of b) || v) (symbol_byte b) ∙ e
joined_byte s.Symbol b e = symbol_byte b ∙ e
joined_byte s.Brace b e = dash_byte b (symbol_byte b ∙ e)
joined_byte s.White b e = refl
joined_byte s.Special b e = refl
joined_byte s.Quote b e = refl
joined_byte s.DoubleQuote b e = refl
joined_byte s.Other b e = refl

pub digit_start : (b : ℕ) → is_in c.Digit b ≡ true → start_of b ≡ s.Digit
digit_start b h = by_ranges (λ st. st ≡ s.Digit) b
    (λ e. absurd (grind (arith, nat_tests))) (λ e. absurd (grind (arith, nat_tests))) (λ e. refl)
    (λ e. absurd (grind (arith, nat_tests))) (λ e. absurd (grind (arith, nat_tests)))
    (λ e. absurd (grind (arith, nat_tests))) (λ e. absurd (grind (arith, nat_tests)))
    (λ e. absurd (grind (arith, nat_tests))) (λ e. absurd (grind (arith, nat_tests)))
    (λ e1 e2 e3 e7 e8. absurd (grind (arith, nat_tests)))
