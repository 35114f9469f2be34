-- Numbers.
use Rattle.std.proofs.Common.{◌≡◌, ℕ, zero, suc, ◌+◌, ◌*◌, ◌<◌, ◌≤◌, Bool, true, false, List, [], ◌∷◌, length, take}
use Rattle.std.proofs.Common.{drop, refl, sym, ap, ◌∙◌, subst, arith, Option, Some, None, cond, add-one, ◌-◌}
use Rattle.std.proofs.Common.{length-drop}
use Rattle.std.specs.Prelude.{◌&&◌, ◌==◌, nat_le}
use Rattle.std.specs.List.{prefix_len, fold}
use Rattle.std.proofs.Math.Nat.{mul-le-mul_left}
use Rattle.std.proofs.lemmas.Bool.Decides.{nat_tests}
use Rattle.std.proofs.lemmas.List.Sums.{prefix_len-le-length}
use Rattle.hs_lex.specs.declared.class.Class.TheVariants as c
use Rattle.hs_lex.specs.declared.kind.Form.{Form}
use Rattle.hs_lex.specs.declared.kind.Form.TheVariants as f
use Rattle.hs_lex.specs.Classes.{is_in, all, begins}
use Rattle.hs_lex.specs.Numbers.{only, is_run, run_as, is_hexadecimal_letter, is_octal_letter, one_more}
use Rattle.hs_lex.specs.Numbers.{is_exponent_letter, is_sign, exponent, fraction, decimal, behind_zero}
use Rattle.hs_lex.specs.Longest.{Spelling, Longest, Never, Finds, alone}
use Rattle.hs_lex.proofs.RunLemmas.{run_longest, ahead_longest, here_longest, never_ahead, over_longest, prefix_yes}
use Rattle.hs_lex.proofs.RunLemmas.{prefix_no, all_past, run_ends}

pub prefix_le : (f : ℕ → Bool) (bs : List ℕ) → prefix_len f bs ≤ length bs
prefix_le f bs = prefix_len-le-length f bs

pub run_found : (class : ℕ → Bool) (form : Form) (bs : List ℕ) → 0 < prefix_len class bs
    → Longest (alone (run_as class form)) bs form (prefix_len class bs)
run_found class form [] lt = absurd (omega arith)
run_found class form (b ∷ bs) lt = go (class b) refl
  where
    go : (v : Bool) → class b ≡ v → Longest (alone (run_as class form)) (b ∷ bs) form (prefix_len class (b ∷ bs))
    go false is = absurd (let p = prefix_no class b bs is in omega arith)
    go true is =
        subst (λ n. Longest (alone (run_as class form)) (b ∷ bs) form n) (sym (prefix_yes class b bs is))
        (ahead_longest (alone (run_as class form)) (λ ys r. only (all class ys) form) b bs form (prefix_len class bs)
        (λ ys r. ap (λ v. only (v && all class ys) form) is)
        (run_longest class (λ ys r. only (all class ys) form) (λ ys. form) bs (prefix_len class bs) refl (le bs)
        (λ ys r. refl)))
      where
        le : (bs : List ℕ) → prefix_len class bs ≤ length bs
        le bs = prefix_le class bs

-- nothing else is spelled
pub same_longest : {A : Type 0} (g g' : Spelling A) (bs : List ℕ) (x : A) (n : ℕ)
    → ((m : ℕ) → g (take m bs) (drop m bs) ≡ g' (take m bs) (drop m bs)) → Longest g' bs x n → Longest g bs x n
same_longest g g' bs x n by l = record {
  within = l.within;
  spelled = by n ∙ l.spelled;
  longest = λ m le lt. by m ∙ l.longest m le lt;
}

pub found_behind : (g g' : List ℕ → Option Form) (b : ℕ) (tail bs : List ℕ) (x : Form) (n : ℕ) → bs ≡ b ∷ tail
    → ((ys : List ℕ) → g (b ∷ ys) ≡ g' ys) →
    Longest (alone g') tail x n → Longest (alone g) bs x (n + 1)
found_behind g g' b tail bs x n at by l =
    subst (λ l. Longest (alone g) l x (n + 1)) (sym at)
    (subst (λ m. Longest (alone g) (b ∷ tail) x m) (sym (add-one n))
    (ahead_longest (alone g) (alone g') b tail x n (λ ys r. by ys) l))

pub found_here : (g g' : List ℕ → Option Form) (b : ℕ) (tail bs : List ℕ) (x : Form) → bs ≡ b ∷ tail
    → ((ys : List ℕ) → g (b ∷ ys) ≡ g' ys) → g [] ≡ Some x →
    Never (alone g') tail → Longest (alone g) bs x 0
found_here g g' b tail bs x at by e none = subst (λ l. Longest (alone g) l x 0) (sym at)
    (here_longest (alone g) (alone g') b tail x (λ ys r. by ys) e none)

-- the cases of an exponent
pub exponent_signed : (b : ℕ) (ys : List ℕ) → is_sign b ≡ true
    → exponent (b ∷ ys) ≡ run_as (is_in c.Digit) f.Floating ys
exponent_signed b ys e = ap (λ v. cond v (run_as (is_in c.Digit) f.Floating ys)
    (run_as (is_in c.Digit) f.Floating (b ∷ ys))) e

pub exponent_else : (b : ℕ) (tail bs : List ℕ) (r : Option ℕ) → bs ≡ b ∷ tail → is_sign b ≡ false
    → Finds (alone (run_as (is_in c.Digit) f.Floating)) bs f.Floating r →
    Finds (alone exponent) bs f.Floating r
exponent_else b tail bs r at e h = subst (λ l. Finds (alone exponent) l f.Floating r) (sym at)
    (go r (subst (λ l. Finds (alone (run_as (is_in c.Digit) f.Floating)) l f.Floating r) at h))
  where
    by : (m : ℕ) → exponent (take m (b ∷ tail)) ≡ run_as (is_in c.Digit) f.Floating (take m (b ∷ tail))
    by zero = refl
    by (suc m) = ap (λ v. cond v (run_as (is_in c.Digit) f.Floating (take m tail))
        (run_as (is_in c.Digit) f.Floating (b ∷ take m tail))) e

    go : (r : Option ℕ) → Finds (alone (run_as (is_in c.Digit) f.Floating)) (b ∷ tail) f.Floating r
        → Finds (alone exponent) (b ∷ tail) f.Floating r
    go None h = λ m le. by m ∙ h m le
    go (Some n) h = same_longest (alone exponent) (alone (run_as (is_in c.Digit) f.Floating))
        (b ∷ tail) f.Floating n by h

pub exponent_none : (b : ℕ) (tail bs : List ℕ) → bs ≡ b ∷ tail → is_sign b ≡ true
    → Never (alone (run_as (is_in c.Digit) f.Floating)) tail → Never (alone exponent) bs
exponent_none b tail bs at e none =
    subst (λ l. Never (alone exponent) l) (sym at)
    (never_ahead (alone exponent) (alone (run_as (is_in c.Digit) f.Floating)) b tail
    (λ ys r. exponent_signed b ys e) refl none)

pub exponent_some : (b : ℕ) (tail bs : List ℕ) (n : ℕ) → bs ≡ b ∷ tail → is_sign b ≡ true
    → Longest (alone (run_as (is_in c.Digit) f.Floating)) tail f.Floating n →
    Longest (alone exponent) bs f.Floating (n + 1)
exponent_some b tail bs n at e l = found_behind exponent (run_as (is_in c.Digit) f.Floating) b tail bs f.Floating n at
    (λ ys. exponent_signed b ys e) l

-- what is behind digits
all_taken : (bs : List ℕ) → take (length bs) bs ≡ bs
all_taken [] = refl
all_taken (b ∷ bs) = ap (λ l. b ∷ l) (all_taken bs)

pub rest_from : (n : ℕ) (xs : List ℕ) → take (length xs - n) (drop n xs) ≡ drop n xs
rest_from n xs = ap (λ m. take m (drop n xs)) (sym (length-drop n xs)) ∙ all_taken (drop n xs)

pub digits_then : (g : List ℕ → Option Form) (bs : List ℕ) (n : ℕ) (x : Form) (k : ℕ)
    → n ≡ prefix_len (is_in c.Digit) bs →
    ((b : ℕ) (ys : List ℕ) → is_in c.Digit b ≡ true → g (b ∷ ys) ≡ g ys)
    → Longest (alone g) (take (length bs - n) (drop n bs)) x k → Longest (alone g) bs x (n + k)
digits_then g bs n x k is by l =
    subst (λ m. Longest (alone g) bs x (m + k)) (sym is)
    (over_longest (is_in c.Digit) (alone g) bs x k (λ b ys r e. by b ys e)
    (subst (λ m. Longest (alone g) (drop m bs) x k) is (subst (λ l. Longest (alone g) l x k) (rest_from n bs) l)))

pub digits_end : (bs : List ℕ) (n : ℕ) → n ≡ prefix_len (is_in c.Digit) bs
    → begins (is_in c.Digit) (take (length bs - n) (drop n bs)) ≡ false
digits_end bs n is = ap (begins (is_in c.Digit)) (rest_from n bs) ∙ ap (λ m. begins (is_in c.Digit) (drop m bs)) is
    ∙ run_ends (is_in c.Digit) bs

pub decimal_digit : (b : ℕ) (ys : List ℕ) → is_in c.Digit b ≡ true → decimal (b ∷ ys) ≡ decimal ys
decimal_digit b ys e = ap (λ v. cond v (decimal ys)
    (cond (b == 46) (fraction false ys) (cond (is_exponent_letter b) (exponent ys) None))) e

fraction_digit : (some : Bool) (b : ℕ) (ys : List ℕ) → is_in c.Digit b ≡ true
    → fraction some (b ∷ ys) ≡ fraction true ys
fraction_digit true b ys e = ap (λ v. cond v (fraction true ys) (cond (is_exponent_letter b) (exponent ys) None)) e
fraction_digit false b ys e = ap (λ v. cond v (fraction true ys) None) e

pub fraction_found : (bs : List ℕ) (n k : ℕ) → n ≡ prefix_len (is_in c.Digit) bs → (n ≡ 0 → ⊥) →
    Longest (alone (fraction true)) (take (length bs - n) (drop n bs)) f.Floating k
    → Longest (alone (fraction false)) bs f.Floating (n + k)
fraction_found [] n k is some l = absurd (some is)
fraction_found (b ∷ bs) n k is some l =
    go (is_in c.Digit b) refl (digits_then (fraction true) (b ∷ bs) n f.Floating k is
    (λ b ys e. fraction_digit true b ys e) l)
  where
    at : is_in c.Digit b ≡ true → (m : ℕ) → 0 < m → fraction false (take m (b ∷ bs)) ≡ fraction true (take m (b ∷ bs))
    at e zero lt = absurd (omega arith)
    at e (suc m) lt = fraction_digit false b (take m bs) e ∙ sym (fraction_digit true b (take m bs) e)

    go : (v : Bool) → is_in c.Digit b ≡ v → Longest (alone (fraction true)) (b ∷ bs) f.Floating (n + k)
        → Longest (alone (fraction false)) (b ∷ bs) f.Floating (n + k)
    go false e l = absurd (some (is ∙ prefix_no (is_in c.Digit) b bs e))
    go true e l = record {
      within = l.within;
      spelled = at e (n + k) (let p : n ≡ suc (prefix_len (is_in c.Digit) bs) = is
          ∙ prefix_yes (is_in c.Digit) b bs e in omega arith) ∙ l.spelled;
      longest = λ m le lt. at e m (omega arith) ∙ l.longest m le lt;
    }

-- the cases of a decimal number
pub decimal_letter : (b : ℕ) (ys : List ℕ) → is_in c.Digit b ≡ false → (b ≡ 46 → ⊥) → is_exponent_letter b ≡ true
    → decimal (b ∷ ys) ≡ exponent ys
decimal_letter b ys e ne h =
    let no : (b == 46) ≡ false = grind (arith, nat_tests) in
    ap (λ v. cond v (decimal ys) (cond (b == 46) (fraction false ys) (cond (is_exponent_letter b) (exponent ys) None)))
    e
    ∙ ap (λ v. cond v (fraction false ys) (cond (is_exponent_letter b) (exponent ys) None)) no
    ∙ ap (λ v. cond v (exponent ys) None) h

pub decimal_some : (b : ℕ) (tail bs : List ℕ) (n : ℕ) → bs ≡ b ∷ tail → begins (is_in c.Digit) bs ≡ false → (b ≡ 46 → ⊥)
    → is_exponent_letter b ≡ true →
    Longest (alone exponent) tail f.Floating n → Longest (alone decimal) bs f.Floating (n + 1)
decimal_some b tail bs n at plain ne h l =
    found_behind decimal exponent b tail bs f.Floating n at
    (λ ys. decimal_letter b ys (sym (ap (begins (is_in c.Digit)) at) ∙ plain) ne h) l

-- the cases behind a 0
zero_hexadecimal : (b : ℕ) (ys : List ℕ) → is_hexadecimal_letter b ≡ true
    → behind_zero (b ∷ ys) ≡ run_as (is_in c.Hexadecimal) f.Hexadecimal ys
zero_hexadecimal b ys e = ap (λ v. cond v (run_as (is_in c.Hexadecimal) f.Hexadecimal ys)
    (cond (is_octal_letter b) (run_as (is_in c.Octal) f.Octal ys) (decimal (b ∷ ys)))) e

zero_octal : (b : ℕ) (ys : List ℕ) → is_hexadecimal_letter b ≡ false → is_octal_letter b ≡ true
    → behind_zero (b ∷ ys) ≡ run_as (is_in c.Octal) f.Octal ys
zero_octal b ys e h =
    ap (λ v. cond v (run_as (is_in c.Hexadecimal) f.Hexadecimal ys)
    (cond (is_octal_letter b) (run_as (is_in c.Octal) f.Octal ys) (decimal (b ∷ ys)))) e
    ∙ ap (λ v. cond v (run_as (is_in c.Octal) f.Octal ys) (decimal (b ∷ ys))) h

pub zero_other : (b : ℕ) (ys : List ℕ) → is_hexadecimal_letter b ≡ false → is_octal_letter b ≡ false
    → behind_zero (b ∷ ys) ≡ decimal (b ∷ ys)
zero_other b ys e h =
    ap (λ v. cond v (run_as (is_in c.Hexadecimal) f.Hexadecimal ys)
    (cond (is_octal_letter b) (run_as (is_in c.Octal) f.Octal ys) (decimal (b ∷ ys)))) e
    ∙ ap (λ v. cond v (run_as (is_in c.Octal) f.Octal ys) (decimal (b ∷ ys))) h

pub zero_hex_some : (b : ℕ) (tail bs : List ℕ) (n : ℕ) → bs ≡ b ∷ tail → is_hexadecimal_letter b ≡ true
    → Longest (alone (run_as (is_in c.Hexadecimal) f.Hexadecimal)) tail f.Hexadecimal n →
    Longest (alone behind_zero) bs f.Hexadecimal (n + 1)
zero_hex_some b tail bs n at e l = found_behind behind_zero
    (run_as (is_in c.Hexadecimal) f.Hexadecimal) b tail bs f.Hexadecimal n at (λ ys. zero_hexadecimal b ys e) l

pub zero_hex_none : (b : ℕ) (tail bs : List ℕ) → bs ≡ b ∷ tail → is_hexadecimal_letter b ≡ true
    → Never (alone (run_as (is_in c.Hexadecimal) f.Hexadecimal)) tail →
    Longest (alone behind_zero) bs f.Decimal 0
zero_hex_none b tail bs at e none = found_here behind_zero
    (run_as (is_in c.Hexadecimal) f.Hexadecimal) b tail bs f.Decimal at (λ ys. zero_hexadecimal b ys e) refl none

pub zero_octal_some : (b : ℕ) (tail bs : List ℕ) (n : ℕ) → bs ≡ b ∷ tail → is_hexadecimal_letter b ≡ false
    → is_octal_letter b ≡ true →
    Longest (alone (run_as (is_in c.Octal) f.Octal)) tail f.Octal n → Longest (alone behind_zero) bs f.Octal (n + 1)
zero_octal_some b tail bs n at e h l = found_behind behind_zero (run_as (is_in c.Octal) f.Octal) b tail bs f.Octal n at
    (λ ys. zero_octal b ys e h) l

pub zero_octal_none : (b : ℕ) (tail bs : List ℕ) → bs ≡ b ∷ tail → is_hexadecimal_letter b ≡ false
    → is_octal_letter b ≡ true →
    Never (alone (run_as (is_in c.Octal) f.Octal)) tail → Longest (alone behind_zero) bs f.Decimal 0
zero_octal_none b tail bs at e h none = found_here behind_zero (run_as (is_in c.Octal) f.Octal) b tail bs f.Decimal at
    (λ ys. zero_octal b ys e h) refl none

pub zero_else : (b : ℕ) (tail bs : List ℕ) (x : Form) (n : ℕ) → bs ≡ b ∷ tail → is_hexadecimal_letter b ≡ false
    → is_octal_letter b ≡ false →
    Longest (alone decimal) bs x n → Longest (alone behind_zero) bs x n
zero_else b tail bs x n at e h l = same_longest (alone behind_zero) (alone decimal) bs x n
    (λ m. subst (λ l. behind_zero (take m l) ≡ decimal (take m l)) (sym at) (by m)) l
  where
    by : (m : ℕ) → behind_zero (take m (b ∷ tail)) ≡ decimal (take m (b ∷ tail))
    by zero = refl
    by (suc m) = zero_other b (take m tail) e h

-- a value only grows
pub value_grows : (base : ℕ) (v : ℕ) (ds : List ℕ) → 0 < base → v ≤ fold (one_more base) v ds
value_grows base v [] lt = omega arith
value_grows base v (d ∷ ds) lt =
    let h = value_grows base (one_more base v d) ds lt in
    let g : v * 1 ≤ v * base = mul-le-mul_left v lt in
    omega arith

pub value_exceeds : (base value total limit b : ℕ) (left rest : List ℕ) → 0 < base → left ≡ b ∷ rest
    → fold (one_more base) value left ≡ total →
    limit < one_more base value b → false ≡ nat_le total limit
value_exceeds base value total limit b left rest lt at is over =
    let whole : fold (one_more base) (one_more base value b) rest ≡ total = sym (ap (fold (one_more base) value) at)
    ∙ is in
    let grows = value_grows base (one_more base value b) rest lt in
    let more : limit < total = omega arith in
    grind (arith, nat_tests)
