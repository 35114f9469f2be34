-- The steps of a nested comment and of a string.
use Rattle.std.proofs.Common.{◌≡◌, ℕ, zero, suc, ◌+◌, ◌-◌, ◌<◌, ◌≤◌, Bool, true, false, List, [], ◌∷◌, length, drop}
use Rattle.std.proofs.Common.{refl, sym, ap, ◌∙◌, arith, Option, Some, None, cond, zero-add}
use Rattle.std.specs.Prelude.{◌&&◌, ◌==◌}
use Rattle.std.proofs.lemmas.Bool.Decides.{nat_tests}
use Rattle.hs_lex.specs.Lexicon.{nested_len, checked}
use Rattle.hs_lex.specs.declared.kind.Kind.{Kind}
use Rattle.hs_lex.specs.declared.kind.Kind.TheVariants as k
use Rattle.std.specs.Str.{IsUtf8, is_utf8}
use Rattle.std.proofs.lemmas.Str.{is_utf8-from_IsUtf8, IsUtf8-from_is_utf8}
use Rattle.hs_lex.specs.Literals.{more_by, item_len, string_len}

-- the steps of a nested comment
pub more_twice : (n m : ℕ) (o : Option ℕ) → more_by n (more_by m o) ≡ more_by (n + m) o
more_twice n m None = refl
more_twice n m (Some l) = ap Some (omega arith)

pub level_opens : (n len : ℕ) (o : Option ℕ) (b c : ℕ) (rest tail bs : List ℕ) → 0 < n → (b == 123 && c == 45) ≡ true
    → rest ≡ b ∷ tail → tail ≡ c ∷ bs →
    o ≡ more_by len (nested_len n rest) → o ≡ more_by (len + 2) (nested_len (n + 1) bs)
level_opens zero len o b c rest tail bs lt p at and e = absurd (omega arith)
level_opens (suc n) len o b c rest tail bs lt p at and e =
    let up : suc n + 1 ≡ suc (suc n) = omega arith in
    e ∙ ap (λ l. more_by len (nested_len (suc n) l)) (at ∙ ap (λ l. b ∷ l) and)
    ∙ ap (λ v. more_by len (cond v (more_by 2 (nested_len (suc (suc n)) bs))
    (cond (b == 45 && c == 125) (more_by 2 (nested_len n bs)) (more_by 1 (nested_len (suc n) (c ∷ bs)))))) p
    ∙ more_twice len 2 (nested_len (suc (suc n)) bs) ∙ ap (λ m. more_by (len + 2) (nested_len m bs)) (sym up)

pub level_closes : (n len : ℕ) (o : Option ℕ) (b c : ℕ) (rest tail bs : List ℕ) → 0 < n → (b == 123 && c == 45) ≡ false
    → (b == 45 && c == 125) ≡ true →
    rest ≡ b ∷ tail → tail ≡ c ∷ bs → o ≡ more_by len (nested_len n rest)
    → o ≡ more_by (len + 2) (nested_len (n - 1) bs)
level_closes zero len o b c rest tail bs lt p q at and e = absurd (omega arith)
level_closes (suc n) len o b c rest tail bs lt p q at and e =
    let down : suc n - 1 ≡ n = omega arith in
    e ∙ ap (λ l. more_by len (nested_len (suc n) l)) (at ∙ ap (λ l. b ∷ l) and)
    ∙ ap (λ v. more_by len (cond v (more_by 2 (nested_len (suc (suc n)) bs))
    (cond (b == 45 && c == 125) (more_by 2 (nested_len n bs)) (more_by 1 (nested_len (suc n) (c ∷ bs)))))) p
    ∙ ap (λ v. more_by len (cond v (more_by 2 (nested_len n bs)) (more_by 1 (nested_len (suc n) (c ∷ bs))))) q
    ∙ more_twice len 2 (nested_len n bs) ∙ ap (λ m. more_by (len + 2) (nested_len m bs)) (sym down)

pub level_stays : (n len : ℕ) (o : Option ℕ) (b c : ℕ) (rest tail bs : List ℕ) → 0 < n → (b == 123 && c == 45) ≡ false
    → (b == 45 && c == 125) ≡ false →
    rest ≡ b ∷ tail → tail ≡ c ∷ bs → o ≡ more_by len (nested_len n rest) → o ≡ more_by (len + 1) (nested_len n tail)
level_stays zero len o b c rest tail bs lt p q at and e = absurd (omega arith)
level_stays (suc n) len o b c rest tail bs lt p q at and e =
    e ∙ ap (λ l. more_by len (nested_len (suc n) l)) (at ∙ ap (λ l. b ∷ l) and)
    ∙ ap (λ v. more_by len (cond v (more_by 2 (nested_len (suc (suc n)) bs))
    (cond (b == 45 && c == 125) (more_by 2 (nested_len n bs)) (more_by 1 (nested_len (suc n) (c ∷ bs)))))) p
    ∙ ap (λ v. more_by len (cond v (more_by 2 (nested_len n bs)) (more_by 1 (nested_len (suc n) (c ∷ bs))))) q
    ∙ more_twice len 1 (nested_len (suc n) (c ∷ bs)) ∙ ap (λ l. more_by (len + 1) (nested_len (suc n) l)) (sym and)

pub more_none : (o : Option ℕ) → more_by 0 o ≡ o
more_none None = refl
more_none (Some n) = ap Some (zero-add n)

-- over an item
pub skip : (n : ℕ) (bs : List ℕ) → n ≤ length bs → string_len n bs ≡ more_by n (string_len 0 (drop n bs))
skip zero bs le = sym (more_none (string_len 0 bs))
skip (suc n) [] le = absurd (omega arith)
skip (suc n) (b ∷ bs) le =
    ap (more_by 1) (skip n bs (omega arith)) ∙ more_twice 1 n (string_len 0 (drop n bs))
    ∙ ap (λ m. more_by m (string_len 0 (drop n bs))) (let e : 1 + n ≡ suc n = omega arith in e)

at_item : (b : ℕ) (bs : List ℕ) (o : Option ℕ) → (b ≡ 34 → ⊥) → item_len b bs ≡ o
    → string_len 0 (b ∷ bs) ≡ elim o [ None ↦ None | Some n ↦ more_by 1 (string_len n bs) ]
at_item b bs o ne is =
    let no : (b == 34) ≡ false = grind (arith, nat_tests) in
    ap (λ v. cond v (Some 1) (elim (item_len b bs) [ None ↦ None | Some n ↦ more_by 1 (string_len n bs) ])) no
    ∙ ap (λ o. elim o [ None ↦ None | Some n ↦ more_by 1 (string_len n bs) ]) is

pub item_more : (b : ℕ) (left bs left' : List ℕ) (len n : ℕ) (o : Option ℕ) → left ≡ b ∷ bs → (b ≡ 34 → ⊥)
    → Some n ≡ item_len b bs → n ≤ length bs → left' ≡ drop n bs →
    o ≡ more_by len (string_len 0 left) → o ≡ more_by (len + (n + 1)) (string_len 0 left')
item_more b left bs left' len n o at ne is le behind e =
    e ∙ ap (λ l. more_by len (string_len 0 l)) at ∙ ap (more_by len) (at_item b bs (Some n) ne (sym is)
    ∙ ap (more_by 1) (skip n bs le) ∙ more_twice 1 n (string_len 0 (drop n bs)))
    ∙ more_twice len (1 + n) (string_len 0 (drop n bs))
    ∙ ap (λ m. more_by m (string_len 0 (drop n bs))) (let h : len + (1 + n) ≡ len + (n + 1) = omega arith in h)
    ∙ ap (λ l. more_by (len + (n + 1)) (string_len 0 l)) (sym behind)

pub is_checked : (w : List ℕ) (kind : Kind) → IsUtf8 w → kind ≡ checked w kind
is_checked w kind u = sym (ap (λ v. cond v kind k.Broken) (is_utf8-from_IsUtf8 w u))

pub not_checked : (w : List ℕ) (kind : Kind) → (IsUtf8 w → ⊥) → k.Broken ≡ checked w kind
not_checked w kind bad = go (is_utf8 w) refl
  where
    go : (v : Bool) → is_utf8 w ≡ v → k.Broken ≡ checked w kind
    go true e = absurd (bad (IsUtf8-from_is_utf8 w e))
    go false e = sym (ap (λ v. cond v kind k.Broken) e)
