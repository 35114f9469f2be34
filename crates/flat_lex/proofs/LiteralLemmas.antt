-- The literals of the flat text are pieces.
use Rattle.std.proofs.Common.{◌≡◌, ℕ, zero, suc, ◌+◌, ◌-◌, ◌*◌, ◌/◌, ◌%◌, ◌^◌, ◌<◌, ◌≤◌, Bool, true, false, List, []}
use Rattle.std.proofs.Common.{◌∷◌, ◌++◌, length, take, drop, get_or, refl, sym, ap, ◌∙◌, subst, arith, Option, Some}
use Rattle.std.proofs.Common.{None, append_assoc, if◌then◌else◌, inl, inr}
use Rattle.std.specs.Prelude.{not, ◌&&◌, ◌||◌, ◌==◌, nat_le, nat_lt}
use Rattle.std.specs.List.{prefix_len, fold}
use Rattle.std.specs.Str.{is_utf8, IsAscii}
use Rattle.std.specs.Fmt.{decimal}
use Rattle.std.proofs.lemmas.Bool.{cases_Bool, and_parts, or_cases, eqb-true, ltb-true, lt-ltb, le-leb, or_parts}
use Rattle.std.proofs.lemmas.Bool.Decides.{nat_tests}
use Rattle.std.proofs.lemmas.List.{take_at, drop_at, length-append}
use Rattle.std.proofs.lemmas.List.Sums.{fold-append}
use Rattle.std.proofs.lemmas.Fmt.{decimal_by_steps}
use Rattle.std.proofs.lemmas.Str.{IsUtf8-from_ascii, is_utf8-from_IsUtf8}
use Rattle.hs_tokens.specs.declared.token.TokenKind.TheVariants as t
use Rattle.hs_lex.specs.declared.class.Class.TheVariants as c
use Rattle.hs_lex.specs.declared.class.Start.{Start}
use Rattle.hs_lex.specs.declared.class.Start.TheVariants as s
use Rattle.hs_lex.specs.declared.kind.Kind.TheVariants as k
use Rattle.hs_lex.specs.Classes.{from_to, is_in, all, begins, start_of}
use Rattle.hs_lex.specs.Numbers.{only, one_more, value_of, digit_of, integer}
use Rattle.hs_lex.specs.Literals.{more_by, is_char_escape, code_len, name_len, control_len, escape_len, gap_len}
use Rattle.hs_lex.specs.Literals.{string_escape_len, is_plain, item_len, string_len, character_len, literal_len}
use Rattle.hs_lex.specs.Literals.{closed_behind, char_len}
use Rattle.hs_lex.proofs.RunLemmas.{prefix_yes, prefix_no}
use Rattle.hs_lex.proofs.LevelLemmas.{more_none, more_twice}
use Rattle.flat_lex.specs.Pieces.{Piece, IsPiece}
use Rattle.flat_lex.specs.Literals.{AreCodes, LiteralsArePieces, char_by, char_bytes, gap_by, gap, string_bytes}
use Rattle.flat_lex.specs.Literals.{integer_piece, character_piece}
use Rattle.flat_lex.specs.Literals.{string_piece}
use Rattle.flat_lex.proofs.StartLemmas.{digit_start}
use Rattle.flat_lex.proofs.PieceLemmas.{number_piece, char_piece, text_piece}

-- Decimal numbers.

record IsDecimal (n : ℕ) (ds : List ℕ) : Type 0 where
  first : ℕ
  more : List ℕ
  is : ds ≡ first ∷ more
  digits : all (is_in c.Digit) ds ≡ true
  value : value_of 10 ds ≡ n

small_digit : (n : ℕ) → n < 10 → is_in c.Digit (48 + n) ≡ true
small_digit n h = grind (arith, nat_tests)

digit_is : (n : ℕ) → n < 10 → digit_of (48 + n) ≡ n
digit_is n h = ap (λ v. if v then 48 + n - 48 else (if nat_le (48 + n) 70 then 48 + n - 55 else 48 + n - 87))
    (le-leb (48 + n) 57 (omega (arith, h)))
    ∙ omega arith

all_append : (g : ℕ → Bool) (xs ys : List ℕ) → all g xs ≡ true → all g ys ≡ true → all g (xs ++ ys) ≡ true
all_append g [] ys e f = f
all_append g (x ∷ xs) ys e f =
    let p = and_parts (g x) (all g xs) e in ap (λ v. v && all g (xs ++ ys)) p.0 ∙ all_append g xs ys p.1 f

one_digit : (n : ℕ) → n < 10 → all (is_in c.Digit) ((48 + n) ∷ []) ≡ true
one_digit n h = ap (λ v. v && true) (small_digit n h)

decimal_one : (n : ℕ) → n < 10 → IsDecimal n ((48 + n) ∷ [])
decimal_one n h = record {
  first = 48 + n;
  more = [];
  is = refl;
  digits = one_digit n h;
  value = let e =
      digit_is n h in omega (arith, e);
}

below_ten : (n : ℕ) → n % 10 < 10
below_ten n = omega arith

decimal_more : (n : ℕ) (ds : List ℕ) → 10 ≤ n → IsDecimal (n / 10) ds → IsDecimal n (ds ++ ((48 + n % 10) ∷ []))
decimal_more n ds h p = record {
  first = p.first;
  more = p.more ++ ((48 + n % 10) ∷ []);
  is = ap (λ xs. xs ++ ((48 + n % 10) ∷ [])) p.is;
  digits = all_append (is_in c.Digit) ds ((48 + n % 10) ∷ []) p.digits (one_digit (n % 10) (below_ten n));
  value = fold-append (one_more 10) 0 ds ((48 + n % 10) ∷ [])
      ∙ (let v = p.value in let d = digit_is (n % 10) (below_ten n) in omega (arith, v, d));
}

decimal_is : (n : ℕ) → n < 2 ^ 64 → IsDecimal n (decimal n)
decimal_is n h = decimal_by_steps IsDecimal decimal_one decimal_more n h

integer_by : (n : ℕ) (ds : List ℕ) → IsDecimal n ds → n ≤ 9223372036854775807
    → IsPiece (record { start = s.Digit; kind = k.Token t.Integer; text = ds })
integer_by n ds p h = subst (λ xs. IsPiece (record { start = s.Digit; kind = k.Token t.Integer; text = xs })) (sym p.is)
    (number_piece p.first p.more (k.Token t.Integer) (digit_start p.first parts.0) parts.1
    (ap (λ v. if nat_le v 9223372036854775807 then k.Token t.Integer else k.Broken)
    (sym (ap (value_of 10) p.is) ∙ p.value)
    ∙ ap (λ v. if v then k.Token t.Integer else k.Broken) (within n h)) refl)
  where
    parts : (is_in c.Digit p.first ≡ true) × (all (is_in c.Digit) p.more ≡ true)
    parts = and_parts (is_in c.Digit p.first) (all (is_in c.Digit) p.more)
        (sym (ap (all (is_in c.Digit)) p.is) ∙ p.digits)

    within : (n : ℕ) → n ≤ 9223372036854775807 → nat_le n 9223372036854775807 ≡ true
    within n h = grind (arith, nat_tests)

pub integer_stands : (value : ℕ) → value ≤ 9223372036854775807 → IsPiece (integer_piece value)
integer_stands value h = integer_by value (decimal value) (decimal_is value (omega arith)) h

-- The length of what stands behind a backslash.

prefix_of : (g : ℕ → Bool) (w tail : List ℕ) → all g w ≡ true → begins g tail ≡ false
    → prefix_len g (w ++ tail) ≡ length w
prefix_of g [] [] e f = refl
prefix_of g [] (b ∷ tail) e f = prefix_no g b tail f
prefix_of g (b ∷ w) tail e f =
    let p = and_parts (g b) (all g w) e in prefix_yes g b (w ++ tail) p.0 ∙ ap suc (prefix_of g w tail p.1 f)

record NoLetter (d : ℕ) : Type 0 where
  amp : d == 38 ≡ false
  white : is_in c.White d ≡ false
  escape : is_char_escape d ≡ false

no_letter : (d : ℕ) → is_in c.Digit d ≡ true → NoLetter d
no_letter d e = record {
  amp = grind (arith, nat_tests);
  white = grind (arith, nat_tests);
  escape =
      grind (arith, nat_tests);
}

code_is : (n : ℕ) (ds tail : List ℕ) → IsDecimal n ds → n ≤ 1114111 → begins (is_in c.Digit) tail ≡ false
    → code_len 10 (is_in c.Digit) (ds ++ tail) ≡ Some (length ds)
code_is n ds tail p h e =
    ap (λ m. only (nat_lt 0 m && nat_le (value_of 10 (take m (ds ++ tail))) 1114111) m)
    (prefix_of (is_in c.Digit) ds tail p.digits e)
    ∙ ap (λ w. only (nat_lt 0 (length ds) && nat_le (value_of 10 w) 1114111) (length ds))
    (take_at ds tail (length ds) refl)
    ∙ ap (λ v. only (nat_lt 0 (length ds) && nat_le v 1114111) (length ds)) p.value
    ∙ ap (λ v. only (v && nat_le n 1114111) (length ds)) (some (length ds) (ap length p.is))
    ∙ ap (λ v. only v (length ds)) (within n h)
  where
    some : (m : ℕ) → m ≡ suc (length p.more) → nat_lt 0 m ≡ true
    some m e = grind (arith, nat_tests)

    within : (n : ℕ) → n ≤ 1114111 → nat_le n 1114111 ≡ true
    within n h = grind (arith, nat_tests)

escape_is : (n : ℕ) (ds tail : List ℕ) → IsDecimal n ds → n ≤ 1114111 → begins (is_in c.Digit) tail ≡ false →
    (escape_len (ds ++ tail) ≡ Some (length ds)) × (string_escape_len (ds ++ tail) ≡ Some (length ds))
escape_is n ds tail p h e =
    let d = p.first in
    let front : ds ++ tail ≡ d ∷ (p.more ++ tail) = ap (λ xs. xs ++ tail) p.is in
    let digit = (and_parts (is_in c.Digit d) (all (is_in c.Digit) p.more)
    (sym (ap (all (is_in c.Digit)) p.is) ∙ p.digits)).0 in
    let it = no_letter d digit in
    let bs = p.more ++ tail in
    let plain : escape_len (d ∷ bs) ≡ Some (length ds) =
    ap (λ v. if v then Some 1 else (if is_in c.Digit d then code_len 10 (is_in c.Digit) (d ∷ bs)
    else (if d == 111 then more_by 1 (code_len 8 (is_in c.Octal) bs)
    else (if d == 120 then more_by 1 (code_len 16 (is_in c.Hexadecimal) bs)
    else (if d == 94 then more_by 1 (control_len bs) else name_len (d ∷ bs)))))) it.escape
    ∙ ap (λ v. if v then code_len 10 (is_in c.Digit) (d ∷ bs)
    else (if d == 111 then more_by 1 (code_len 8 (is_in c.Octal) bs)
    else (if d == 120 then more_by 1 (code_len 16 (is_in c.Hexadecimal) bs)
    else (if d == 94 then more_by 1 (control_len bs) else name_len (d ∷ bs))))) digit
    ∙ ap (code_len 10 (is_in c.Digit)) (sym front) ∙ code_is n ds tail p h e in (
      ap escape_len front ∙ plain,
      ap string_escape_len front
          ∙ ap (λ v. if v then Some 1 else (if is_in c.White d then gap_len (d ∷ bs) else escape_len (d ∷ bs))) it.amp
          ∙ ap (λ v. if v then gap_len (d ∷ bs) else escape_len (d ∷ bs)) it.white ∙ plain,
    )

-- Strings.

-- bytes of whole items of a string, before these bytes
abbrev Passes : List ℕ → List ℕ → Type 0
Passes item tail = string_len 0 (item ++ tail) ≡ more_by (length item) (string_len 0 tail)

skipped : (w tail : List ℕ) → string_len (length w) (w ++ tail) ≡ more_by (length w) (string_len 0 tail)
skipped [] tail = sym (more_none (string_len 0 tail))
skipped (b ∷ w) tail = ap (more_by 1) (skipped w tail) ∙ more_twice 1 (length w) (string_len 0 tail)
    ∙ ap (λ n. more_by n (string_len 0 tail)) (omega arith)

item_passes : (b : ℕ) (w tail : List ℕ) → b == 34 ≡ false → item_len b (w ++ tail) ≡ Some (length w)
    → Passes (b ∷ w) tail
item_passes b w tail e is =
    ap (λ v. if v then Some 1 else elim (item_len b (w ++ tail))
    [ None ↦ None | Some n ↦ more_by 1 (string_len n (w ++ tail)) ]) e
    ∙ ap (λ o. elim o as (λ x. Option ℕ) [ None ↦ None | Some n ↦ more_by 1 (string_len n (w ++ tail)) ]) is
    ∙ ap (more_by 1) (skipped w tail) ∙ more_twice 1 (length w) (string_len 0 tail)
    ∙ ap (λ n. more_by n (string_len 0 tail)) (omega arith)

both_pass : (v w tail : List ℕ) → Passes v (w ++ tail) → Passes w tail → Passes (v ++ w) tail
both_pass v w tail e f =
    ap (string_len 0) (append_assoc v w tail) ∙ e ∙ ap (more_by (length v)) f
    ∙ more_twice (length v) (length w) (string_len 0 tail)
    ∙ ap (λ n. more_by n (string_len 0 tail)) (sym (length-append v w))

char_passes : (shown mark : Bool) (code : ℕ) (tail : List ℕ) → from_to 32 126 code ≡ shown
    → (code == 34 || code == 92) ≡ mark → code ≤ 1114111 →
    (shown ≡ false → begins (is_in c.Digit) tail ≡ false) → Passes (char_by shown mark code) tail
char_passes true true code tail e f h apart = elim (or_cases (code == 34) (code == 92) f) [
  | inl is ↦ subst (λ q. Passes (92 ∷ q ∷ []) tail) (sym (eqb-true code 34 is))
      (item_passes 92 (34 ∷ []) tail refl refl)
  | inr is ↦ subst (λ q. Passes (92 ∷ q ∷ []) tail) (sym (eqb-true code 92 is))
      (item_passes 92 (92 ∷ []) tail refl refl)
]
char_passes true false code tail e f h apart =
    let p = or_parts (code == 34) (code == 92) f in
    item_passes code [] tail p.0
    (ap (λ v. if v then string_escape_len tail else only (is_plain code) 0) p.1
    ∙ ap (λ v. only (v || nat_le 128 code) 0) e)
char_passes false mark code tail e f h apart =
    item_passes 92 (decimal code) tail refl (escape_is code (decimal code) tail (decimal_is code (omega arith)) h
    (apart refl)).1

first_by : (shown mark : Bool) (code : ℕ) (tail : List ℕ) → from_to 48 57 code ≡ false
    → begins (is_in c.Digit) (char_by shown mark code ++ tail) ≡ false
first_by true true code tail e = refl
first_by true false code tail e = e
first_by false mark code tail e = refl

gap_apart : (v : Bool) (next : ℕ) (codes tail : List ℕ) → from_to 48 57 next ≡ v
    → begins (is_in c.Digit) ((gap_by v ++ string_bytes (next ∷ codes)) ++ tail) ≡ false
gap_apart true next codes tail e = refl
gap_apart false next codes tail e =
    ap (begins (is_in c.Digit)) (append_assoc (char_bytes 34 next) (gap next codes ++ string_bytes codes) tail)
    ∙ first_by (from_to 32 126 next) (next == 34 || next == 92) next ((gap next codes ++ string_bytes codes) ++ tail) e

behind_number : (code : ℕ) (codes tail : List ℕ) → begins (is_in c.Digit) tail ≡ false → from_to 32 126 code ≡ false →
    begins (is_in c.Digit) ((gap code codes ++ string_bytes codes) ++ tail) ≡ false
behind_number code [] tail apart e = apart
behind_number code (next ∷ codes) tail apart e =
    ap (λ v. begins (is_in c.Digit) ((gap_by (not v && from_to 48 57 next) ++ string_bytes (next ∷ codes)) ++ tail)) e
    ∙ gap_apart (from_to 48 57 next) next codes tail refl

gap_passes : (v : Bool) (w tail : List ℕ) → Passes w tail → Passes (gap_by v ++ w) tail
gap_passes true w tail e = both_pass (92 ∷ 38 ∷ []) w tail (item_passes 92 (38 ∷ []) (w ++ tail) refl refl) e
gap_passes false w tail e = e

any_gap : (code : ℕ) (codes w tail : List ℕ) → Passes w tail → Passes (gap code codes ++ w) tail
any_gap code [] w tail e = e
any_gap code (next ∷ codes) w tail e = gap_passes (not (from_to 32 126 code) && from_to 48 57 next) w tail e

strings_pass : (codes tail : List ℕ) → AreCodes codes → begins (is_in c.Digit) tail ≡ false
    → Passes (string_bytes codes) tail
strings_pass [] tail are apart = sym (more_none (string_len 0 tail))
strings_pass (code ∷ codes) tail are apart =
    both_pass (char_bytes 34 code) (gap code codes ++ string_bytes codes) tail
    (char_passes (from_to 32 126 code) (code == 34 || code == 92) code
    ((gap code codes ++ string_bytes codes) ++ tail) refl refl are.0 (behind_number code codes tail apart))
    (any_gap code codes (string_bytes codes) tail (strings_pass codes tail are.1 apart))

string_ends : (codes rest : List ℕ) → AreCodes codes → string_len 0 ((string_bytes codes ++ 34 ∷ []) ++ rest) ≡ Some
    (length (string_bytes codes ++ 34 ∷ []))
string_ends codes rest are =
    ap (string_len 0) (append_assoc (string_bytes codes) (34 ∷ []) rest) ∙ strings_pass codes (34 ∷ rest) are refl
    ∙ ap Some (sym (length-append (string_bytes codes) (34 ∷ [])))

-- Texts of ASCII are UTF-8.

abbrev small : ℕ → Bool
small b = nat_lt b 128

ascii_by : (bs : List ℕ) → all small bs ≡ true → (j : ℕ) → get_or bs j 0 < 128
ascii_by [] e j = omega arith
ascii_by (b ∷ bs) e zero = ltb-true b 128 (and_parts (small b) (all small bs) e).0
ascii_by (b ∷ bs) e (suc j) = ascii_by bs (and_parts (small b) (all small bs) e).1 j

utf8_by : (bs : List ℕ) → all small bs ≡ true → is_utf8 bs ≡ true
utf8_by bs e = is_utf8-from_IsUtf8 bs (IsUtf8-from_ascii bs (ascii_by bs e))

all_weaker : (g h : ℕ → Bool) → ((b : ℕ) → g b ≡ true → h b ≡ true) → (bs : List ℕ) → all g bs ≡ true → all h bs ≡ true
all_weaker g h by [] e = refl
all_weaker g h by (b ∷ bs) e =
    let p = and_parts (g b) (all g bs) e in ap (λ v. v && all h bs) (by b p.0) ∙ all_weaker g h by bs p.1

digit_small : (b : ℕ) → is_in c.Digit b ≡ true → small b ≡ true
digit_small b e = grind (arith, nat_tests)

char_small : (shown mark : Bool) (code : ℕ) → from_to 32 126 code ≡ shown → code ≤ 1114111
    → all small (char_by shown mark code) ≡ true
char_small true true code e h = ap (λ v. v && true) (graphic code e)
  where
    graphic : (code : ℕ) → from_to 32 126 code ≡ true → small code ≡ true
    graphic code e = grind (arith, nat_tests)
char_small true false code e h = ap (λ v. v && true) (graphic code e)
  where
    graphic : (code : ℕ) → from_to 32 126 code ≡ true → small code ≡ true
    graphic code e = grind (arith, nat_tests)
char_small false mark code e h = all_weaker (is_in c.Digit) small digit_small (decimal code)
    (decimal_is code (omega arith)).digits

gap_small : (code : ℕ) (codes : List ℕ) → all small (gap code codes) ≡ true
gap_small code [] = refl
gap_small code (next ∷ codes) = by (not (from_to 32 126 code) && from_to 48 57 next)
  where
    by : (v : Bool) → all small (gap_by v) ≡ true
    by true = refl
    by false = refl

string_small : (codes : List ℕ) → AreCodes codes → all small (string_bytes codes) ≡ true
string_small [] are = refl
string_small (code ∷ codes) are =
    all_append small (char_bytes 34 code) (gap code codes ++ string_bytes codes)
    (char_small (from_to 32 126 code) (code == 34 || code == 92) code refl are.0)
    (all_append small (gap code codes) (string_bytes codes) (gap_small code codes) (string_small codes are.1))

pub string_stands : (codes : List ℕ) → AreCodes codes → IsPiece (string_piece codes)
unfolding start_of
string_stands codes are = text_piece 34 (string_bytes codes ++ 34 ∷ []) refl (λ rest. string_ends codes rest are)
    (utf8_by (34 ∷ (string_bytes codes ++ 34 ∷ [])) (all_append small (string_bytes codes) (34 ∷ [])
    (string_small codes are) refl))

-- Characters.

char_ends : (shown mark : Bool) (code : ℕ) (rest : List ℕ) → from_to 32 126 code ≡ shown
    → (code == 39 || code == 92) ≡ mark → code ≤ 1114111 →
    char_len (char_by shown mark code ++ 39 ∷ rest) ≡ Some (length (char_by shown mark code) + 1)
char_ends true true code rest e f h = elim (or_cases (code == 39) (code == 92) f) [
  | inl is ↦ subst (λ q. char_len (92 ∷ q ∷ 39 ∷ rest) ≡ Some 3) (sym (eqb-true code 39 is)) refl
  | inr is ↦ subst (λ q. char_len (92 ∷ q ∷ 39 ∷ rest) ≡ Some 3) (sym (eqb-true code 92 is)) refl
]
char_ends true false code rest e f h =
    let p = or_parts (code == 39) (code == 92) f in
    ap (λ v. closed_behind (39 ∷ rest) (if v then escape_len (39 ∷ rest) else character_len code (39 ∷ rest))) p.1
    ∙ ap (λ v. closed_behind (39 ∷ rest) (if v then Some (prefix_len (is_in c.Continuation) (39 ∷ rest))
    else only (from_to 32 126 code && not (code == 39)) 0)) (low code e)
    ∙ ap (λ v. closed_behind (39 ∷ rest) (only (v && not (code == 39)) 0)) e
    ∙ ap (λ v. closed_behind (39 ∷ rest) (only (not v) 0)) p.0
  where
    low : (code : ℕ) → from_to 32 126 code ≡ true → nat_le 192 code ≡ false
    low code e = grind (arith, nat_tests)
char_ends false mark code rest e f h =
    let ds = decimal code in
    ap (closed_behind (ds ++ 39 ∷ rest)) (escape_is code ds (39 ∷ rest) (decimal_is code (omega arith)) h refl).0
    ∙ ap (λ bs. only (begins (λ b. b == 39) bs) (length ds + 2)) (drop_at ds (39 ∷ rest) (length ds) refl)
    ∙ ap Some (omega arith)

pub character_stands : (code : ℕ) → code ≤ 1114111 → IsPiece (character_piece code)
unfolding start_of
character_stands code h = char_piece 39 (char_bytes 39 code ++ 39 ∷ []) refl
    (λ rest.
    ap char_len (append_assoc (char_bytes 39 code) (39 ∷ []) rest)
    ∙ char_ends (from_to 32 126 code) (code == 39 || code == 92) code rest refl refl h
    ∙ ap Some (sym (length-append (char_bytes 39 code) (39 ∷ []))))
    (utf8_by (39 ∷ (char_bytes 39 code ++ 39 ∷ [])) (all_append small (char_bytes 39 code) (39 ∷ [])
    (char_small (from_to 32 126 code) (code == 39 || code == 92) code refl h) refl))

pub literals_stand : LiteralsArePieces
literals_stand = record { integer = integer_stands; character = character_stands; string = string_stands }
