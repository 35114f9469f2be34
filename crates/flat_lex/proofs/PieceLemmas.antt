-- What is a piece: words, symbols, qualified names, numbers, special characters, white space and literals.
use Rattle.std.proofs.Common.{◌≡◌, ℕ, zero, suc, ◌+◌, ◌<◌, ◌≤◌, Bool, true, false, List, [], ◌∷◌, ◌++◌, length, take}
use Rattle.std.proofs.Common.{drop, refl, sym, ap, ◌∙◌, subst, arith, Option, Some, None, append_assoc, if◌then◌else◌}
use Rattle.std.specs.Prelude.{not, ◌&&◌, ◌||◌, ◌==◌, option_map}
use Rattle.std.specs.List.{prefix_len}
use Rattle.std.specs.Str.{is_utf8}
use Rattle.std.proofs.lemmas.Bool.{cases_Bool, and_parts, or_parts}
use Rattle.std.proofs.lemmas.Bool.Decides.{nat_tests}
use Rattle.std.proofs.lemmas.List.{take_at, drop_at, take-append-drop, length-append}
use Rattle.hs_tokens.specs.declared.token.TokenKind.TheVariants as t
use Rattle.hs_lex.specs.declared.class.Class.TheVariants as c
use Rattle.hs_lex.specs.declared.class.Start.{Start}
use Rattle.hs_lex.specs.declared.class.Start.TheVariants as s
use Rattle.hs_lex.specs.declared.kind.Kind.{Kind}
use Rattle.hs_lex.specs.declared.kind.Kind.TheVariants as k
use Rattle.hs_lex.specs.declared.kind.Form.TheVariants as f
use Rattle.hs_lex.specs.Classes.{from_to, is_in, all, begins, is_empty, start_of}
use Rattle.hs_lex.specs.Words.{word_kind, symbol_kind, is_plain_word, is_plain_symbol, operator}
use Rattle.hs_lex.specs.Numbers.{only, decimal, behind_zero, numeral, number_kind, is_hexadecimal_letter}
use Rattle.hs_lex.specs.Numbers.{is_octal_letter, is_exponent_letter, fraction, exponent, run_as}
use Rattle.hs_lex.specs.Literals.{string_len, char_len}
use Rattle.hs_lex.specs.Lexicon.{checked, capital, last_part, is_dashed, symbolic, braced, commented, comment_len}
use Rattle.hs_lex.specs.Lexicon.{quoted, kind_by, kind_of}
use Rattle.hs_lex.specs.Longest.{Longest}
use Rattle.hs_lex.specs.Cover.{is_sound}
use Rattle.hs_lex.proofs.RunLemmas.{prefix_yes, prefix_no}
use Rattle.hs_lex.proofs.NumberLemmas.{zero_other}
use Rattle.std.proofs.Math.Bool.{and-false}
use Rattle.flat_lex.specs.Pieces.{Piece, goes_on, of_name, of_symbol, IsPiece}
use Rattle.flat_lex.proofs.StartLemmas.{name_byte, symbol_byte, dash_byte}

-- more than the bytes w of a text: a byte that follows, and some behind it
record Behind (w rest : List ℕ) (m : ℕ) : Type 0 where
  byte : ℕ
  more : List ℕ
  after : List ℕ
  rest_is : rest ≡ byte ∷ (more ++ after)
  taken : take m (w ++ rest) ≡ w ++ byte ∷ more
  left : drop m (w ++ rest) ≡ after

cut_behind : (w rest : List ℕ) (m : ℕ) → m ≤ length (w ++ rest) → length w < m → Behind w rest m
cut_behind [] [] m le lt = absurd (omega arith)
cut_behind [] (b ∷ r) zero le lt = absurd (omega arith)
cut_behind [] (b ∷ r) (suc m) le lt = record {
  byte = b;
  more = take m r;
  after = drop m r;
  rest_is = ap (λ x. b ∷ x) (sym (take-append-drop m r));
  taken = refl;
  left = refl;
}
cut_behind (a ∷ w) rest zero le lt = absurd (omega arith)
cut_behind (a ∷ w) rest (suc m) le lt =
    let h = cut_behind w rest m (omega arith) (omega arith) in
    record {
      byte = h.byte;
      more = h.more;
      after = h.after;
      rest_is = h.rest_is;
      taken = ap (λ x. a ∷ x) h.taken;
      left = h.left;
    }

starts_with : (start : Start) (rest : List ℕ) (b : ℕ) (x : List ℕ) → begins (goes_on start) rest ≡ false → rest ≡ b ∷ x
    → goes_on start b ≡ false
starts_with start rest b x e is = sym (ap (begins (goes_on start)) is) ∙ e

-- a piece by what it spells before what does not go on with it
piece_by : (b : ℕ) (bs : List ℕ) (start : Start) (kind : Kind) → start_of b ≡ start → is_sound kind ≡ true →
    ((rest : List ℕ) → begins (goes_on start) rest ≡ false → kind_by start b bs rest ≡ Some kind) →
    ((d : ℕ) (x y : List ℕ) → goes_on start d ≡ false → kind_by start b (bs ++ d ∷ x) y ≡ None) →
    IsPiece (record { start = start; kind = kind; text = b ∷ bs })
piece_by b bs start kind at ok now never = record {
  first = b;
  more = bs;
  spelled = refl;
  starts = at;
  sound = ok;
  stands = λ rest apart. record {
    some = omega arith;
    longest = record {
      within = let e = length-append bs rest in omega (arith, e);
      spelled =
          ap (λ w. kind_of w (drop (length (b ∷ bs)) ((b ∷ bs) ++ rest))) (take_at (b ∷ bs) rest (length (b ∷ bs)) refl)
          ∙ ap (kind_of (b ∷ bs)) (drop_at (b ∷ bs) rest (length (b ∷ bs)) refl)
          ∙ ap (λ st. kind_by st b bs rest) at ∙ now rest apart;
      longest = λ m le lt.
          let h = cut_behind (b ∷ bs) rest m le lt in
          ap (λ w. kind_of w (drop m ((b ∷ bs) ++ rest))) h.taken
          ∙ ap (kind_of ((b ∷ bs) ++ h.byte ∷ h.more)) h.left
          ∙ ap (λ st. kind_by st b (bs ++ h.byte ∷ h.more) h.after) at
          ∙ never h.byte h.more h.after (starts_with start rest h.byte (h.more ++ h.after) apart h.rest_is);
    };
  };
}

all_more : (g : ℕ → Bool) (bs : List ℕ) (d : ℕ) (x : List ℕ) → g d ≡ false → all g (bs ++ d ∷ x) ≡ false
all_more g [] d x e = ap (λ v. v && all g x) e
all_more g (b ∷ bs) d x e = ap (λ v. g b && v) (all_more g bs d x e) ∙ and-false (g b)

-- a word that begins with a small letter or `_`
pub small_piece : (b : ℕ) (bs : List ℕ) (kind : Kind) → start_of b ≡ s.Small → all (is_in c.Name) bs ≡ true
    → word_kind (b ∷ bs) ≡ kind → is_sound kind ≡ true →
    IsPiece (record { start = s.Small; kind = kind; text = b ∷ bs })
small_piece b bs kind at names is ok = piece_by b bs s.Small kind at ok
    (λ rest apart. ap (λ v. only v (word_kind (b ∷ bs))) names ∙ ap Some is)
    (λ d x y apart. ap (λ v. only v (word_kind (b ∷ (bs ++ d ∷ x)))) (all_more (is_in c.Name) bs d x apart))

-- a symbol that begins no comment
no_dash : (rest : List ℕ) → begins (is_in c.Symbol) rest ≡ false → begins (is_in c.Dash) rest ≡ false
no_dash [] e = refl
no_dash (b ∷ r) e = dash_byte b e

dash_front : (bs rest : List ℕ) → begins (is_in c.Symbol) rest ≡ false → begins (is_in c.Dash) (bs ++ rest) ≡ begins
    (is_in c.Dash) bs
dash_front [] rest e = no_dash rest e
dash_front (b ∷ bs) rest e = refl

dash_end : (bs rest : List ℕ) → begins (is_in c.Symbol) rest ≡ false →
    begins (is_in c.Symbol) (drop (prefix_len (is_in c.Dash) (bs ++ rest)) (bs ++ rest)) ≡ begins (is_in c.Symbol)
    (drop (prefix_len (is_in c.Dash) bs) bs)
dash_end [] [] e = refl
dash_end [] (b ∷ r) e = ap (λ n. begins (is_in c.Symbol) (drop n (b ∷ r)))
    (prefix_no (is_in c.Dash) b r (dash_byte b e)) ∙ e
dash_end (b ∷ bs) rest e = go (is_in c.Dash b) refl (dash_end bs rest e)
  where
    go : (v : Bool) → is_in c.Dash b ≡ v →
        begins (is_in c.Symbol) (drop (prefix_len (is_in c.Dash) (bs ++ rest)) (bs ++ rest)) ≡ begins (is_in c.Symbol)
        (drop (prefix_len (is_in c.Dash) bs) bs) →
        begins (is_in c.Symbol) (drop (prefix_len (is_in c.Dash) (b ∷ (bs ++ rest))) (b ∷ (bs ++ rest))) ≡ begins
        (is_in c.Symbol) (drop (prefix_len (is_in c.Dash) (b ∷ bs)) (b ∷ bs))
    go true is same =
        ap (λ n. begins (is_in c.Symbol) (drop n (b ∷ (bs ++ rest)))) (prefix_yes (is_in c.Dash) b (bs ++ rest) is)
        ∙ same
        ∙ sym (ap (λ n. begins (is_in c.Symbol) (drop n (b ∷ bs))) (prefix_yes (is_in c.Dash) b bs is))
    go false is same =
        ap (λ n. begins (is_in c.Symbol) (drop n (b ∷ (bs ++ rest)))) (prefix_no (is_in c.Dash) b (bs ++ rest) is)
        ∙ sym (ap (λ n. begins (is_in c.Symbol) (drop n (b ∷ bs))) (prefix_no (is_in c.Dash) b bs is))

dashed_front : (b : ℕ) (bs rest : List ℕ) → begins (is_in c.Symbol) rest ≡ false
    → is_dashed b (bs ++ rest) ≡ is_dashed b bs
dashed_front b bs rest e = λ i. (b == 45 && dash_front bs rest e i) && not (dash_end bs rest e i)

pub symbol_piece : (b : ℕ) (bs : List ℕ) (kind : Kind) → start_of b ≡ s.Symbol → all (is_in c.Symbol) bs ≡ true
    → is_dashed b bs ≡ false → symbol_kind (b ∷ bs) ≡ kind → is_sound kind ≡ true →
    IsPiece (record { start = s.Symbol; kind = kind; text = b ∷ bs })
symbol_piece b bs kind at symbols dashed is ok = piece_by b bs s.Symbol kind at ok
    (λ rest apart.
    ap (λ v. if v then only (length bs == prefix_len (is_in c.Line) (bs ++ rest)) (checked (b ∷ bs) k.Comment)
    else only (all (is_in c.Symbol) bs) (symbol_kind (b ∷ bs)))
    (dashed_front b bs rest apart ∙ dashed)
    ∙ ap (λ v. only v (symbol_kind (b ∷ bs))) symbols ∙ ap Some is)
    (λ d x y apart.
    ap (λ v. if v then only (length (bs ++ d ∷ x) == prefix_len (is_in c.Line) ((bs ++ d ∷ x) ++ y))
    (checked (b ∷ (bs ++ d ∷ x)) k.Comment) else only (all (is_in c.Symbol) (bs ++ d ∷ x))
    (symbol_kind (b ∷ (bs ++ d ∷ x))))
    (ap (is_dashed b) (append_assoc bs (d ∷ x) y) ∙ dashed_front b bs (d ∷ (x ++ y)) apart ∙ dashed)
    ∙ ap (λ v. only v (symbol_kind (b ∷ (bs ++ d ∷ x)))) (all_more (is_in c.Symbol) bs d x apart))

-- a name that begins with a capital, qualified or not
last_rest : (start : Start) (w bs rest : List ℕ) → begins (is_in c.Name) rest ≡ false
    → begins (is_in c.Symbol) rest ≡ false → last_part start w bs rest ≡ last_part start w bs []
last_rest s.Small w bs rest n y = ap (λ v. only ((all (is_in c.Name) bs && not v) && is_plain_word w) (k.Token t.Var)) n
last_rest s.Symbol w bs rest n y = ap (λ v. only ((all (is_in c.Symbol) bs && not v) && is_plain_symbol w)
    (operator w)) y
last_rest s.Large w bs rest n y = refl
last_rest s.Digit w bs rest n y = refl
last_rest s.White w bs rest n y = refl
last_rest s.Brace w bs rest n y = refl
last_rest s.Special w bs rest n y = refl
last_rest s.Quote w bs rest n y = refl
last_rest s.DoubleQuote w bs rest n y = refl
last_rest s.Other w bs rest n y = refl

last_stop : (start : Start) (w bs : List ℕ) (d : ℕ) (x y : List ℕ) → is_in c.Name d ≡ false → is_in c.Symbol d ≡ false
    → last_part start w (bs ++ d ∷ x) y ≡ None
last_stop s.Small w bs d x y n e = ap (λ v. only ((v && not (begins (is_in c.Name) y)) && is_plain_word w)
    (k.Token t.Var)) (all_more (is_in c.Name) bs d x n)
last_stop s.Symbol w bs d x y n e = ap (λ v. only ((v && not (begins (is_in c.Symbol) y)) && is_plain_symbol w)
    (operator w)) (all_more (is_in c.Symbol) bs d x e)
last_stop s.Large w bs d x y n e = refl
last_stop s.Digit w bs d x y n e = refl
last_stop s.White w bs d x y n e = refl
last_stop s.Brace w bs d x y n e = refl
last_stop s.Special w bs d x y n e = refl
last_stop s.Quote w bs d x y n e = refl
last_stop s.DoubleQuote w bs d x y n e = refl
last_stop s.Other w bs d x y n e = refl

last_none : (start : Start) (w bs rest : List ℕ) → of_name start ≡ false → of_symbol start ≡ false
    → last_part start w bs rest ≡ None
last_none s.Small w bs rest n y = cc
last_none s.Symbol w bs rest n y = cc
last_none s.Large w bs rest n y = refl
last_none s.Digit w bs rest n y = refl
last_none s.White w bs rest n y = refl
last_none s.Brace w bs rest n y = refl
last_none s.Special w bs rest n y = refl
last_none s.Quote w bs rest n y = refl
last_none s.DoubleQuote w bs rest n y = refl
last_none s.Other w bs rest n y = refl

capital_rest : (dotted : Bool) (bs rest : List ℕ) → begins (is_in c.Name) rest ≡ false
    → begins (is_in c.Symbol) rest ≡ false → capital dotted bs rest ≡ capital dotted bs []
capital_rest false [] rest n y = refl
capital_rest true [] rest n y = refl
capital_rest false (b ∷ bs) rest n y =
    λ i. if is_in c.Name b then capital_rest false bs rest n y i
    else (if b == 46 then capital_rest true bs rest n y i else None)
capital_rest true (b ∷ bs) rest n y =
    λ i. if from_to 65 90 b then capital_rest false bs rest n y i else last_rest (start_of b) (b ∷ bs) bs rest n y i

one_way : {A : Type 0} (v : Bool) (x : A) → (if v then x else x) ≡ x
one_way true x = refl
one_way false x = refl

no_large : (d : ℕ) → is_in c.Name d ≡ false → from_to 65 90 d ≡ false
no_large d n = grind (arith, nat_tests)

no_dot : (d : ℕ) → is_in c.Symbol d ≡ false → d == 46 ≡ false
no_dot d y = grind (arith, nat_tests)

capital_stop : (dotted : Bool) (bs : List ℕ) (d : ℕ) (x y : List ℕ) → is_in c.Name d ≡ false → is_in c.Symbol d ≡ false
    → capital dotted (bs ++ d ∷ x) y ≡ None
capital_stop false [] d x y n e =
    ap (λ v. if v then capital false x y else (if d == 46 then capital true x y else None)) n
    ∙ ap (λ v. if v then capital true x y else None) (no_dot d e)
capital_stop true [] d x y n e =
    ap (λ v. if v then capital false x y else last_part (start_of d) (d ∷ x) x y) (no_large d n)
    ∙ last_none (start_of d) (d ∷ x) x y (sym (name_byte d) ∙ n) (sym (symbol_byte d) ∙ e)
capital_stop false (b ∷ bs) d x y n e =
    (λ i. if is_in c.Name b then capital_stop false bs d x y n e i
    else (if b == 46 then capital_stop true bs d x y n e i else None))
    ∙ (λ i. if is_in c.Name b then None else one_way (b == 46) None i) ∙ one_way (is_in c.Name b) None
capital_stop true (b ∷ bs) d x y n e =
    (λ i. if from_to 65 90 b then capital_stop false bs d x y n e i else last_stop (start_of b) (b ∷ (bs ++ d ∷ x)) bs
    d x y n e i)
    ∙ one_way (from_to 65 90 b) None

neither : (rest : List ℕ) → begins (goes_on s.Large) rest ≡ false → (begins (is_in c.Name) rest ≡ false) ×
    (begins (is_in c.Symbol) rest ≡ false)
neither [] e = (refl, refl)
neither (b ∷ r) e = or_parts (is_in c.Name b) (is_in c.Symbol b) e

pub large_piece : (b : ℕ) (bs : List ℕ) (kind : Kind) → start_of b ≡ s.Large → capital false bs [] ≡ Some kind
    → is_sound kind ≡ true →
    IsPiece (record { start = s.Large; kind = kind; text = b ∷ bs })
large_piece b bs kind at is ok = piece_by b bs s.Large kind at ok
    (λ rest apart. let h = neither rest apart in capital_rest false bs rest h.0 h.1 ∙ is)
    (λ d x y apart. let h = or_parts (is_in c.Name d) (is_in c.Symbol d) apart in
    capital_stop false bs d x y h.0 h.1)

-- a decimal number
digit_letters : (b : ℕ) → is_in c.Digit b ≡ true → (is_hexadecimal_letter b ≡ false) × (is_octal_letter b ≡ false)
digit_letters b e = (grind (arith, nat_tests), grind (arith, nat_tests))

decimal_all : (bs : List ℕ) → all (is_in c.Digit) bs ≡ true → decimal bs ≡ Some f.Decimal
decimal_all [] e = refl
decimal_all (b ∷ bs) e =
    let p = and_parts (is_in c.Digit b) (all (is_in c.Digit) bs) e in
    ap (λ v. if v then decimal bs else (if b == 46 then fraction false bs
    else (if is_exponent_letter b then exponent bs else None))) p.0
    ∙ decimal_all bs p.1

zero_all : (bs : List ℕ) → all (is_in c.Digit) bs ≡ true → behind_zero bs ≡ Some f.Decimal
zero_all [] e = refl
zero_all (b ∷ bs) e =
    let h = digit_letters b (and_parts (is_in c.Digit b) (all (is_in c.Digit) bs) e).0 in
    ap (λ v. if v then run_as (is_in c.Hexadecimal) f.Hexadecimal bs
    else (if is_octal_letter b then run_as (is_in c.Octal) f.Octal bs else decimal (b ∷ bs))) h.0
    ∙ ap (λ v. if v then run_as (is_in c.Octal) f.Octal bs else decimal (b ∷ bs)) h.1
    ∙ decimal_all (b ∷ bs) e

record NoNumber (d : ℕ) : Type 0 where
  digit : is_in c.Digit d ≡ false
  dot : d == 46 ≡ false
  exponent : is_exponent_letter d ≡ false
  hexadecimal : is_hexadecimal_letter d ≡ false
  octal : is_octal_letter d ≡ false

no_number : (d : ℕ) → is_in c.Name d ≡ false → is_in c.Symbol d ≡ false → NoNumber d
no_number d n y = record {
  digit = grind (arith, nat_tests);
  dot = no_dot d y;
  exponent = grind (arith, nat_tests);
  hexadecimal = grind (arith, nat_tests);
  octal = grind (arith, nat_tests);
}

decimal_stop : (bs : List ℕ) (d : ℕ) (x : List ℕ) → all (is_in c.Digit) bs ≡ true → NoNumber d
    → decimal (bs ++ d ∷ x) ≡ None
decimal_stop [] d x e stop =
    ap (λ v. if v then decimal x else (if d == 46 then fraction false x
    else (if is_exponent_letter d then exponent x else None))) stop.digit
    ∙ ap (λ v. if v then fraction false x else (if is_exponent_letter d then exponent x else None)) stop.dot
    ∙ ap (λ v. if v then exponent x else None) stop.exponent
decimal_stop (b ∷ bs) d x e stop =
    let p = and_parts (is_in c.Digit b) (all (is_in c.Digit) bs) e in
    ap (λ v. if v then decimal (bs ++ d ∷ x) else (if b == 46 then fraction false (bs ++ d ∷ x)
    else (if is_exponent_letter b then exponent (bs ++ d ∷ x) else None))) p.0
    ∙ decimal_stop bs d x p.1 stop

zero_stop : (bs : List ℕ) (d : ℕ) (x : List ℕ) → all (is_in c.Digit) bs ≡ true → NoNumber d
    → behind_zero (bs ++ d ∷ x) ≡ None
zero_stop [] d x e stop = zero_other d x stop.hexadecimal stop.octal ∙ decimal_stop [] d x e stop
zero_stop (b ∷ bs) d x e stop =
    let h = digit_letters b (and_parts (is_in c.Digit b) (all (is_in c.Digit) bs) e).0 in
    zero_other b (bs ++ d ∷ x) h.0 h.1 ∙ decimal_stop (b ∷ bs) d x e stop

pub number_piece : (b : ℕ) (bs : List ℕ) (kind : Kind) → start_of b ≡ s.Digit → all (is_in c.Digit) bs ≡ true
    → number_kind (b ∷ bs) f.Decimal ≡ kind → is_sound kind ≡ true →
    IsPiece (record { start = s.Digit; kind = kind; text = b ∷ bs })
number_piece b bs kind at digits is ok = piece_by b bs s.Digit kind at ok
    (λ rest apart.
    ap (option_map (number_kind (b ∷ bs))) ((λ i. if b == 48 then zero_all bs digits i
    else decimal_all bs digits i) ∙ one_way (b == 48) (Some f.Decimal)) ∙ ap Some is)
    (λ d x y apart.
    let h = or_parts (is_in c.Name d) (is_in c.Symbol d) apart in
    let stop = no_number d h.0 h.1 in
    ap (option_map (number_kind (b ∷ (bs ++ d ∷ x)))) ((λ i. if b == 48 then zero_stop bs d x digits stop i
    else decimal_stop bs d x digits stop i) ∙ one_way (b == 48) None))

-- a special character, `{`, and white space
pub special_piece : (b : ℕ) → start_of b ≡ s.Special → IsPiece
    (record { start = s.Special; kind = k.Token t.Special; text = b ∷ [] })
special_piece b at = piece_by b [] s.Special (k.Token t.Special) at refl (λ rest apart. refl) (λ d x y apart. refl)

pub brace_piece : (b : ℕ) → start_of b ≡ s.Brace → IsPiece (record {
  start = s.Brace;
  kind = k.Token t.Special;
  text =
      b ∷ [];
})
brace_piece b at = piece_by b [] s.Brace (k.Token t.Special) at refl
    (λ rest apart. ap (λ v. if v then commented (comment_len rest) b [] rest else only true (k.Token t.Special)) apart)
    (λ d x y apart. ap (λ v. if v then commented (comment_len (d ∷ (x ++ y))) b (d ∷ x) y
    else only false (k.Token t.Special)) apart)

pub white_piece : (b : ℕ) → start_of b ≡ s.White → IsPiece (record { start = s.White; kind = k.White; text = b ∷ [] })
white_piece b at = piece_by b [] s.White k.White at refl (λ rest apart. refl) (λ d x y apart. refl)

-- literals, whose length is known whatever follows
same_length : (bs : List ℕ) → length bs == length bs ≡ true
same_length bs = grind (arith, nat_tests)

longer : (bs : List ℕ) (d : ℕ) (x : List ℕ) → length (bs ++ d ∷ x) == length bs ≡ false
longer bs d x = let e = length-append bs (d ∷ x) in grind (arith, nat_tests)

quoted_now : (o : Option ℕ) (kind : Kind) (b : ℕ) (bs : List ℕ) → o ≡ Some (length bs) → is_utf8 (b ∷ bs) ≡ true
    → quoted o kind b bs ≡ Some kind
quoted_now o kind b bs is ascii =
    ap (λ v. quoted v kind b bs) is ∙ ap (λ v. only v (checked (b ∷ bs) kind)) (same_length bs)
    ∙ ap (λ v. Some (if v then kind else k.Broken)) ascii

quoted_never : (o : Option ℕ) (kind : Kind) (b : ℕ) (bs : List ℕ) (d : ℕ) (x : List ℕ) → o ≡ Some (length bs)
    → quoted o kind b (bs ++ d ∷ x) ≡ None
quoted_never o kind b bs d x is =
    ap (λ v. quoted v kind b (bs ++ d ∷ x)) is ∙ ap (λ v. only v (checked (b ∷ (bs ++ d ∷ x)) kind)) (longer bs d x)

pub char_piece : (b : ℕ) (bs : List ℕ) → start_of b ≡ s.Quote
    → ((rest : List ℕ) → char_len (bs ++ rest) ≡ Some (length bs)) → is_utf8 (b ∷ bs) ≡ true →
    IsPiece (record { start = s.Quote; kind = k.Token t.Char; text = b ∷ bs })
char_piece b bs at len ascii = piece_by b bs s.Quote (k.Token t.Char) at refl
    (λ rest apart. quoted_now (char_len (bs ++ rest)) (k.Token t.Char) b bs (len rest) ascii)
    (λ d x y apart. quoted_never (char_len ((bs ++ d ∷ x) ++ y)) (k.Token t.Char) b bs d x
    (ap char_len (append_assoc bs (d ∷ x) y) ∙ len (d ∷ (x ++ y))))

pub text_piece : (b : ℕ) (bs : List ℕ) → start_of b ≡ s.DoubleQuote
    → ((rest : List ℕ) → string_len 0 (bs ++ rest) ≡ Some (length bs)) → is_utf8 (b ∷ bs) ≡ true →
    IsPiece (record { start = s.DoubleQuote; kind = k.Token t.Text; text = b ∷ bs })
text_piece b bs at len ascii = piece_by b bs s.DoubleQuote (k.Token t.Text) at refl
    (λ rest apart. quoted_now (string_len 0 (bs ++ rest)) (k.Token t.Text) b bs (len rest) ascii)
    (λ d x y apart. quoted_never (string_len 0 ((bs ++ d ∷ x) ++ y)) (k.Token t.Text) b bs d x
    (ap (string_len 0) (append_assoc bs (d ∷ x) y) ∙ len (d ∷ (x ++ y))))
