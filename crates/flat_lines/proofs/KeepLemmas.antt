-- Which names and literals stand on one line, and don't begin with `}`.
use Rattle.std.proofs.Common.{◌≡◌, ℕ, ◌+◌, ◌/◌, ◌%◌, ◌^◌, ◌<◌, ◌≤◌, Bool, true, false, List, [], ◌∷◌, ◌++◌, refl}
use Rattle.std.proofs.Common.{sym}
use Rattle.std.proofs.Common.{ap, ◌∙◌, arith, Some, None, if◌then◌else◌}
use Rattle.std.specs.Prelude.{not, ◌&&◌, ◌||◌, ◌==◌}
use Rattle.std.specs.Fmt.{decimal}
use Rattle.std.proofs.lemmas.Bool.{and_from, and_parts, eqb-true}
use Rattle.std.proofs.lemmas.Fmt.{decimal_by_steps}
use Rattle.hs_lex.specs.declared.class.Class.TheVariants as c
use Rattle.hs_lex.specs.declared.class.Start.{Start}
use Rattle.hs_lex.specs.declared.class.Start.TheVariants as s
use Rattle.hs_lex.specs.declared.kind.Kind.{Kind}
use Rattle.hs_lex.specs.Classes.{from_to, is_in, all, begins, start_of}
use Rattle.hs_lex.specs.Words.{is_plain_word, is_plain_symbol}
use Rattle.hs_lex.specs.Numbers.{only}
use Rattle.hs_lex.specs.Lexicon.{capital, last_part}
use Rattle.flat_lex.specs.Literals.{char_by, char_bytes, gap_by, gap, string_bytes, AreCodes}
use Rattle.flat_lines.specs.Lines.{has_no_line_end, starts_well, NamesKeepLines}

-- ---- bytes that are another

not_byte : (f : ℕ → Bool) (k b : ℕ) → f k ≡ false → f b ≡ true → not (b == k) ≡ true
not_byte f k b fails e = by (b == k) refl
  where
    never : false ≡ true → not true ≡ true
    never h = cc

    by : (v : Bool) → (b == k) ≡ v → not v ≡ true
    by true is = never (sym fails ∙ sym (ap f (eqb-true b k is)) ∙ e)
    by false is = refl

another : (b k : ℕ) → (b ≡ k → ⊥) → not (b == k) ≡ true
another b k fails = by (b == k) refl
  where
    by : (v : Bool) → (b == k) ≡ v → not v ≡ true
    by true is = absurd (fails (eqb-true b k is))
    by false is = refl

all_kept : (f : ℕ → Bool) (bs : List ℕ) → f 10 ≡ false → all f bs ≡ true → has_no_line_end bs ≡ true
all_kept f [] fails e = refl
all_kept f (b ∷ bs) fails e =
    let both = and_parts (f b) (all f bs) e in
    and_from (not (b == 10)) (has_no_line_end bs) (not_byte f 10 b fails both.0) (all_kept f bs fails both.1)

-- ---- what begins a name

abbrev of_name : Start → Bool
of_name s.Small = true
of_name s.Large = true
of_name s.Symbol = true
of_name _ = false

abbrev names : ℕ → Bool
names b = of_name (start_of b)

no_line_first : (b : ℕ) → of_name (start_of b) ≡ true → not (b == 10) ≡ true
unfolding start_of
no_line_first b e = not_byte names 10 b refl e

no_brace_first : (b : ℕ) → of_name (start_of b) ≡ true → not (b == 125) ≡ true
unfolding start_of
no_brace_first b e = not_byte names 125 b refl e

kept : (b : ℕ) (bs : List ℕ) → of_name (start_of b) ≡ true → has_no_line_end bs ≡ true
    → has_no_line_end (b ∷ bs) && starts_well false (b ∷ bs) ≡ true
kept b bs e h =
    and_from (has_no_line_end (b ∷ bs)) (starts_well false (b ∷ bs))
    (and_from (not (b == 10)) (has_no_line_end bs) (no_line_first b e) h) (no_brace_first b e)

only_if : (v : Bool) (made kind : Kind) → only v made ≡ Some kind → v ≡ true
only_if true made kind e = refl
only_if false made kind e = cc

-- ---- qualified names

last_kept : (start : Start) (w bs : List ℕ) (kind : Kind) → last_part start w bs [] ≡ Some kind
    → (of_name start ≡ true) × (has_no_line_end bs ≡ true)
last_kept s.Small w bs kind e =
    let h = and_parts (all (is_in c.Name) bs && not (begins (is_in c.Name) [])) (is_plain_word w)
    (only_if _ _ kind e) in
    (refl, all_kept (is_in c.Name) bs refl (and_parts (all (is_in c.Name) bs) (not (begins (is_in c.Name) [])) h.0).0)
last_kept s.Symbol w bs kind e =
    let h = and_parts (all (is_in c.Symbol) bs && not (begins (is_in c.Symbol) [])) (is_plain_symbol w)
    (only_if _ _ kind e) in (
      refl,
      all_kept (is_in c.Symbol) bs refl
          (and_parts (all (is_in c.Symbol) bs) (not (begins (is_in c.Symbol) [])) h.0).0,
    )
last_kept s.Large w bs kind e = cc
last_kept s.Digit w bs kind e = cc
last_kept s.White w bs kind e = cc
last_kept s.Brace w bs kind e = cc
last_kept s.Special w bs kind e = cc
last_kept s.Quote w bs kind e = cc
last_kept s.DoubleQuote w bs kind e = cc
last_kept s.Other w bs kind e = cc

inside_kept : (b : ℕ) (bs : List ℕ) (kind : Kind) (v w : Bool) → is_in c.Name b ≡ v → (b == 46) ≡ w
    → (capital false bs [] ≡ Some kind → has_no_line_end bs ≡ true)
    → (capital true bs [] ≡ Some kind → has_no_line_end bs ≡ true)
    → (if v then capital false bs [] else (if w then capital true bs [] else None)) ≡ Some kind
    → has_no_line_end (b ∷ bs) ≡ true
inside_kept b bs kind true w is dot inside dotted e =
    and_from (not (b == 10)) (has_no_line_end bs) (not_byte (is_in c.Name) 10 b refl is) (inside e)
inside_kept b bs kind false true is dot inside dotted e =
    and_from (not (b == 10)) (has_no_line_end bs) (not_byte (λ x. x == 46) 10 b refl dot) (dotted e)
inside_kept b bs kind false false is dot inside dotted e = cc

dotted_kept : (b : ℕ) (bs : List ℕ) (kind : Kind) (v : Bool) → from_to 65 90 b ≡ v
    → (capital false bs [] ≡ Some kind → has_no_line_end bs ≡ true)
    → (if v then capital false bs [] else last_part (start_of b) (b ∷ bs) bs []) ≡ Some kind
    → has_no_line_end (b ∷ bs) ≡ true
dotted_kept b bs kind true is inside e =
    and_from (not (b == 10)) (has_no_line_end bs) (not_byte (from_to 65 90) 10 b refl is) (inside e)
dotted_kept b bs kind false is inside e =
    let it = last_kept (start_of b) (b ∷ bs) bs kind e in
    and_from (not (b == 10)) (has_no_line_end bs) (no_line_first b it.0) it.1

capital_kept : (dotted : Bool) (bs : List ℕ) (kind : Kind) → capital dotted bs [] ≡ Some kind
    → has_no_line_end bs ≡ true
capital_kept false [] kind e = refl
capital_kept true [] kind e = refl
capital_kept false (b ∷ bs) kind e =
    inside_kept b bs kind (is_in c.Name b) (b == 46) refl refl (capital_kept false bs kind)
    (capital_kept true bs kind) e
capital_kept true (b ∷ bs) kind e =
    dotted_kept b bs kind (from_to 65 90 b) refl (capital_kept false bs kind) e

-- ---- literals

kept_append : (xs ys : List ℕ) → has_no_line_end xs ≡ true → has_no_line_end ys ≡ true
    → has_no_line_end (xs ++ ys) ≡ true
kept_append [] ys e h = h
kept_append (b ∷ xs) ys e h =
    let both = and_parts (not (b == 10)) (has_no_line_end xs) e in
    and_from (not (b == 10)) (has_no_line_end (xs ++ ys)) both.0 (kept_append xs ys both.1 h)

record IsKept (n : ℕ) (ds : List ℕ) : Type 0 where
  lines : has_no_line_end ds ≡ true
  starts : starts_well false ds ≡ true

digit_line : (n : ℕ) → not ((48 + n) == 10) ≡ true
digit_line n = another (48 + n) 10 (λ e. omega (arith, e))

digit_brace : (n : ℕ) → n < 10 → not ((48 + n) == 125) ≡ true
digit_brace n h = another (48 + n) 125 (λ e. omega (arith, e, h))

decimal_kept : (n : ℕ) → n < 2 ^ 64 → IsKept n (decimal n)
decimal_kept n h = decimal_by_steps IsKept one more n h
  where
    one : (m : ℕ) → m < 10 → IsKept m ((48 + m) ∷ [])
    one m g = record {
      lines = and_from (not ((48 + m) == 10)) true (digit_line m) refl;
      starts = digit_brace m g;
    }

    goes_on : (ds : List ℕ) (d : ℕ) → starts_well false ds ≡ true → starts_well false (ds ++ d ∷ []) ≡ true
    goes_on [] d e = cc
    goes_on (b ∷ ds) d e = e

    more : (m : ℕ) (ds : List ℕ) → 10 ≤ m → IsKept (m / 10) ds → IsKept m (ds ++ ((48 + m % 10) ∷ []))
    more m ds g it = record {
      lines = kept_append ds ((48 + m % 10) ∷ []) it.lines
          (and_from (not ((48 + m % 10) == 10)) true (digit_line (m % 10)) refl);
      starts = goes_on ds (48 + m % 10) it.starts;
    }

char_kept : (v mark : Bool) (code : ℕ) → from_to 32 126 code ≡ v → code < 2 ^ 64
    → has_no_line_end (char_by v mark code) ≡ true
char_kept true true code is small =
    and_from (not (code == 10)) true (not_byte (from_to 32 126) 10 code refl is) refl
char_kept true false code is small =
    and_from (not (code == 10)) true (not_byte (from_to 32 126) 10 code refl is) refl
char_kept false mark code is small = (decimal_kept code small).lines

code_small : (code : ℕ) → code ≤ 1114111 → code < 2 ^ 64
code_small code h = omega (arith, h)

value_small : (value : ℕ) → value ≤ 9223372036854775807 → value < 2 ^ 64
value_small value h = omega (arith, h)

character_kept : (quote code : ℕ) → code ≤ 1114111 → has_no_line_end (char_bytes quote code) ≡ true
character_kept quote code h =
    char_kept (from_to 32 126 code) (code == quote || code == 92) code refl (code_small code h)

gap_kept : (v : Bool) → has_no_line_end (gap_by v) ≡ true
gap_kept true = refl
gap_kept false = refl

gaps_kept : (code : ℕ) (codes : List ℕ) → has_no_line_end (gap code codes) ≡ true
gaps_kept code [] = refl
gaps_kept code (next ∷ codes) = gap_kept (not (from_to 32 126 code) && from_to 48 57 next)

string_kept : (text : List ℕ) → AreCodes text → has_no_line_end (string_bytes text) ≡ true
string_kept [] h = refl
string_kept (code ∷ text) h =
    kept_append (char_bytes 34 code) (gap code text ++ string_bytes text) (character_kept 34 code h.0)
    (kept_append (gap code text) (string_bytes text) (gaps_kept code text) (string_kept text h.1))

quoted_kept : (quote : ℕ) (bs : List ℕ) → not (quote == 10) ≡ true → not (quote == 125) ≡ true
    → has_no_line_end bs ≡ true
    → has_no_line_end (quote ∷ (bs ++ quote ∷ [])) && starts_well false (quote ∷ (bs ++ quote ∷ [])) ≡ true
quoted_kept quote bs e h g =
    and_from (has_no_line_end (quote ∷ (bs ++ quote ∷ []))) (starts_well false (quote ∷ (bs ++ quote ∷ [])))
    (and_from (not (quote == 10)) (has_no_line_end (bs ++ quote ∷ [])) e
    (kept_append bs (quote ∷ []) g (and_from (not (quote == 10)) true e refl))) h

-- ---- all

first_is : (b : ℕ) (start : Start) → start_of b ≡ start → of_name start ≡ true → of_name (start_of b) ≡ true
first_is b start is e = ap of_name is ∙ e

pub names_kept : NamesKeepLines
names_kept = record {
  var = λ b bs is e. kept b bs (first_is b s.Small is refl) (all_kept (is_in c.Name) bs refl e);
  var_sym = λ b bs is e. kept b bs (first_is b s.Symbol is refl) (all_kept (is_in c.Symbol) bs refl e);
  con_sym = λ b bs is e. kept b bs (first_is b s.Symbol is refl) (all_kept (is_in c.Symbol) bs refl e);
  con = λ b bs kind is e. kept b bs (first_is b s.Large is refl) (capital_kept false bs kind e);
  qualified_var = λ b bs kind is e. kept b bs (first_is b s.Large is refl) (capital_kept false bs kind e);
  qualified_var_sym = λ b bs kind is e. kept b bs (first_is b s.Large is refl) (capital_kept false bs kind e);
  qualified_con_sym = λ b bs kind is e. kept b bs (first_is b s.Large is refl) (capital_kept false bs kind e);
  integer = λ value h. let it = decimal_kept value (value_small value h) in
      and_from (has_no_line_end (decimal value)) (starts_well false (decimal value)) it.lines it.starts;
  character = λ code h. quoted_kept 39 (char_bytes 39 code) refl refl (character_kept 39 code h);
  string = λ text h. quoted_kept 34 (string_bytes text) refl refl (string_kept text h);
}
