-- The pieces that begin with a byte, over plain variables.
use Rattle.std.proofs.Common.{◌≡◌, ℕ, ◌+◌, ◌≤◌, true, false, List, [], ◌∷◌, ◌++◌, length, take, drop, refl, sym, ap}
use Rattle.std.proofs.Common.{◌∙◌, subst, arith, Option, Some, None, cond, add-one, le_refl}
use Rattle.std.specs.Prelude.{◌==◌, option_map}
use Rattle.std.specs.List.{prefix_len}
use Rattle.std.proofs.lemmas.Bool.Decides.{nat_tests}
use Rattle.std.proofs.lemmas.List.{take-append-drop}
use Rattle.hs_tokens.specs.declared.token.TokenKind.TheVariants as t
use Rattle.hs_lex.specs.declared.class.Class.TheVariants as c
use Rattle.hs_lex.specs.declared.class.Start.{Start}
use Rattle.hs_lex.specs.declared.class.Start.TheVariants as s
use Rattle.hs_lex.specs.declared.kind.Kind.{Kind}
use Rattle.hs_lex.specs.declared.kind.Kind.TheVariants as k
use Rattle.hs_lex.specs.declared.kind.Form.{Form}
use Rattle.hs_lex.specs.Classes.{is_in, all, begins, is_empty, start_of}
use Rattle.hs_lex.specs.Words.{word_kind, symbol_kind}
use Rattle.hs_lex.specs.Numbers.{only, numeral, number_kind}
use Rattle.hs_lex.specs.Literals.{more_by, string_len, char_len}
use Rattle.hs_lex.specs.Lexicon.{checked, is_dashed, symbolic, nested_len, comment_len, commented, braced, quoted}
use Rattle.hs_lex.specs.Lexicon.{kind_by, kind_of}
use Rattle.hs_lex.specs.Longest.{Spelling, Longest, alone}
use Rattle.hs_lex.proofs.RunLemmas.{run_longest, fixed_longest, one_longest, ahead_longest}
use Rattle.hs_lex.proofs.CapitalLemmas.{front_is}

-- on the ways to cut the text the two spellings agree
split_longest : {A : Type 0} (g g' : Spelling A) (bs : List ℕ) (x : A)
    (n : ℕ) → ((ys r : List ℕ) → ys ++ r ≡ bs → g ys r ≡ g' ys r) → Longest g' bs x n → Longest g bs x n
split_longest g g' bs x n by l = record {
  within = l.within;
  spelled = by (take n bs) (drop n bs) (take-append-drop n bs) ∙ l.spelled;
  longest = λ m le lt. by (take m bs) (drop m bs) (take-append-drop m bs) ∙ l.longest m le lt;
}

-- a kind that is computed from the piece's bytes
of_word : (g : Spelling Kind) (h : List ℕ → Kind) (b : ℕ) (bs text word : List ℕ) (n : ℕ) (kind : Kind) → text ≡ b ∷ bs
    → word ≡ take (n + 1) text → kind ≡ h word →
    Longest g bs (h (b ∷ take n bs)) n → Longest g bs kind n
of_word g h b bs text word n kind at w is l = subst (λ x. Longest g bs x n)
    (sym (is ∙ ap h (w ∙ front_is n text b bs at))) l

pub word_stands : (b : ℕ) (bs text word : List ℕ) (n : ℕ) (kind : Kind) → text ≡ b ∷ bs → word ≡ take (n + 1) text
    → kind ≡ word_kind word →
    n ≡ prefix_len (is_in c.Name) bs → n ≤ length bs → Longest (kind_by s.Small b) bs kind n
word_stands b bs text word n kind at w is run le =
    of_word (kind_by s.Small b) word_kind b bs text word n kind at w is
    (run_longest (is_in c.Name) (kind_by s.Small b) (λ ys. word_kind (b ∷ ys)) bs n run le (λ ys r. refl))

pub number_stands : (b : ℕ) (bs text word : List ℕ) (n : ℕ) (form : Form) (kind : Kind) → text ≡ b ∷ bs
    → word ≡ take (n + 1) text → kind ≡ number_kind word form →
    Longest (alone (numeral b)) bs form n → Longest (kind_by s.Digit b) bs kind n
number_stands b bs text word n form kind at w is l =
    of_word (kind_by s.Digit b) (λ w. number_kind w form) b bs text word n kind at w is
    record {
      within = l.within;
      spelled = ap (option_map (number_kind (b ∷ take n bs))) l.spelled;
      longest = λ m le lt. ap (option_map (number_kind (b ∷ take m bs))) (l.longest m le lt);
    }

pub comment_stands : (b : ℕ) (bs text word : List ℕ) (n : ℕ) (kind : Kind) → text ≡ b ∷ bs → word ≡ take (n + 1) text
    → kind ≡ checked word k.Comment →
    true ≡ is_dashed b bs → n ≡ prefix_len (is_in c.Line) bs → n ≤ length bs → Longest (kind_by s.Symbol b) bs kind n
comment_stands b bs text word n kind at w is dashed run le =
    of_word (symbolic b) (λ w. checked w k.Comment) b bs text word n kind at w is
    (fixed_longest (symbolic b) (λ ys. checked (b ∷ ys) k.Comment) bs n le
    (λ ys r e. ap (λ l. cond (is_dashed b l) (only (length ys == prefix_len (is_in c.Line) l)
    (checked (b ∷ ys) k.Comment)) (only (all (is_in c.Symbol) ys) (symbol_kind (b ∷ ys)))) e
    ∙ ap (λ v. cond v (only (length ys == prefix_len (is_in c.Line) bs) (checked (b ∷ ys) k.Comment))
    (only (all (is_in c.Symbol) ys) (symbol_kind (b ∷ ys)))) (sym dashed)
    ∙ ap (λ m. only (length ys == m) (checked (b ∷ ys) k.Comment)) (sym run)))

pub symbol_stands : (b : ℕ) (bs text word : List ℕ) (n : ℕ) (kind : Kind) → text ≡ b ∷ bs → word ≡ take (n + 1) text
    → kind ≡ symbol_kind word →
    false ≡ is_dashed b bs → n ≡ prefix_len (is_in c.Symbol) bs → n ≤ length bs → Longest (kind_by s.Symbol b) bs kind n
symbol_stands b bs text word n kind at w is dashed run le =
    of_word (symbolic b) symbol_kind b bs text word n kind at w is
    (split_longest (symbolic b) (λ ys r. only (all (is_in c.Symbol) ys) (symbol_kind (b ∷ ys))) bs
    (symbol_kind (b ∷ take n bs)) n
    (λ ys r e. ap (λ l. cond (is_dashed b l) (only (length ys == prefix_len (is_in c.Line) l)
    (checked (b ∷ ys) k.Comment)) (only (all (is_in c.Symbol) ys) (symbol_kind (b ∷ ys)))) e
    ∙ ap (λ v. cond v (only (length ys == prefix_len (is_in c.Line) bs) (checked (b ∷ ys) k.Comment))
    (only (all (is_in c.Symbol) ys) (symbol_kind (b ∷ ys)))) (sym dashed))
    (run_longest (is_in c.Symbol) (λ ys r. only (all (is_in c.Symbol) ys) (symbol_kind (b ∷ ys)))
    (λ ys. symbol_kind (b ∷ ys)) bs n run le (λ ys r. refl)))

-- a brace alone
pub brace_alone : (b : ℕ) (bs : List ℕ) → begins (is_in c.Dash) bs ≡ false
    → Longest (kind_by s.Brace b) bs (k.Token t.Special) 0
brace_alone b bs plain =
    split_longest (braced b) (λ ys r. only (is_empty ys) (k.Token t.Special)) bs (k.Token t.Special) 0
    (λ ys r e. ap (λ v. cond v (commented (comment_len (ys ++ r)) b ys r) (only (is_empty ys) (k.Token t.Special)))
    (ap (begins (is_in c.Dash)) e ∙ plain))
    (one_longest (λ ys r. only (is_empty ys) (k.Token t.Special)) (k.Token t.Special) bs (λ ys r. refl))

pub brace_end : (b : ℕ) (bs : List ℕ) → length bs ≡ 0 → Longest (kind_by s.Brace b) bs (k.Token t.Special) 0
brace_end b [] e = brace_alone b [] refl
brace_end b (x ∷ bs) e = absurd (omega arith)

pub brace_plain : (b : ℕ) (bs : List ℕ) (d : ℕ) (tail : List ℕ) → bs ≡ d ∷ tail → (d ≡ 45 → ⊥)
    → Longest (kind_by s.Brace b) bs (k.Token t.Special) 0
brace_plain b bs d tail at ne = brace_alone b bs (ap (begins (is_in c.Dash)) at
    ∙ (let no : (d == 45) ≡ false = grind (arith, nat_tests) in no))

commented_by : (b : ℕ) (bs : List ℕ) (d : ℕ) (tail : List ℕ) (o : Option ℕ) → bs ≡ d ∷ tail → d ≡ 45
    → o ≡ nested_len 1 tail → (ys r : List ℕ) → ys ++ r ≡ bs →
    braced b ys r ≡ commented (more_by 1 o) b ys r
commented_by b bs d tail o at dash is ys r e =
    let whole : ys ++ r ≡ 45 ∷ tail = e ∙ at ∙ ap (λ v. v ∷ tail) dash in
    ap (λ l. cond (begins (is_in c.Dash) l) (commented (comment_len l) b ys r) (only (is_empty ys) (k.Token t.Special)))
    whole
    ∙ ap (λ o. commented (more_by 1 o) b ys r) (sym is)

pub nested_stands : (b : ℕ) (bs text word : List ℕ) (d : ℕ) (tail : List ℕ) (n : ℕ) (kind : Kind) → text ≡ b ∷ bs
    → word ≡ take (n + 2) text →
    kind ≡ checked word k.Comment → bs ≡ d ∷ tail → d ≡ 45 → Some n ≡ nested_len 1 tail → n ≤ length tail
    → Longest (kind_by s.Brace b) bs kind (n + 1)
nested_stands b bs text word d tail n kind whole w is at dash found le =
    let two : n + 2 ≡ n + 1 + 1 = omega arith in
    of_word (braced b) (λ w. checked w k.Comment) b bs text word (n + 1) kind whole (w ∙ ap (λ m. take m text) two) is
    (fixed_longest (braced b) (λ ys. checked (b ∷ ys) k.Comment) bs (n + 1) (omega (arith, ap length at))
    (λ ys r e. commented_by b bs d tail (Some n) at dash found ys r e
    ∙ ap (λ m. only (length ys == m) (checked (b ∷ ys) k.Comment)) (let one : 1 + n ≡ n + 1 = omega arith in one)))

rest_none : (bs : List ℕ) → drop (length bs) bs ≡ []
rest_none [] = refl
rest_none (b ∷ bs) = rest_none bs

pub open_stands : (b : ℕ) (bs : List ℕ) (d : ℕ) (tail : List ℕ) → bs ≡ d ∷ tail → d ≡ 45 → None ≡ nested_len 1 tail
    → Longest (kind_by s.Brace b) bs k.Broken (length bs)
open_stands b bs d tail at dash none =
    split_longest (braced b) (λ ys r. only (is_empty r) k.Broken) bs k.Broken (length bs)
    (λ ys r e. commented_by b bs d tail None at dash none ys r e)
    record {
      within = le_refl (length bs);
      spelled = ap (λ l. only (is_empty l) k.Broken) (rest_none bs);
      longest = λ m le lt. absurd (omega arith);
    }

-- literals
quoted_some : (f : List ℕ → Option ℕ) (kind' : Kind) (b : ℕ) (bs text word : List ℕ) (n : ℕ) (kind : Kind)
    → text ≡ b ∷ bs → word ≡ take (n + 1) text →
    kind ≡ checked word kind' → Some n ≡ f bs → n ≤ length bs
    → Longest (λ ys r. quoted (f (ys ++ r)) kind' b ys) bs kind n
quoted_some f kind' b bs text word n kind at w is found le =
    of_word (λ ys r. quoted (f (ys ++ r)) kind' b ys) (λ w. checked w kind') b bs text word n kind at w is
    (fixed_longest (λ ys r. quoted (f (ys ++ r)) kind' b ys) (λ ys. checked (b ∷ ys) kind') bs n le
    (λ ys r e. ap (λ o. quoted o kind' b ys) (ap f e ∙ sym found)))

quoted_none : (f : List ℕ → Option ℕ) (kind' : Kind) (b : ℕ) (bs : List ℕ) → None ≡ f bs
    → Longest (λ ys r. quoted (f (ys ++ r)) kind' b ys) bs k.Broken 0
quoted_none f kind' b bs none =
    split_longest (λ ys r. quoted (f (ys ++ r)) kind' b ys) (λ ys r. only (is_empty ys) k.Broken) bs k.Broken 0
    (λ ys r e. ap (λ o. quoted o kind' b ys) (ap f e ∙ sym none))
    (one_longest (λ ys r. only (is_empty ys) k.Broken) k.Broken bs (λ ys r. refl))

pub char_stands : (b : ℕ) (bs text word : List ℕ) (n : ℕ) (kind : Kind) → text ≡ b ∷ bs → word ≡ take (n + 1) text
    → kind ≡ checked word (k.Token t.Char) →
    Some n ≡ char_len bs → n ≤ length bs → Longest (kind_by s.Quote b) bs kind n
char_stands b bs text word n kind at w is found le =
    quoted_some char_len (k.Token t.Char) b bs text word n kind at w is found le

pub char_broken : (b : ℕ) (bs : List ℕ) → None ≡ char_len bs → Longest (kind_by s.Quote b) bs k.Broken 0
char_broken b bs none = quoted_none char_len (k.Token t.Char) b bs none

pub text_stands : (b : ℕ) (bs text word : List ℕ) (n : ℕ) (kind : Kind) → text ≡ b ∷ bs → word ≡ take (n + 1) text
    → kind ≡ checked word (k.Token t.Text) →
    Some n ≡ string_len 0 bs → n ≤ length bs → Longest (kind_by s.DoubleQuote b) bs kind n
text_stands b bs text word n kind at w is found le =
    quoted_some (string_len 0) (k.Token t.Text) b bs text word n kind at w is found le

pub text_broken : (b : ℕ) (bs : List ℕ) → None ≡ string_len 0 bs → Longest (kind_by s.DoubleQuote b) bs k.Broken 0
text_broken b bs none = quoted_none (string_len 0) (k.Token t.Text) b bs none

-- one byte, and the start that was found
pub alone_stands : (start : Start) (kind : Kind) (b : ℕ) (bs : List ℕ)
    → ((ys r : List ℕ) → kind_by start b ys r ≡ only (is_empty ys) kind) → Longest (kind_by start b) bs kind 0
alone_stands start kind b bs by = one_longest (kind_by start b) kind bs by

pub at_start : (start : Start) (b : ℕ) (bs : List ℕ) (kind : Kind) (n : ℕ) → start ≡ start_of b
    → Longest (kind_by start b) bs kind n → Longest (kind_by (start_of b) b) bs kind n
at_start start b bs kind n e l = subst (λ s. Longest (kind_by s b) bs kind n) e l

pub front_stands : (b : ℕ) (bs text : List ℕ) (kind : Kind) (n : ℕ) → text ≡ b ∷ bs
    → Longest (kind_by (start_of b) b) bs kind n → Longest kind_of text kind (n + 1)
front_stands b bs text kind n at l =
    subst (λ l. Longest kind_of l kind (n + 1)) (sym at)
    (subst (λ m. Longest kind_of (b ∷ bs) kind m) (sym (add-one n))
    (ahead_longest kind_of (kind_by (start_of b) b) b bs kind n (λ ys r. refl) l))
