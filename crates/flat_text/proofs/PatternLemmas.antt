-- The bytes of each form of pattern, at the types as `src/` sees them.
use Rattle.std.proofs.Common.{◌≡◌, ℕ, Bool, true, false, List, [], ◌∷◌, ◌++◌, length, refl, sym, ap, ◌∙◌, arith}
use Rattle.std.specs.Prelude.{map, codes, not, ◌==◌}
use Rattle.std.proofs.lemmas.Bool.Decides.{nat_tests}
use Rattle.std.proofs.lemmas.List.{append-nil}
use Rattle.bp_base.specs.Texts.{Text}
use Rattle.bp_base.specs.declared.ty.OrigName.{OrigName}
use Rattle.hs_tokens.specs.declared.terminal.Terminal.TheVariants as t
use Rattle.hs_core.specs.declared.tree.Pat.{Pat}
use Rattle.hs_core.specs.declared.tree.Pat.TheVariants.{PVar, PWild, PInt, PChr, PStr, PCon, PTuple, PList, PAs, PLazy}
use Rattle.hs_core.specs.declared.tree.Pat.TheBlock.{hidden-the_row-Pat-0, hidden-the_row-Pat-1}
use Rattle.flat_text.specs.Marks.{Mark, Marks, space, written, bracketed, listed, led, parted, spaced}
use Rattle.flat_text.specs.Names.{bare_marks, global_marks}
use Rattle.flat_text.specs.Texts.{open_text, close_text, bare_text, global_text, number_text, char_text}
use Rattle.flat_text.specs.Texts.{string_text}
use Rattle.flat_text.specs.PatternMarks.{pat_marks, pats_marks, con_pat_marks, signed_marks, char_mark}
use Rattle.flat_text.specs.PatternMarks.{string_mark}
use Rattle.flat_text.specs.PatternTexts.{pat_text, pats_text}
use Rattle.flat_text.proofs.TextLemmas.{written_append, written_bracketed, written_listed, written_bare}
use Rattle.flat_text.proofs.TextLemmas.{written_global, written_parts, nothing_is, space_is, comma_is, pushed_two}
use Rattle.flat_text.proofs.TextLemmas.{pushed_three}
use denote.Hole.Carrier.{hidden}

-- a row is its list
pub pats_list : (l : List Pat) → pats_marks (hidden-the_row-Pat-0 l) ≡ map pat_marks l
unfolding hidden-the_row-Pat-0 hidden
pats_list [] = refl
pats_list (p ∷ l) = ap (λ r. pat_marks p ∷ r) (pats_list l)

-- patterns with something before each
pub led_pats : (lead by : Marks) (lead' by' : List ℕ) → written lead ≡ lead' → written by ≡ by' → (l : List Pat)
    → written (led lead by (map pat_marks l)) ≡ pats_text lead' by' l
unfolding pats_text
led_pats lead by lead' by' e f l = written_parts lead by lead' by' e f pat_marks l

pub spaced_pats : (l : List Pat) → written (spaced (map pat_marks l)) ≡ pats_text (codes " ") (codes " ") l
spaced_pats l = led_pats (space ∷ []) (space ∷ []) (codes " ") (codes " ") space_is space_is l

parted_pats : (l : List Pat) → written (parted (map pat_marks l)) ≡ pats_text [] (codes ", ") l
parted_pats l = led_pats [] (Mark.word t.Comma ∷ space ∷ []) [] (codes ", ") nothing_is comma_is l

pub text_PVar : (name : Text) → written (pat_marks (PVar name)) ≡ bare_text name
text_PVar name = written_bare name

pub text_PWild : written (pat_marks PWild) ≡ codes "_"
unfolding written
text_PWild = refl

signed_text : (negative : Bool) (value : ℕ) → written (signed_marks negative value) ≡ number_text negative value
unfolding written
signed_text true value = refl
signed_text false value = append-nil _

pub text_PInt : (negative : Bool) (value : ℕ) → written (pat_marks (PInt negative value)) ≡ number_text negative value
text_PInt negative value = signed_text negative value

pub text_char : (code : ℕ) → written (char_mark code ∷ []) ≡ char_text code
unfolding written
text_char code = append-nil _

pub text_string : (text : List ℕ) → written (string_mark text ∷ []) ≡ string_text text
unfolding written
text_string text = append-nil _

pub text_PChr : (code : ℕ) → written (pat_marks (PChr code)) ≡ char_text code
text_PChr code = text_char code

pub text_PStr : (text : List ℕ) → written (pat_marks (PStr text)) ≡ string_text text
text_PStr text = text_string text

some_args : (p : Pat) (l : List Pat) → (length (p ∷ l) == 0) ≡ false
some_args p l = grind (arith, nat_tests)

abbrev application : Bool → List ℕ → List Pat → List ℕ
application bare name l = open_text (not bare) ++ ((name ++ pats_text (codes " ") (codes " ") l)
    ++ close_text (not bare))

con_text : (name : Marks) (l : List Pat) → written (con_pat_marks name (map pat_marks l)) ≡ application (length l == 0)
    (written name) l
unfolding pats_text
con_text name [] = sym (append-nil (written name ++ []) ∙ append-nil (written name))
con_text name (p ∷ l) =
    written_bracketed (name ++ spaced (map pat_marks (p ∷ l)))
    ∙ ap (λ w. codes "(" ++ (w ++ codes ")"))
    (written_append name (spaced (map pat_marks (p ∷ l))) ∙ ap (λ w. written name ++ w) (spaced_pats (p ∷ l)))
    ∙ ap (λ v. application v (written name) (p ∷ l)) (sym (some_args p l))

pub text_PCon : (name : OrigName) (l : List Pat) → written (pat_marks (PCon name l))
    ≡ open_text (not (length l == 0)) ++ ((global_text name
    ++ pats_text (codes " ") (codes " ") l) ++ close_text (not (length l == 0)))
text_PCon name l =
    ap (λ r. written (con_pat_marks (global_marks name) r)) (pats_list l) ∙ con_text (global_marks name) l
    ∙ ap (λ w. application (length l == 0) w l) (written_global name)

pub text_PTuple : (l : List Pat) → written (pat_marks (PTuple l)) ≡ codes "("
    ++ (pats_text [] (codes ", ") l ++ codes ")")
text_PTuple l =
    ap (λ r. written (bracketed (parted r))) (pats_list l) ∙ written_bracketed (parted (map pat_marks l))
    ∙ ap (λ w. codes "(" ++ (w ++ codes ")")) (parted_pats l)

pub text_PList : (l : List Pat) → written (pat_marks (PList l)) ≡ codes "["
    ++ (pats_text [] (codes ", ") l ++ codes "]")
text_PList l =
    ap (λ r. written (listed (parted r))) (pats_list l) ∙ written_listed (parted (map pat_marks l))
    ∙ ap (λ w. codes "[" ++ (w ++ codes "]")) (parted_pats l)

pub text_PAs : (name : Text) (p : Pat) → written (pat_marks (PAs name p)) ≡ bare_text name
    ++ (codes "@" ++ written (pat_marks p))
unfolding hidden-the_row-Pat-1 hidden written
text_PAs name p =
    written_append (bare_marks name) (Mark.word t.At ∷ pat_marks p)
    ∙ ap (λ w. w ++ (codes "@" ++ written (pat_marks p))) (written_bare name)

pub text_PLazy : (p : Pat) → written (pat_marks (PLazy p)) ≡ codes "(~" ++ (written (pat_marks p) ++ codes ")")
unfolding hidden-the_row-Pat-1 hidden written
text_PLazy p = written_bracketed (Mark.word t.Tilde ∷ pat_marks p)

pub ruleset pattern_texts = (
  text_PVar,
  text_PWild,
  text_PInt,
  text_PChr,
  text_PStr,
  text_PCon,
  text_PTuple,
  text_PList,
  text_PAs,
  text_PLazy,
)

-- what was pushed for a pattern of several parts
pub pushed_PCon : (o p q r s : List ℕ) (pat : Pat) (name : OrigName) (l : List Pat) (brackets : Bool)
    → pat ≡ PCon name l
    → brackets ≡ not (length l == 0) → p ≡ o ++ open_text brackets → q ≡ p ++ global_text name
    → r ≡ q ++ pats_text (codes " ") (codes " ") l → s ≡ r ++ close_text brackets → s ≡ o ++ written (pat_marks pat)
pushed_PCon o p q r s pat name l brackets is b e f g h =
    pushed_three o p r s (open_text brackets) (global_text name ++ pats_text (codes " ") (codes " ") l)
    (close_text brackets) e
    (pushed_two p q r (global_text name) (pats_text (codes " ") (codes " ") l) f g) h
    ∙ ap (λ v. o ++ (open_text v ++ ((global_text name ++ pats_text (codes " ") (codes " ") l) ++ close_text v))) b
    ∙ ap (λ w. o ++ w) (sym (ap pat_text is ∙ text_PCon name l))

pub pushed_PAs : (o p q r : List ℕ) (pat : Pat) (name : Text) (inner within : Pat) → pat ≡ PAs name inner
    → within ≡ inner
    → p ≡ o ++ bare_text name → q ≡ p ++ codes "@" → r ≡ q ++ written (pat_marks within) → r ≡ o
    ++ written (pat_marks pat)
pushed_PAs o p q r pat name inner within is same e f g =
    pushed_three o p q r (bare_text name) (codes "@") (pat_text within) e f g
    ∙ ap (λ x. o ++ (bare_text name ++ (codes "@" ++ pat_text x))) same
    ∙ ap (λ w. o ++ w) (sym (ap pat_text is ∙ text_PAs name inner))
