-- The bytes of each form of expression, right side and declaration, at the types as `src/` sees them.
use Rattle.std.proofs.Common.{◌≡◌, ℕ, Bool, false, List, [], ◌∷◌, ◌++◌, length, refl, sym, ap, ◌∙◌}
use Rattle.std.proofs.Common.{append_assoc, arith}
use Rattle.std.specs.Prelude.{map, codes, not, ◌==◌}
use Rattle.std.specs.Fmt.{decimal}
use Rattle.std.specs.List.{flat_map}
use Rattle.std.proofs.lemmas.Bool.Decides.{nat_tests}
use Rattle.std.proofs.lemmas.List.{append-nil}
use Rattle.bp_base.specs.Texts.{Text}
use Rattle.bp_base.specs.declared.entity.Fixity.{Fixity}
use Rattle.bp_base.specs.declared.ty.OrigName.{OrigName}
use Rattle.hs_tokens.specs.declared.terminal.Terminal.TheVariants as t
use Rattle.hs_tokens.specs.declared.word.Word.TheVariants as w
use Rattle.hs_core.specs.declared.tree.Written.{Written}
use Rattle.hs_core.specs.declared.tree.ConDecl.{ConDecl}
use Rattle.hs_core.specs.declared.tree.Pat.{Pat}
use Rattle.hs_core.specs.declared.tree.Decl.{Decl}
use Rattle.hs_core.specs.declared.tree.Decl.TheVariants.{DataDecl, SynonymDecl, TypeSig, FixityOf, Clause, PatBind}
use Rattle.hs_core.specs.declared.tree.Exp.{Exp}
use Rattle.hs_core.specs.declared.tree.Exp.TheVariants.{Local, Global, Int, Chr, Str, Apply, Lambda, Let, If, Case}
use Rattle.hs_core.specs.declared.tree.Exp.TheVariants.{Tuple}
use Rattle.hs_core.specs.declared.tree.Exp.TheVariants.{List as ListOf, RightSection, Annot}
use Rattle.hs_core.specs.declared.tree.Rhs.{Rhs, out-Rhs}
use Rattle.hs_core.specs.declared.tree.Choice.{Choice}
use Rattle.hs_core.specs.declared.tree.Guard.{Guard}
use Rattle.hs_core.specs.declared.tree.Guard.TheVariants.{Test, Bind}
use Rattle.hs_core.specs.declared.tree.Alt.{Alt, Alt', out-Alt}
use Rattle.hs_core.specs.declared.tree.Decl.TheBlock.{hidden-the_row-Exp-0, hidden-the_row-Exp-1, hidden-the_row-Decl-2}
use Rattle.hs_core.specs.declared.tree.Decl.TheBlock.{hidden-the_row-Alt-3, hidden-the_row-Guard-4}
use Rattle.hs_core.specs.declared.tree.Decl.TheBlock.{hidden-the_row-Choice-5}
use Rattle.hs_core.specs.declared.tree.Decl.TheViews.{roll-Rhs, roll-out-Rhs}
use Rattle.flat_text.specs.declared.expression.Sign.{Sign}
use Rattle.flat_text.specs.declared.expression.Sign.TheVariants as n
use Rattle.flat_text.specs.declared.name.Place.{Place}
use Rattle.flat_text.specs.declared.name.Place.TheVariants as p
use Rattle.flat_text.specs.Marks.{Mark, Marks, space, keyword, written, bracketed, bracketed_if, listed, led}
use Rattle.flat_text.specs.Marks.{parted, spaced}
use Rattle.flat_text.specs.Names.{bare_marks}
use Rattle.flat_text.specs.Texts.{open_text, close_text, bare_text, bare_op_text, global_text, global_op_text}
use Rattle.flat_text.specs.Texts.{char_text, string_text}
use Rattle.flat_text.specs.TypeMarks.{at_atom, type_marks}
use Rattle.flat_text.specs.PatternMarks.{pat_marks}
use Rattle.flat_text.specs.PatternTexts.{pats_text}
use Rattle.flat_text.specs.ExpressionMarks.{exp_marks, exps_marks, decl_marks, decls_marks, rhs_marks, choices_marks}
use Rattle.flat_text.specs.ExpressionMarks.{guard_marks, guards_marks, alt_marks, alts_marks, guarded_marks, op_marks}
use Rattle.flat_text.specs.ExpressionMarks.{signed, sign_marks, apply_marks, lambda_marks, let_marks, if_marks}
use Rattle.flat_text.specs.ExpressionMarks.{case_marks}
use Rattle.flat_text.specs.ExpressionMarks.{annot_marks, section_marks, choice_marks, where_marks, data_marks}
use Rattle.flat_text.specs.ExpressionMarks.{synonym_marks, type_sig_marks, fixity_marks}
use Rattle.flat_text.specs.ExpressionTexts.{exp_text, choice_text, exps_text}
use Rattle.flat_text.specs.ExpressionTexts.{decls_text}
use Rattle.flat_text.specs.ExpressionTexts.{alts_text, guards_text, choices_text, sign_text, brace_text}
use Rattle.flat_text.proofs.TextLemmas.{written_append, written_bracketed, written_listed, written_if, written_parts}
use Rattle.flat_text.proofs.TextLemmas.{written_bare, written_bare_op, written_global, written_global_op, nothing_is}
use Rattle.flat_text.proofs.TextLemmas.{space_is, comma_is, semicolon_is}
use Rattle.flat_text.proofs.PatternLemmas.{text_char, text_string, led_pats, spaced_pats}
use Rattle.flat_text.proofs.DeclarationLemmas.{bar_is, double_colon_is}
use denote.Hole.Carrier.{hidden, out, roll}

-- ---- a row is its list

exps_list : (l : List Exp) (place : Place) → exps_marks (hidden-the_row-Exp-1 l) place ≡ map (λ e. exp_marks e place) l
unfolding hidden-the_row-Exp-1 hidden
exps_list [] place = refl
exps_list (e ∷ l) place = ap (λ r. exp_marks e place ∷ r) (exps_list l place)

decls_list : (l : List Decl) → decls_marks (hidden-the_row-Decl-2 l) ≡ map decl_marks l
unfolding hidden-the_row-Decl-2 hidden
decls_list [] = refl
decls_list (d ∷ l) = ap (λ r. decl_marks d ∷ r) (decls_list l)

alts_list : (l : List Alt) → alts_marks (hidden-the_row-Alt-3 l) ≡ map alt_marks l
unfolding hidden-the_row-Alt-3 hidden
alts_list [] = refl
alts_list (a ∷ l) = ap (λ r. alt_marks a ∷ r) (alts_list l)

guards_list : (l : List Guard) → guards_marks (hidden-the_row-Guard-4 l) ≡ map guard_marks l
unfolding hidden-the_row-Guard-4 hidden
guards_list [] = refl
guards_list (g ∷ l) = ap (λ r. guard_marks g ∷ r) (guards_list l)

choices_list : (sign : Sign) (l : List Choice)
    → choices_marks sign (hidden-the_row-Choice-5 l) ≡ flat_map (guarded_marks sign) l
unfolding hidden-the_row-Choice-5 hidden
choices_list sign [] = refl
choices_list sign (c ∷ l) =
    λ i. choice_marks sign (guards_list c.guards i) (exp_marks c.exp p.Whole) ++ choices_list sign l i

-- ---- lists of parts

led_exps : (place : Place) (lead by : Marks) (lead' by' : List ℕ) → written lead ≡ lead' → written by ≡ by'
    → (l : List Exp)
    → written (led lead by (map (λ e. exp_marks e place) l)) ≡ exps_text place lead' by' l
unfolding exps_text exp_text
led_exps place lead by lead' by' e f l = written_parts lead by lead' by' e f (λ x. exp_marks x place) l

spaced_exps : (l : List Exp) → written (spaced (map (λ e. exp_marks e p.Atom) l)) ≡ exps_text p.Atom (codes " ")
    (codes " ") l
spaced_exps l = led_exps p.Atom (space ∷ []) (space ∷ []) (codes " ") (codes " ") space_is space_is l

parted_exps : (l : List Exp) → written (parted (map (λ e. exp_marks e p.Whole) l)) ≡ exps_text p.Whole [] (codes ", ") l
parted_exps l = led_exps p.Whole [] (Mark.word t.Comma ∷ space ∷ []) [] (codes ", ") nothing_is comma_is l

led_decls : (lead : Marks) (lead' : List ℕ) → written lead ≡ lead' → (l : List Decl)
    → written (led lead (Mark.word t.Semicolon ∷ space ∷ []) (map decl_marks l)) ≡ decls_text lead' (codes "; ") l
unfolding decls_text
led_decls lead lead' e l = written_parts lead (Mark.word t.Semicolon ∷ space ∷ []) lead' (codes "; ") e semicolon_is
    decl_marks l

led_alts : (l : List Alt) → written (led [] (Mark.word t.Semicolon ∷ space ∷ []) (map alt_marks l)) ≡ alts_text l
unfolding alts_text
led_alts l = written_parts [] (Mark.word t.Semicolon ∷ space ∷ []) [] (codes "; ") nothing_is semicolon_is alt_marks l

led_guards : (l : List Guard)
    → written (led (signed t.Bar) (Mark.word t.Comma ∷ space ∷ []) (map guard_marks l)) ≡ guards_text l
unfolding guards_text
led_guards l = written_parts (signed t.Bar) (Mark.word t.Comma ∷ space ∷ []) (codes " | ") (codes ", ") bar_is comma_is
    guard_marks l

-- ---- operators

pub op_Local : (name : Text) → written (op_marks (Local name)) ≡ bare_op_text name
op_Local name = written_bare_op name

pub op_Global : (name : OrigName) → written (op_marks (Global name)) ≡ global_op_text name
op_Global name = written_global_op name

-- ---- the words of expressions

behind_text : (front ms : Marks) (text : List ℕ) → written front ≡ text → written (front ++ ms) ≡ text ++ written ms
behind_text front ms text e = written_append front ms ∙ ap (λ v. v ++ written ms) e

abbrev arrow_words : Marks
arrow_words = space ∷ Mark.word t.Arrow ∷ space ∷ []

arrow_is : written arrow_words ≡ codes " -> "
unfolding written
arrow_is = refl

abbrev left_arrow_words : Marks
left_arrow_words = space ∷ Mark.word t.LeftArrow ∷ space ∷ []

left_arrow_is : written left_arrow_words ≡ codes " <- "
unfolding written
left_arrow_is = refl

abbrev lambda_words : Marks
lambda_words = Mark.word t.Backslash ∷ []

lambda_is : written lambda_words ≡ codes "\\"
unfolding written
lambda_is = refl

abbrev let_words : Marks
let_words = keyword w.Let ∷ space ∷ Mark.word t.LeftBrace ∷ []

let_is : written let_words ≡ codes "let {"
unfolding written
let_is = refl

abbrev in_words : Marks
in_words = Mark.word t.RightBrace ∷ space ∷ keyword w.In ∷ space ∷ []

in_is : written in_words ≡ codes "} in "
unfolding written
in_is = refl

abbrev if_words : Marks
if_words = keyword w.If ∷ space ∷ []

if_is : written if_words ≡ codes "if "
unfolding written
if_is = refl

abbrev then_words : Marks
then_words = space ∷ keyword w.Then ∷ space ∷ []

then_is : written then_words ≡ codes " then "
unfolding written
then_is = refl

abbrev else_words : Marks
else_words = space ∷ keyword w.Else ∷ space ∷ []

else_is : written else_words ≡ codes " else "
unfolding written
else_is = refl

abbrev case_words : Marks
case_words = keyword w.Case ∷ space ∷ []

case_is : written case_words ≡ codes "case "
unfolding written
case_is = refl

abbrev of_words : Marks
of_words = space ∷ keyword w.Of ∷ space ∷ Mark.word t.LeftBrace ∷ []

of_is : written of_words ≡ codes " of {"
unfolding written
of_is = refl

abbrev end_words : Marks
end_words = Mark.word t.RightBrace ∷ []

end_is : written end_words ≡ codes "}"
unfolding written
end_is = refl

abbrev where_words : Marks
where_words = space ∷ keyword w.Where ∷ space ∷ Mark.word t.LeftBrace ∷ []

where_is : written where_words ≡ codes " where {"
unfolding written
where_is = refl

abbrev gap_words : Marks
gap_words = space ∷ []

gap_is : written gap_words ≡ codes " "
unfolding written
gap_is = refl

sign_is : (sign : Sign) → written (sign_marks sign) ≡ sign_text sign
unfolding written
sign_is n.Equals = refl
sign_is n.Arrow = refl

-- ---- the bytes of each form, of its parts

if_text : (test one other : Marks) → written (if_marks test one other)
    ≡ codes "if " ++ (written test ++ (codes " then " ++ (written one ++ (codes " else " ++ written other))))
if_text test one other =
    behind_text if_words _ (codes "if ") if_is
    ∙ ap (λ v. codes "if " ++ v) (written_append test (then_words ++ (one ++ (else_words ++ other)))
    ∙ ap (λ v. written test ++ v) (behind_text then_words (one ++ (else_words ++ other)) (codes " then ") then_is
    ∙ ap (λ v. codes " then " ++ v) (written_append one (else_words ++ other)
    ∙ ap (λ v. written one ++ v) (behind_text else_words other (codes " else ") else_is))))

lambda_text : (pats : List Pat) (body : Marks) → written (lambda_marks (map pat_marks pats) body)
    ≡ codes "\\" ++ (pats_text [] (codes " ") pats ++ (codes " -> " ++ written body))
lambda_text pats body =
    behind_text lambda_words _ (codes "\\") lambda_is
    ∙ ap (λ v. codes "\\" ++ v) (written_append (led [] gap_words (map pat_marks pats)) (arrow_words ++ body)
    ∙ (λ i. led_pats [] gap_words [] (codes " ") nothing_is space_is pats i
    ++ behind_text arrow_words body (codes " -> ") arrow_is i))

let_text : (decls : List Decl) (body : Marks) → written (let_marks (map decl_marks decls) body)
    ≡ codes "let {" ++ (decls_text [] (codes "; ") decls ++ (codes "} in " ++ written body))
let_text decls body =
    ap (λ ms. written (let_words ++ ms)) (append_assoc (led [] (Mark.word t.Semicolon ∷ space ∷ [])
    (map decl_marks decls)) end_words _)
    ∙ behind_text let_words _ (codes "let {") let_is
    ∙ ap (λ v. codes "let {" ++ v) (written_append (led [] (Mark.word t.Semicolon ∷ space ∷ []) (map decl_marks decls))
    (in_words ++ body)
    ∙ (λ i. led_decls [] [] nothing_is decls i ++ behind_text in_words body (codes "} in ") in_is i))

case_text : (of' : Marks) (alts : List Alt) → written (case_marks of' (map alt_marks alts))
    ≡ codes "case " ++ (written of' ++ (codes " of {" ++ (alts_text alts ++ codes "}")))
case_text of' alts =
    behind_text case_words _ (codes "case ") case_is
    ∙ ap (λ v. codes "case " ++ v) (written_append of' (of_words
    ++ (led [] (Mark.word t.Semicolon ∷ space ∷ []) (map alt_marks alts) ++ end_words))
    ∙ ap (λ v. written of' ++ v) (behind_text of_words (led [] (Mark.word t.Semicolon ∷ space ∷ [])
    (map alt_marks alts) ++ end_words) (codes " of {") of_is
    ∙ ap (λ v. codes " of {" ++ v) (written_append (led [] (Mark.word t.Semicolon ∷ space ∷ []) (map alt_marks alts))
    end_words
    ∙ (λ i. led_alts alts i ++ end_is i))))

annot_text : (exp ty : Marks) → written (annot_marks exp ty) ≡ written exp ++ (codes " :: " ++ written ty)
annot_text exp ty =
    written_append exp (signed t.DoubleColon ++ ty)
    ∙ ap (λ v. written exp ++ v) (behind_text (signed t.DoubleColon) ty (codes " :: ") double_colon_is)

section_text : (op arg : Marks) → written (section_marks op arg) ≡ codes "("
    ++ ((written op ++ (codes " " ++ written arg)) ++ codes ")")
section_text op arg =
    written_bracketed (op ++ (gap_words ++ arg))
    ∙ ap (λ v. codes "(" ++ (v ++ codes ")")) (written_append op (gap_words ++ arg)
    ∙ ap (λ v. written op ++ v) (behind_text gap_words arg (codes " ") gap_is))

-- ---- expressions

pub text_Local : (name : Text) (place : Place) → exp_text place (Local name) ≡ bare_text name
unfolding exp_text
text_Local name place = written_bare name

pub text_Global : (name : OrigName) (place : Place) → exp_text place (Global name) ≡ global_text name
unfolding exp_text
text_Global name place = written_global name

pub text_Int : (value : ℕ) (place : Place) → exp_text place (Int value) ≡ decimal value
unfolding written exp_text
text_Int value place = append-nil (decimal value)

pub text_Chr : (code : ℕ) (place : Place) → exp_text place (Chr code) ≡ char_text code
unfolding exp_text
text_Chr code place = text_char code

pub text_Str : (text : List ℕ) (place : Place) → exp_text place (Str text) ≡ string_text text
unfolding exp_text
text_Str text place = text_string text

-- with brackets where an atom stands
placed : (place : Place) (ms : Marks) (text : List ℕ) → written ms ≡ text
    → written (bracketed_if (at_atom place) ms) ≡ open_text (at_atom place) ++ (text ++ close_text (at_atom place))
placed place ms text e =
    written_if (at_atom place) ms ∙ ap (λ v. open_text (at_atom place) ++ (v ++ close_text (at_atom place))) e

pub text_Apply : (e : Exp) (l : List Exp) (place : Place) → exp_text place (Apply e l)
    ≡ open_text (at_atom place) ++ ((exp_text p.Atom e ++ exps_text p.Atom (codes " ") (codes " ") l)
    ++ close_text (at_atom place))
unfolding hidden-the_row-Exp-0 hidden exp_text
text_Apply e l place =
    ap (λ r. written (bracketed_if (at_atom place) (apply_marks (exp_marks e p.Atom) r))) (exps_list l p.Atom)
    ∙ placed place _ _ (written_append (exp_marks e p.Atom) (spaced (map (λ x. exp_marks x p.Atom) l))
    ∙ ap (λ v. exp_text p.Atom e ++ v) (spaced_exps l))

pub text_Lambda : (l : List Pat) (e : Exp) (place : Place) → exp_text place (Lambda l e)
    ≡ open_text (at_atom place) ++ ((codes "\\" ++ (pats_text [] (codes " ") l ++ (codes " -> " ++ exp_text p.Whole e)))
    ++ close_text (at_atom place))
unfolding hidden-the_row-Exp-0 hidden exp_text
text_Lambda l e place = placed place _ _ (lambda_text l (exp_marks e p.Whole))

pub text_Let : (l : List Decl) (e : Exp) (place : Place) → exp_text place (Let l e)
    ≡ open_text (at_atom place) ++ ((codes "let {" ++ (decls_text [] (codes "; ") l
    ++ (codes "} in " ++ exp_text p.Whole e)))
    ++ close_text (at_atom place))
unfolding hidden-the_row-Exp-0 hidden exp_text
text_Let l e place =
    ap (λ r. written (bracketed_if (at_atom place) (let_marks r (exp_marks e p.Whole)))) (decls_list l)
    ∙ placed place _ _ (let_text l (exp_marks e p.Whole))

pub text_If : (a b c : Exp) (place : Place) → exp_text place (If a b c)
    ≡ open_text (at_atom place) ++ ((codes "if " ++ (exp_text p.Whole a ++ (codes " then "
    ++ (exp_text p.Whole b ++ (codes " else " ++ exp_text p.Whole c))))) ++ close_text (at_atom place))
unfolding hidden-the_row-Exp-0 hidden exp_text
text_If a b c place = placed place _ _ (if_text (exp_marks a p.Whole) (exp_marks b p.Whole) (exp_marks c p.Whole))

pub text_Case : (e : Exp) (l : List Alt) (place : Place) → exp_text place (Case e l)
    ≡ open_text (at_atom place) ++ ((codes "case " ++ (exp_text p.Whole e
    ++ (codes " of {" ++ (alts_text l ++ codes "}"))))
    ++ close_text (at_atom place))
unfolding hidden-the_row-Exp-0 hidden exp_text
text_Case e l place =
    ap (λ r. written (bracketed_if (at_atom place) (case_marks (exp_marks e p.Whole) r))) (alts_list l)
    ∙ placed place _ _ (case_text (exp_marks e p.Whole) l)

pub text_Tuple : (l : List Exp) (place : Place)
    → exp_text place (Tuple l) ≡ codes "(" ++ (exps_text p.Whole [] (codes ", ") l ++ codes ")")
unfolding exp_text
text_Tuple l place =
    ap (λ r. written (bracketed (parted r))) (exps_list l p.Whole)
    ∙ written_bracketed (parted (map (λ x. exp_marks x p.Whole) l))
    ∙ ap (λ v. codes "(" ++ (v ++ codes ")")) (parted_exps l)

pub text_List : (l : List Exp) (place : Place)
    → exp_text place (ListOf l) ≡ codes "[" ++ (exps_text p.Whole [] (codes ", ") l ++ codes "]")
unfolding exp_text
text_List l place =
    ap (λ r. written (listed (parted r))) (exps_list l p.Whole)
    ∙ written_listed (parted (map (λ x. exp_marks x p.Whole) l))
    ∙ ap (λ v. codes "[" ++ (v ++ codes "]")) (parted_exps l)

pub text_RightSection : (op arg : Exp) (place : Place) → exp_text place (RightSection op arg)
    ≡ codes "(" ++ ((written (op_marks op) ++ (codes " " ++ exp_text p.Atom arg)) ++ codes ")")
unfolding hidden-the_row-Exp-0 hidden exp_text
text_RightSection op arg place = section_text (op_marks op) (exp_marks arg p.Atom)

pub text_Annot : (e : Exp) (ty : Written) (place : Place) → exp_text place (Annot e ty)
    ≡ open_text (at_atom place) ++ ((exp_text p.Atom e ++ (codes " :: " ++ written (type_marks ty p.Whole)))
    ++ close_text (at_atom place))
unfolding hidden-the_row-Exp-0 hidden exp_text
text_Annot e ty place = placed place _ _ (annot_text (exp_marks e p.Atom) (type_marks ty p.Whole))

pub ruleset expression_texts = (
  text_Local,
  text_Global,
  text_Int,
  text_Chr,
  text_Str,
  text_Apply,
  text_Lambda,
  text_Let,
  text_If,
  text_Case,
  text_Tuple,
  text_List,
  text_RightSection,
  text_Annot,
)

pub op_Int : (value : ℕ) → written (op_marks (Int value)) ≡ []
unfolding written
op_Int value = refl

pub op_Chr : (code : ℕ) → written (op_marks (Chr code)) ≡ []
unfolding written
op_Chr code = refl

pub op_Str : (text : List ℕ) → written (op_marks (Str text)) ≡ []
unfolding written
op_Str text = refl

pub op_Apply : (e : Exp) (l : List Exp) → written (op_marks (Apply e l)) ≡ []
unfolding written
op_Apply e l = refl

pub op_Lambda : (l : List Pat) (e : Exp) → written (op_marks (Lambda l e)) ≡ []
unfolding written
op_Lambda l e = refl

pub op_Let : (l : List Decl) (e : Exp) → written (op_marks (Let l e)) ≡ []
unfolding written
op_Let l e = refl

pub op_If : (a b c : Exp) → written (op_marks (If a b c)) ≡ []
unfolding written
op_If a b c = refl

pub op_Case : (e : Exp) (l : List Alt) → written (op_marks (Case e l)) ≡ []
unfolding written
op_Case e l = refl

pub op_Tuple : (l : List Exp) → written (op_marks (Tuple l)) ≡ []
unfolding written
op_Tuple l = refl

pub op_List : (l : List Exp) → written (op_marks (ListOf l)) ≡ []
unfolding written
op_List l = refl

pub op_RightSection : (a b : Exp) → written (op_marks (RightSection a b)) ≡ []
unfolding written
op_RightSection a b = refl

pub op_Annot : (e : Exp) (ty : Written) → written (op_marks (Annot e ty)) ≡ []
unfolding written
op_Annot e ty = refl

pub ruleset op_texts = (
  op_Local,
  op_Global,
  op_Int,
  op_Chr,
  op_Str,
  op_Apply,
  op_Lambda,
  op_Let,
  op_If,
  op_Case,
  op_Tuple,
  op_List,
  op_RightSection,
  op_Annot,
)

-- ---- right sides

choices_written : (sign : Sign) (l : List Choice) → written (flat_map (guarded_marks sign) l) ≡ choices_text sign l
unfolding choices_text written
choices_written sign [] = refl
choices_written sign (c ∷ l) =
    written_append (guarded_marks sign c) (flat_map (guarded_marks sign) l)
    ∙ ap (λ v. choice_text sign c ++ v) (choices_written sign l)

some_decls : (d : Decl) (l : List Decl) → (length (d ∷ l) == 0) ≡ false
some_decls d l = grind (arith, nat_tests)

locals_text : (l : List Decl) → written (where_marks (map decl_marks l))
    ≡ decls_text (codes " where {") (codes "; ") l ++ brace_text (not (length l == 0))
unfolding decls_text written
locals_text [] = refl
locals_text (d ∷ l) =
    behind_text where_words (led [] (Mark.word t.Semicolon ∷ space ∷ []) (map decl_marks (d ∷ l)) ++ end_words)
    (codes " where {") where_is
    ∙ ap (λ v. codes " where {" ++ v)
    (written_append (led [] (Mark.word t.Semicolon ∷ space ∷ []) (map decl_marks (d ∷ l))) end_words
    ∙ (λ i. led_decls [] [] nothing_is (d ∷ l) i ++ end_is i))
    ∙ ap (λ v. decls_text (codes " where {") (codes "; ") (d ∷ l) ++ brace_text (not v)) (sym (some_decls d l))

rhs_roll : (sign : Sign) (cs : List Choice) (ds : List Decl)
    → rhs_marks sign (roll-Rhs (record { choices = cs; local = ds }))
    ≡ flat_map (guarded_marks sign) cs ++ where_marks (map decl_marks ds)
unfolding roll-Rhs roll
rhs_roll sign cs ds = λ i. choices_list sign cs i ++ where_marks (decls_list ds i)

pub text_rhs : (sign : Sign) (r : Rhs) → written (rhs_marks sign r) ≡ choices_text sign (out-Rhs r).choices
    ++ (decls_text (codes " where {") (codes "; ") (out-Rhs r).local
    ++ brace_text (not (length (out-Rhs r).local == 0)))
text_rhs sign r =
    ap (λ x. written (rhs_marks sign x)) (sym (roll-out-Rhs r))
    ∙ ap written (rhs_roll sign (out-Rhs r).choices (out-Rhs r).local)
    ∙ written_append (flat_map (guarded_marks sign) (out-Rhs r).choices)
    (where_marks (map decl_marks (out-Rhs r).local))
    ∙ (λ i. choices_written sign (out-Rhs r).choices i ++ locals_text (out-Rhs r).local i)

pub text_choice : (sign : Sign) (c : Choice) → written (guarded_marks sign c)
    ≡ guards_text c.guards ++ (sign_text sign ++ exp_text p.Whole c.exp)
unfolding exp_text
text_choice sign c =
    written_append (led (signed t.Bar) (Mark.word t.Comma ∷ space ∷ []) (map guard_marks c.guards))
    (sign_marks sign ++ exp_marks c.exp p.Whole)
    ∙ (λ i. led_guards c.guards i ++ behind_text (sign_marks sign) (exp_marks c.exp p.Whole) (sign_text sign)
    (sign_is sign) i)

pub text_Test : (e : Exp) → written (guard_marks (Test e)) ≡ exp_text p.Atom e
unfolding exp_text
text_Test e = refl

pub text_Bind : (pat : Pat) (e : Exp) → written (guard_marks (Bind pat e))
    ≡ written (pat_marks pat) ++ (codes " <- " ++ exp_text p.Atom e)
unfolding exp_text
text_Bind pat e =
    written_append (pat_marks pat) (left_arrow_words ++ exp_marks e p.Atom)
    ∙ ap (λ v. written (pat_marks pat) ++ v) (behind_text left_arrow_words (exp_marks e p.Atom) (codes " <- ")
    left_arrow_is)

pub text_alt : (a : Alt) → written (alt_marks a) ≡ written (pat_marks (out-Alt a).pat)
    ++ written (rhs_marks n.Arrow (out-Alt a).rhs)
unfolding out-Alt out
text_alt (Alt' pat rhs) = written_append (pat_marks pat) (rhs_marks n.Arrow rhs)

pub ruleset side_texts = (text_rhs, text_choice, text_Test, text_Bind, text_alt)

-- ---- declarations

pub text_DataDecl : (occ : Text) (is_new : Bool) (params : List Text) (cons : List ConDecl)
    → written (decl_marks (DataDecl occ is_new params cons)) ≡ written (data_marks occ is_new params cons)
text_DataDecl occ is_new params cons = refl

pub text_SynonymDecl : (occ : Text) (params : List Text) (body : Written)
    → written (decl_marks (SynonymDecl occ params body)) ≡ written (synonym_marks occ params body)
text_SynonymDecl occ params body = refl

pub text_TypeSig : (occ : Text) (ty : Written) → written (decl_marks (TypeSig occ ty)) ≡ written (type_sig_marks occ ty)
text_TypeSig occ ty = refl

pub text_FixityOf : (occ : Text) (fixity : Fixity) → written (decl_marks (FixityOf occ fixity)) ≡ written
    (fixity_marks occ fixity)
text_FixityOf occ fixity = refl

pub text_Clause : (occ : Text) (l : List Pat) (r : Rhs) → written (decl_marks (Clause occ l r))
    ≡ bare_text occ ++ (pats_text (codes " ") (codes " ") l ++ written (rhs_marks n.Equals r))
text_Clause occ l r =
    written_append (bare_marks occ) (spaced (map pat_marks l) ++ rhs_marks n.Equals r)
    ∙ (λ i. written_bare occ i ++ written_append (spaced (map pat_marks l)) (rhs_marks n.Equals r) i)
    ∙ ap (λ v. bare_text occ ++ (v ++ written (rhs_marks n.Equals r))) (spaced_pats l)

pub text_PatBind : (pat : Pat) (r : Rhs)
    → written (decl_marks (PatBind pat r)) ≡ written (pat_marks pat) ++ written (rhs_marks n.Equals r)
text_PatBind pat r = written_append (pat_marks pat) (rhs_marks n.Equals r)

pub ruleset decl_texts = (text_DataDecl, text_SynonymDecl, text_TypeSig, text_FixityOf, text_Clause, text_PatBind)
