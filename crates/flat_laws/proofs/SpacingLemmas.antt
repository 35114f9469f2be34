-- No two marks of the flat text touch that could be read as one.
use Rattle.std.proofs.Common.{◌≡◌, ℕ, suc, zero, Bool, true, false, List, [], ◌∷◌, ◌++◌, length, map, refl, sym, ap}
use Rattle.std.proofs.Common.{subst, ◌∙◌, append_assoc}
use Rattle.std.specs.Prelude.{not, ◌||◌, ◌-◌, codes, replicate}
use Rattle.std.specs.List.{flat_map}
use Rattle.std.proofs.lemmas.Bool.{not-true}
use Rattle.bp_base.specs.declared.entity.Assoc.{Assoc}
use Rattle.bp_base.specs.declared.entity.Fixity.{Fixity}
use Rattle.bp_base.specs.declared.ty.OrigName.{OrigName}
use Rattle.hs_tokens.specs.declared.terminal.Terminal.{Terminal}
use Rattle.hs_tokens.specs.declared.terminal.Terminal.TheVariants as t
use Rattle.hs_tokens.specs.declared.word.Word.{Word}
use Rattle.hs_tokens.specs.declared.word.Word.TheVariants as w
use Rattle.hs_tokens.specs.Terminals.{minus}
use Rattle.hs_lex.specs.declared.class.Start.{Start}
use Rattle.hs_lex.specs.declared.class.Start.TheVariants as s
use Rattle.hs_core.specs.declared.tree.Written.{Written}
use Rattle.hs_core.specs.declared.tree.Written.TheVariants.{WVar, WCon, WApp, WApp'}
use Rattle.hs_core.specs.declared.tree.Written.TheBlock.{end_of-Written, more_of-Written}
use Rattle.hs_core.specs.declared.tree.ConDecl.{ConDecl}
use Rattle.hs_core.specs.declared.tree.FieldDecl.{FieldDecl}
use Rattle.hs_core.specs.declared.tree.Pat.{Pat}
use Rattle.hs_core.specs.declared.tree.Pat.TheVariants.{PVar, PWild, PInt, PChr, PStr, PCon, PCon', PTuple, PTuple'}
use Rattle.hs_core.specs.declared.tree.Pat.TheVariants.{PList, PList', PAs, PAs', PLazy, PLazy'}
use Rattle.hs_core.specs.declared.tree.Pat.TheBlock.{Row_of-Pat, end_of-Pat, more_of-Pat}
use Rattle.hs_core.specs.declared.tree.Decl.{Decl}
use Rattle.hs_core.specs.declared.tree.Decl.TheVariants.{DataDecl, SynonymDecl, TypeSig, FixityOf, Clause, PatBind}
use Rattle.hs_core.specs.declared.tree.Exp.{Exp}
use Rattle.hs_core.specs.declared.tree.Exp.TheVariants.{Local, Global, Int, Chr, Str, Apply, Apply', Lambda, Lambda'}
use Rattle.hs_core.specs.declared.tree.Exp.TheVariants.{Let, Let', If, If', Case, Case', Tuple, Tuple', List as ListOf}
use Rattle.hs_core.specs.declared.tree.Exp.TheVariants.{List' as ListOf', RightSection, RightSection', Annot, Annot'}
use Rattle.hs_core.specs.declared.tree.Rhs.{Rhs, Rhs'}
use Rattle.hs_core.specs.declared.tree.Guard.{Guard}
use Rattle.hs_core.specs.declared.tree.Guard.TheVariants.{Test, Bind}
use Rattle.hs_core.specs.declared.tree.Alt.{Alt, Alt'}
use Rattle.hs_core.specs.declared.tree.Decl.TheBlock.{Row_of-Choice, end_of-Choice, more_of-Choice, Row_of-Decl}
use Rattle.hs_core.specs.declared.tree.Decl.TheBlock.{end_of-Decl, more_of-Decl, Row_of-Guard, end_of-Guard}
use Rattle.hs_core.specs.declared.tree.Decl.TheBlock.{more_of-Guard, Row_of-Exp, end_of-Exp, more_of-Exp, Row_of-Alt}
use Rattle.hs_core.specs.declared.tree.Decl.TheBlock.{end_of-Alt, more_of-Alt}
use Rattle.flat_lex.specs.Pieces.{of_name, of_symbol, joins, joins_first, IsSpaced}
use Rattle.flat_text.specs.declared.expression.Sign.{Sign}
use Rattle.flat_text.specs.declared.expression.Sign.TheVariants as n
use Rattle.flat_text.specs.declared.flat.FlatExport.{FlatExport}
use Rattle.flat_text.specs.declared.flat.FlatModule.{FlatModule}
use Rattle.flat_text.specs.declared.name.NameForm.{NameForm}
use Rattle.flat_text.specs.declared.name.NameForm.TheVariants as f
use Rattle.flat_text.specs.declared.name.Place.{Place}
use Rattle.flat_text.specs.declared.name.Place.TheVariants as p
use Rattle.flat_text.specs.declared.types.Applied.{Applied}
use Rattle.flat_text.specs.declared.types.Applied.TheVariants as a
use Rattle.flat_text.specs.Marks.{Mark, Marks, Blank, shape_of, piece_of, pieces_of, space, line_end, keyword}
use Rattle.flat_text.specs.Marks.{bracketed}
use Rattle.flat_text.specs.Marks.{listed}
use Rattle.flat_text.specs.Marks.{braced, bracketed_if, led, parted, block, spaced}
use Rattle.flat_text.specs.Names.{form_of, flat_form, flat_name, bare_by, bare_marks, con_by, con_marks, quoted}
use Rattle.flat_text.specs.Names.{bare_op_by, bare_op, flat_by, flat_marks, global_by, global_marks, global_op_by}
use Rattle.flat_text.specs.Names.{global_op}
use Rattle.flat_text.specs.TypeMarks.{Placed, TypeText, applied_form, list_marks, arrow_marks, tuple_marks}
use Rattle.flat_text.specs.TypeMarks.{application_marks, applied_marks, at_atom, below_whole, type_text, type_marks}
use Rattle.flat_text.specs.PatternMarks.{integer_mark, char_mark, string_mark, signed_marks, con_pat_marks, as_marks}
use Rattle.flat_text.specs.PatternMarks.{pat_marks, pats_marks}
use Rattle.flat_text.specs.ExpressionMarks.{signed, sign_marks, apply_marks, lambda_marks, let_marks, if_marks}
use Rattle.flat_text.specs.ExpressionMarks.{case_marks}
use Rattle.flat_text.specs.ExpressionMarks.{annot_marks, section_marks, choice_marks, where_marks, field_marks}
use Rattle.flat_text.specs.ExpressionMarks.{con_decl_marks, data_word, data_marks, synonym_marks, type_sig_marks}
use Rattle.flat_text.specs.ExpressionMarks.{fixity_word, fixity_marks, op_marks, exp_marks, exps_marks, decl_marks}
use Rattle.flat_text.specs.ExpressionMarks.{decls_marks, rhs_marks, choices_marks, guard_marks, guards_marks, alt_marks}
use Rattle.flat_text.specs.ExpressionMarks.{alts_marks}
use Rattle.flat_text.specs.ModuleMarks.{cons_marks, export_marks, head_marks, import_marks, line_marks, module_marks}

abbrev pub Apart : Marks → Type 0
Apart ms = IsSpaced (pieces_of ms)

abbrev start_at : Mark → Start
start_at m = (piece_of m).start

-- nothing goes on with such a mark
abbrev is_neutral : Start → Bool
is_neutral start = not (of_name start || of_symbol start)

abbrev neutral_first : Marks → Bool
neutral_first [] = true
neutral_first (m ∷ ms) = is_neutral (start_at m)

-- it does not begin with a symbol
abbrev plain_first : Marks → Bool
plain_first [] = true
plain_first (m ∷ ms) = not (of_symbol (start_at m))

neutral_parts : (v w : Bool) → not (v || w) ≡ true → (v ≡ false) × (w ≡ false)
neutral_parts true w e = cc
neutral_parts false true e = cc
neutral_parts false false e = (refl, refl)

neutral_apart : (start next : Start) → is_neutral next ≡ true → joins start next ≡ false
neutral_apart s.Small next e = (neutral_parts (of_name next) (of_symbol next) e).0
neutral_apart s.Large next e = let q = neutral_parts (of_name next) (of_symbol next) e in λ i. q.0 i || q.1 i
neutral_apart s.Digit next e = let q = neutral_parts (of_name next) (of_symbol next) e in λ i. q.0 i || q.1 i
neutral_apart s.Symbol next e = (neutral_parts (of_name next) (of_symbol next) e).1
neutral_apart s.Brace next e = (neutral_parts (of_name next) (of_symbol next) e).1
neutral_apart s.White next e = refl
neutral_apart s.Special next e = refl
neutral_apart s.Quote next e = refl
neutral_apart s.DoubleQuote next e = refl
neutral_apart s.Other next e = refl

first_apart : (start : Start) (ms : Marks) → neutral_first ms ≡ true → joins_first start (pieces_of ms) ≡ false
first_apart start [] e = refl
first_apart start (m ∷ ms) e = neutral_apart start (start_at m) e

-- what stands before a neutral mark
before : (xs ys : Marks) → Apart xs → Apart ys → neutral_first ys ≡ true → Apart (xs ++ ys)
before [] ys g h e = h
before (x ∷ []) ys g h e = (first_apart (start_at x) ys e, h)
before (x ∷ y ∷ xs) ys g h e = (g.0, before (y ∷ xs) ys g.1 h e)

-- a mark before a neutral one
mark_before : (m : Mark) (ms : Marks) → neutral_first ms ≡ true → Apart ms → Apart (m ∷ ms)
mark_before m ms e h = (first_apart (start_at m) ms e, h)

-- behind white space, a special character, a brace and a symbol
behind_blank : (b : Blank) (ms : Marks) → Apart ms → Apart (Mark.blank b ∷ ms)
behind_blank b [] h = (refl, h)
behind_blank b (m ∷ ms) h = (refl, h)

behind_special : (x : Terminal) (ms : Marks) → (shape_of x).start ≡ s.Special → Apart ms → Apart (Mark.word x ∷ ms)
behind_special x [] is h = (refl, h)
behind_special x (m ∷ ms) is h = (ap (λ st. joins st (start_at m)) is, h)

behind_brace : (ms : Marks) → plain_first ms ≡ true → Apart ms → Apart (Mark.word t.LeftBrace ∷ ms)
behind_brace [] e h = (refl, h)
behind_brace (m ∷ ms) e h = (not-true (of_symbol (start_at m)) e, h)

behind_symbol : (x : Terminal) (ms : Marks) → (shape_of x).start ≡ s.Symbol → plain_first ms ≡ true → Apart ms
    → Apart (Mark.word x ∷ ms)
behind_symbol x [] is e h = (refl, h)
behind_symbol x (m ∷ ms) is e h = (ap (λ st. joins st (start_at m)) is ∙ not-true (of_symbol (start_at m)) e, h)

neutral_append : (xs ys : Marks) → neutral_first xs ≡ true → neutral_first ys ≡ true → neutral_first (xs ++ ys) ≡ true
neutral_append [] ys e g = g
neutral_append (x ∷ xs) ys e g = e

plain_append : (xs ys : Marks) → plain_first xs ≡ true → plain_first ys ≡ true → plain_first (xs ++ ys) ≡ true
plain_append [] ys e g = g
plain_append (x ∷ xs) ys e g = e

neutral_plain : (ms : Marks) → neutral_first ms ≡ true → plain_first ms ≡ true
neutral_plain [] e = refl
neutral_plain (m ∷ ms) e = ap not (neutral_parts (of_name (start_at m)) (of_symbol (start_at m)) e).1

-- ---- brackets

in_brackets : (ms : Marks) → Apart ms → Apart (bracketed ms)
in_brackets ms h =
    behind_special t.LeftParen (ms ++ Mark.word t.RightParen ∷ []) refl
    (before ms (Mark.word t.RightParen ∷ []) h (refl, tt) refl)

in_list : (ms : Marks) → Apart ms → Apart (listed ms)
in_list ms h =
    behind_special t.LeftBracket (ms ++ Mark.word t.RightBracket ∷ []) refl
    (before ms (Mark.word t.RightBracket ∷ []) h (refl, tt) refl)

in_braces : (ms : Marks) → plain_first ms ≡ true → Apart ms → Apart (braced ms)
in_braces ms e h =
    behind_brace (ms ++ Mark.word t.RightBrace ∷ []) (plain_append ms (Mark.word t.RightBrace ∷ []) e refl)
    (before ms (Mark.word t.RightBrace ∷ []) h (refl, tt) refl)

if_brackets : (b : Bool) (ms : Marks) → Apart ms → Apart (bracketed_if b ms)
if_brackets true ms h = in_brackets ms h
if_brackets false ms h = h

-- ---- parts

abbrev AllApart : List Marks → Type 0
AllApart [] = Unit {0}
AllApart (ms ∷ parts) = Apart ms × AllApart parts

-- what may stand before any part, and what may stand between any two
record IsLead (lead : Marks) : Type 0 where
  apart : (ms : Marks) → Apart ms → Apart (lead ++ ms)

record IsSeparator (by : Marks) : Type 0 where
  apart : (ms : Marks) → Apart ms → Apart (by ++ ms)
  neutral : (ms : Marks) → neutral_first (by ++ ms) ≡ true

led_neutral : (by : Marks) (parts : List Marks) → IsSeparator by → neutral_first (led by by parts) ≡ true
led_neutral by [] is = refl
led_neutral by (part ∷ parts) is = is.neutral (part ++ led by by parts)

led_apart : (lead by : Marks) (parts : List Marks) → IsLead lead → IsSeparator by → AllApart parts
    → Apart (led lead by parts)
led_apart lead by [] first is h = tt
led_apart lead by (part ∷ parts) first is h =
    first.apart (part ++ led by by parts)
    (before part (led by by parts) h.0 (led_apart by by parts (record { apart = is.apart }) is h.1)
    (led_neutral by parts is))

no_lead : IsLead []
no_lead = record { apart = λ ms h. h }

space_separates : IsSeparator (space ∷ [])
space_separates = record { apart = λ ms h. behind_blank Blank.gap ms h; neutral = λ ms. refl }

space_leads : IsLead (space ∷ [])
space_leads = record { apart = λ ms h. behind_blank Blank.gap ms h }

comma_separates : IsSeparator (Mark.word t.Comma ∷ space ∷ [])
comma_separates = record {
  apart = λ ms h. behind_special t.Comma (space ∷ ms) refl (behind_blank Blank.gap ms h);
  neutral = λ ms. refl;
}

semicolon_separates : IsSeparator (Mark.word t.Semicolon ∷ space ∷ [])
semicolon_separates = record {
  apart = λ ms h. behind_special t.Semicolon (space ∷ ms) refl (behind_blank Blank.gap ms h);
  neutral = λ ms. refl;
}

-- a sign with spaces
behind_sign : (x : Terminal) (ms : Marks) → Apart ms → Apart (signed x ++ ms)
behind_sign x ms h = (refl, mark_before (Mark.word x) (space ∷ ms) refl (behind_blank Blank.gap ms h))

sign_separates : (x : Terminal) → IsSeparator (signed x)
sign_separates x = record { apart = λ ms h. behind_sign x ms h; neutral = λ ms. refl }

sign_leads : (x : Terminal) → IsLead (signed x)
sign_leads x = record { apart = λ ms h. behind_sign x ms h }

parted_apart : (parts : List Marks) → AllApart parts → Apart (parted parts)
parted_apart parts h = led_apart [] (Mark.word t.Comma ∷ space ∷ []) parts no_lead comma_separates h

spaced_apart : (parts : List Marks) → AllApart parts → Apart (spaced parts)
spaced_apart parts h = led_apart (space ∷ []) (space ∷ []) parts space_leads space_separates h

spaced_neutral : (parts : List Marks) → neutral_first (spaced parts) ≡ true
spaced_neutral parts = led_neutral (space ∷ []) parts space_separates

-- parts that are no symbols at first
abbrev AllPlain : List Marks → Type 0
AllPlain [] = Unit {0}
AllPlain (ms ∷ parts) = (plain_first ms ≡ true) × AllPlain parts

led_plain : (by : Marks) (parts : List Marks) → AllPlain parts → IsSeparator by → plain_first (led [] by parts) ≡ true
led_plain by [] h is = refl
led_plain by (part ∷ parts) h is = plain_append part (led by by parts) h.0
    (neutral_plain (led by by parts) (led_neutral by parts is))

block_apart : (parts : List Marks) → AllApart parts → AllPlain parts → Apart (block parts)
block_apart parts h e =
    in_braces (led [] (Mark.word t.Semicolon ∷ space ∷ []) parts)
    (led_plain (Mark.word t.Semicolon ∷ space ∷ []) parts e semicolon_separates)
    (led_apart [] (Mark.word t.Semicolon ∷ space ∷ []) parts no_lead semicolon_separates h)

-- behind a word
behind_word : (reserved : Word) (ms : Marks) → Apart ms → Apart (keyword reserved ∷ space ∷ ms)
behind_word reserved ms h = mark_before (keyword reserved) (space ∷ ms) refl (behind_blank Blank.gap ms h)

-- ---- names

record Name (ms : Marks) : Type 0 where
  apart : Apart ms
  plain : plain_first ms ≡ true

bare_name_by : (form : NameForm) (name : List ℕ) → Name (bare_by form name)
bare_name_by f.VarSym name = record { apart = (refl, (refl, (refl, tt))); plain = refl }
bare_name_by f.ConSym name = record { apart = (refl, (refl, (refl, tt))); plain = refl }
bare_name_by f.Var name = record { apart = (refl, tt); plain = refl }
bare_name_by f.Con name = record { apart = (refl, tt); plain = refl }
bare_name_by f.Colon name = record { apart = (refl, tt); plain = refl }
bare_name_by f.Arrow name = record { apart = (refl, tt); plain = refl }
bare_name_by f.List name = record { apart = (refl, tt); plain = refl }
bare_name_by f.Tuple name = record { apart = (refl, tt); plain = refl }

bare_name : (name : List ℕ) → Name (bare_marks name)
unfolding bare_marks
bare_name name = bare_name_by (form_of name) name

con_name_by : (form : NameForm) (name : List ℕ) → Name (con_by form name)
con_name_by f.VarSym name = record { apart = in_brackets (Mark.word (t.ConSym name) ∷ []) (refl, tt); plain = refl }
con_name_by f.ConSym name = record { apart = in_brackets (Mark.word (t.ConSym name) ∷ []) (refl, tt); plain = refl }
con_name_by f.Var name = record { apart = (refl, tt); plain = refl }
con_name_by f.Con name = record { apart = (refl, tt); plain = refl }
con_name_by f.Colon name = record { apart = (refl, tt); plain = refl }
con_name_by f.Arrow name = record { apart = (refl, tt); plain = refl }
con_name_by f.List name = record { apart = (refl, tt); plain = refl }
con_name_by f.Tuple name = record { apart = (refl, tt); plain = refl }

con_name : (name : List ℕ) → Name (con_marks name)
unfolding con_marks
con_name name = con_name_by (form_of name) name

flat_name_by : (form : NameForm) (name : List ℕ) → Name (flat_by form name)
flat_name_by f.VarSym name = record { apart = (refl, (refl, (refl, tt))); plain = refl }
flat_name_by f.ConSym name = record { apart = in_brackets (Mark.word (t.ConSym name) ∷ []) (refl, tt); plain = refl }
flat_name_by f.Var name = record { apart = (refl, tt); plain = refl }
flat_name_by f.Con name = record { apart = (refl, tt); plain = refl }
flat_name_by f.Colon name = record { apart = (refl, tt); plain = refl }
flat_name_by f.Arrow name = record { apart = (refl, tt); plain = refl }
flat_name_by f.List name = record { apart = (refl, tt); plain = refl }
flat_name_by f.Tuple name = record { apart = (refl, tt); plain = refl }

exported_name : (name : List ℕ) → Name (flat_marks name)
unfolding flat_marks
exported_name name = flat_name_by (flat_form false name) name

commas_apart : (count : ℕ) → Apart (replicate count (Mark.word t.Comma))
commas_apart zero = tt
commas_apart (suc count) = behind_special t.Comma (replicate count (Mark.word t.Comma)) refl (commas_apart count)

global_name_by : (form : NameForm) (occ flat : List ℕ) → Name (global_by form occ flat)
global_name_by f.Colon occ flat = record { apart = (refl, (refl, (refl, tt))); plain = refl }
global_name_by f.Arrow occ flat = record { apart = (refl, (refl, (refl, tt))); plain = refl }
global_name_by f.List occ flat = record { apart = (refl, (refl, tt)); plain = refl }
global_name_by f.Tuple occ flat = record {
  apart = in_brackets (replicate (length occ - 2) (Mark.word t.Comma)) (commas_apart (length occ - 2));
  plain = refl;
}
global_name_by f.VarSym occ flat = flat_name_by f.VarSym flat
global_name_by f.ConSym occ flat = flat_name_by f.ConSym flat
global_name_by f.Var occ flat = flat_name_by f.Var flat
global_name_by f.Con occ flat = flat_name_by f.Con flat

global_name : (name : OrigName) → Name (global_marks name)
unfolding global_marks
global_name name = global_name_by (form_of name.occ) name.occ (flat_name name)

quoted_apart : (x : Terminal) → Apart (quoted x)
quoted_apart x =
    behind_special t.Backquote (Mark.word x ∷ Mark.word t.Backquote ∷ []) refl
    (mark_before (Mark.word x) (Mark.word t.Backquote ∷ []) refl (refl, tt))

bare_op_apart_by : (form : NameForm) (name : List ℕ) → Apart (bare_op_by form name)
bare_op_apart_by f.VarSym name = (refl, tt)
bare_op_apart_by f.ConSym name = (refl, tt)
bare_op_apart_by f.Con name = quoted_apart (t.Con name)
bare_op_apart_by f.Var name = quoted_apart (t.Var name)
bare_op_apart_by f.Colon name = quoted_apart (t.Var name)
bare_op_apart_by f.Arrow name = quoted_apart (t.Var name)
bare_op_apart_by f.List name = quoted_apart (t.Var name)
bare_op_apart_by f.Tuple name = quoted_apart (t.Var name)

bare_op_apart : (name : List ℕ) → Apart (bare_op name)
unfolding bare_op
bare_op_apart name = bare_op_apart_by (form_of name) name

global_op_apart_by : (form : NameForm) (flat : List ℕ) → Apart (global_op_by form flat)
global_op_apart_by f.VarSym flat = (refl, tt)
global_op_apart_by f.ConSym flat = (refl, tt)
global_op_apart_by f.Colon flat = (refl, tt)
global_op_apart_by f.Con flat = quoted_apart (t.Con flat)
global_op_apart_by f.Var flat = quoted_apart (t.QVar flat)
global_op_apart_by f.Arrow flat = quoted_apart (t.QVar flat)
global_op_apart_by f.List flat = quoted_apart (t.QVar flat)
global_op_apart_by f.Tuple flat = quoted_apart (t.QVar flat)

global_op_apart : (name : OrigName) → Apart (global_op name)
unfolding global_op
global_op_apart name = global_op_apart_by (form_of name.occ) (flat_name name)

names_apart : (g : List ℕ → Marks) → ((name : List ℕ) → Name (g name)) → (names : List (List ℕ))
    → AllApart (map g names)
names_apart g is [] = tt
names_apart g is (name ∷ names) = ((is name).apart, names_apart g is names)

-- ---- types

abbrev ArgsApart : List Placed → Type 0
ArgsApart [] = Unit {0}
ArgsApart (arg ∷ args) = ((place : Place) → Apart (arg place)) × ArgsApart args

record TypeApart (ty : TypeText) : Type 0 where
  name : Name ty.name
  args : ArgsApart ty.args
  text : (place : Place) → Apart (ty.text place)
  plain : plain_first (ty.text p.Atom) ≡ true

more_args : (args : List Placed) (last : Placed) → ArgsApart args → ((place : Place) → Apart (last place))
    → ArgsApart (args ++ last ∷ [])
more_args [] last h g = (g, tt)
more_args (arg ∷ args) last h g = (h.0, more_args args last h.1 g)

-- arguments, each with a separator behind it, and then the last one
ends_apart : (by : Marks) → IsSeparator by → (place : Place) (args : List Placed) (last : Marks) → ArgsApart args
    → Apart last
    → Apart (flat_map (λ (arg : Placed). arg place ++ by) args ++ last)
ends_apart by is place [] last h g = g
ends_apart by is place (arg ∷ args) last h g =
    let rest = flat_map (λ (it : Placed). it place ++ by) args in
    subst Apart (sym (append_assoc (arg place ++ by) rest last ∙ append_assoc (arg place) by (rest ++ last)))
    (before (arg place) (by ++ (rest ++ last)) (h.0 place)
    (is.apart (rest ++ last) (ends_apart by is place args last h.1 g))
    (is.neutral (rest ++ last)))

-- arguments with a space before each, and then the last one
fronts_apart : (args : List Placed) (last : Marks) → ArgsApart args → Apart last
    → Apart (flat_map (λ (arg : Placed). space ∷ arg p.Atom) args ++ space ∷ last)
    × (neutral_first (flat_map (λ (arg : Placed). space ∷ arg p.Atom) args ++ space ∷ last) ≡ true)
fronts_apart [] last h g = (behind_blank Blank.gap last g, refl)
fronts_apart (arg ∷ args) last h g =
    let rest = flat_map (λ (it : Placed). space ∷ it p.Atom) args in
    let more = fronts_apart args last h.1 g in (
      behind_blank Blank.gap ((arg p.Atom ++ rest) ++ space ∷ last)
          (subst Apart (sym (append_assoc (arg p.Atom) rest (space ∷ last)))
          (before (arg p.Atom) (rest ++ space ∷ last) (h.0 p.Atom) more.0 more.1)),
      refl,
    )

application_apart : (name : Marks) (args : List Placed) (last : Placed) → Name name → ArgsApart args
    → ((place : Place) → Apart (last place)) → Apart (application_marks name args last)
application_apart name args last n h g =
    let more = fronts_apart args (last p.Atom) h (g p.Atom) in
    before name (flat_map (λ (arg : Placed). space ∷ arg p.Atom) args ++ space ∷ last p.Atom) n.apart more.0 more.1

applied_apart : (form : Applied) (name : Marks) (args : List Placed) (last : Placed) → Name name → ArgsApart args
    → ((place : Place) → Apart (last place)) → (place : Place) → Apart (applied_marks form name args last place)
applied_apart a.List name args last n h g place = in_list (last p.Whole) (g p.Whole)
applied_apart a.Arrow name args last n h g place =
    if_brackets (below_whole place) (arrow_marks args last)
    (ends_apart (signed t.Arrow) (sign_separates t.Arrow) p.Operand args (last p.Whole) h (g p.Whole))
applied_apart a.Tuple name args last n h g place =
    in_brackets (flat_map (λ (arg : Placed). arg p.Whole ++ Mark.word t.Comma ∷ space ∷ []) args ++ last p.Whole)
    (ends_apart (Mark.word t.Comma ∷ space ∷ []) comma_separates p.Whole args (last p.Whole) h (g p.Whole))
applied_apart a.Other name args last n h g place =
    if_brackets (at_atom place) (application_marks name args last) (application_apart name args last n h g)

applied_plain : (form : Applied)
    (name : Marks) (args : List Placed) (last : Placed)
    → plain_first (applied_marks form name args last p.Atom) ≡ true
applied_plain a.List name args last = refl
applied_plain a.Arrow name args last = refl
applied_plain a.Tuple name args last = refl
applied_plain a.Other name args last = refl

type_apart : (ty : Written) → TypeApart (type_text ty)
type_apart (WVar name) = record {
  name = record { apart = (refl, tt); plain = refl };
  args = tt;
  text = λ place. (refl, tt);
  plain = refl;
}
type_apart (WCon name) = record {
  name = global_name name;
  args = tt;
  text = λ place. (global_name name).apart;
  plain = (global_name name).plain;
}
type_apart (WApp' s' (more_of-Written g end_of-Written) z (more_of-Written x end_of-Written)) =
    let fun = type_apart g in
    let last = type_apart x in
    let form = applied_form (type_text g).head (length (type_text g).args) in
    record {
      name = fun.name;
      args = more_args (type_text g).args (type_text x).text fun.args last.text;
      text = applied_apart form (type_text g).name (type_text g).args (type_text x).text fun.name fun.args last.text;
      plain = applied_plain form (type_text g).name (type_text g).args (type_text x).text;
    }

types_apart : (ty : Written) (place : Place) → Apart (type_marks ty place)
unfolding type_marks
types_apart ty place = (type_apart ty).text place

types_plain : (ty : Written) → plain_first (type_marks ty p.Atom) ≡ true
unfolding type_marks
types_plain ty = (type_apart ty).plain

-- ---- patterns

signed_name : (negative : Bool) (value : ℕ) → Name (signed_marks negative value)
signed_name false value = record { apart = (refl, tt); plain = refl }
signed_name true value = record { apart = (refl, (refl, (refl, (refl, tt)))); plain = refl }

con_pat_name : (name : Marks) (parts : List Marks) → Name name → AllApart parts → Name (con_pat_marks name parts)
con_pat_name name [] n h = n
con_pat_name name (part ∷ parts) n h = record {
  apart = in_brackets (name ++ spaced (part ∷ parts))
      (before name (spaced (part ∷ parts)) n.apart (spaced_apart (part ∷ parts) h) refl);
  plain = refl;
}

as_by : (form : NameForm) (name : List ℕ) (pat : Marks) → Name pat → Name (bare_by form name ++ Mark.word t.At ∷ pat)
as_by f.VarSym name pat h = record {
  apart = (refl, (refl, (refl, behind_symbol t.At pat refl h.plain h.apart)));
  plain = refl;
}
as_by f.ConSym name pat h = record {
  apart = (refl, (refl, (refl, behind_symbol t.At pat refl h.plain h.apart)));
  plain = refl;
}
as_by f.Var name pat h = record { apart = (refl, behind_symbol t.At pat refl h.plain h.apart); plain = refl }
as_by f.Con name pat h = record { apart = (refl, behind_symbol t.At pat refl h.plain h.apart); plain = refl }
as_by f.Colon name pat h = record { apart = (refl, behind_symbol t.At pat refl h.plain h.apart); plain = refl }
as_by f.Arrow name pat h = record { apart = (refl, behind_symbol t.At pat refl h.plain h.apart); plain = refl }
as_by f.List name pat h = record { apart = (refl, behind_symbol t.At pat refl h.plain h.apart); plain = refl }
as_by f.Tuple name pat h = record { apart = (refl, behind_symbol t.At pat refl h.plain h.apart); plain = refl }

as_name : (name : List ℕ) (pat : Marks) → Name pat → Name (as_marks name pat)
unfolding bare_marks
as_name name pat h = as_by (form_of name) name pat h

lazy_name : (pat : Marks) → Name pat → Name (bracketed (Mark.word t.Tilde ∷ pat))
lazy_name pat h = record {
  apart = in_brackets (Mark.word t.Tilde ∷ pat) (behind_symbol t.Tilde pat refl h.plain h.apart);
  plain = refl;
}

mutual
  pat_name : (pat : Pat) → Name (pat_marks pat)
  pat_name (PVar name) = bare_name name
  pat_name PWild = record { apart = (refl, tt); plain = refl }
  pat_name (PInt negative value) = signed_name negative value
  pat_name (PChr code) = record { apart = (refl, tt); plain = refl }
  pat_name (PStr text) = record { apart = (refl, tt); plain = refl }
  pat_name (PCon' name s' ps) = con_pat_name (global_marks name) (pats_marks ps) (global_name name) (pats_apart ps)
  pat_name (PTuple' s' ps) = record {
    apart = in_brackets (parted (pats_marks ps))
        (parted_apart (pats_marks ps) (pats_apart ps));
    plain = refl;
  }
  pat_name (PList' s' ps) = record {
    apart = in_list (parted (pats_marks ps))
        (parted_apart (pats_marks ps) (pats_apart ps));
    plain = refl;
  }
  pat_name (PAs' name s' (more_of-Pat inner end_of-Pat)) = as_name name (pat_marks inner) (pat_name inner)
  pat_name (PLazy' s' (more_of-Pat inner end_of-Pat)) = lazy_name (pat_marks inner) (pat_name inner)

  pats_apart : {m : _} (ps : Row_of-Pat m) → AllApart (pats_marks ps)
  pats_apart end_of-Pat = tt
  pats_apart (more_of-Pat pat ps) = ((pat_name pat).apart, pats_apart ps)

each_apart : (ps : List Pat) → AllApart (map pat_marks ps)
each_apart [] = tt
each_apart (pat ∷ ps) = ((pat_name pat).apart, each_apart ps)

each_plain : (ps : List Pat) → AllPlain (map pat_marks ps)
each_plain [] = tt
each_plain (pat ∷ ps) = ((pat_name pat).plain, each_plain ps)

-- ---- declarations of types

field_apart : (field : FieldDecl) → Apart (field_marks field)
field_apart field = by field.strict field.ty
  where
    by : (strict : Bool) (ty : Written) → Apart (field_marks (record { strict = strict; ty = ty }))
    by true ty = behind_symbol (t.VarSym (codes "!")) (type_marks ty p.Atom) refl (types_plain ty)
        (types_apart ty p.Atom)
    by false ty = types_apart ty p.Atom

fields_apart : (fields : List FieldDecl) → AllApart (map field_marks fields)
fields_apart [] = tt
fields_apart (field ∷ fields) = (field_apart field, fields_apart fields)

con_apart : (con : ConDecl) → Apart (con_decl_marks con)
con_apart con =
    before (con_marks con.occ) (spaced (map field_marks con.fields)) (con_name con.occ).apart
    (spaced_apart (map field_marks con.fields) (fields_apart con.fields))
    (spaced_neutral (map field_marks con.fields))

cons_apart : (cons : List ConDecl) → AllApart (map con_decl_marks cons)
cons_apart [] = tt
cons_apart (con ∷ cons) = (con_apart con, cons_apart cons)

-- what may stand behind a name: it is apart, and begins with nothing that goes on
record Tail (ms : Marks) : Type 0 where
  apart : Apart ms
  neutral : neutral_first ms ≡ true

tails : (xs ys : Marks) → Tail xs → Tail ys → Tail (xs ++ ys)
tails xs ys g h = record {
  apart = before xs ys g.apart h.apart h.neutral;
  neutral =
      neutral_append xs ys g.neutral h.neutral;
}

sign_tail : (x : Terminal) (ms : Marks) → Apart ms → Tail (signed x ++ ms)
sign_tail x ms h = record { apart = behind_sign x ms h; neutral = refl }

spaced_tail : (parts : List Marks) → AllApart parts → Tail (spaced parts)
spaced_tail parts h = record { apart = spaced_apart parts h; neutral = spaced_neutral parts }

cons_tail : (cons : List ConDecl) → Tail (led (signed t.Equals) (signed t.Bar) (map con_decl_marks cons))
cons_tail [] = record { apart = tt; neutral = refl }
cons_tail (con ∷ cons) = record {
  apart = led_apart (signed t.Equals) (signed t.Bar) (map con_decl_marks (con ∷ cons)) (sign_leads t.Equals)
      (sign_separates t.Bar) (cons_apart (con ∷ cons));
  neutral = refl;
}

data_apart : (occ : List ℕ)
    (is_new : Bool) (params : List (List ℕ)) (cons : List ConDecl)
    → Apart (data_marks occ is_new params cons)
data_apart occ is_new params cons =
    let tail = tails (spaced (map bare_marks params)) (led (signed t.Equals) (signed t.Bar) (map con_decl_marks cons))
    (spaced_tail (map bare_marks params) (names_apart bare_marks bare_name params)) (cons_tail cons) in
    behind_word (data_word is_new) (con_marks occ ++ (spaced (map bare_marks params)
    ++ led (signed t.Equals) (signed t.Bar) (map con_decl_marks cons)))
    (before (con_marks occ) (spaced (map bare_marks params)
    ++ led (signed t.Equals) (signed t.Bar) (map con_decl_marks cons))
    (con_name occ).apart tail.apart tail.neutral)

synonym_apart : (occ : List ℕ) (params : List (List ℕ)) (body : Written) → Apart (synonym_marks occ params body)
synonym_apart occ params body =
    let tail = tails (spaced (map bare_marks params)) (signed t.Equals ++ type_marks body p.Whole)
    (spaced_tail (map bare_marks params) (names_apart bare_marks bare_name params))
    (sign_tail t.Equals (type_marks body p.Whole) (types_apart body p.Whole)) in
    behind_word w.Type (con_marks occ ++ (spaced (map bare_marks params)
    ++ (signed t.Equals ++ type_marks body p.Whole)))
    (before (con_marks occ) (spaced (map bare_marks params) ++ (signed t.Equals ++ type_marks body p.Whole))
    (con_name occ).apart tail.apart tail.neutral)

type_sig_apart : (occ : List ℕ) (ty : Written) → Apart (type_sig_marks occ ty)
type_sig_apart occ ty =
    before (bare_marks occ) (signed t.DoubleColon ++ type_marks ty p.Whole) (bare_name occ).apart
    (behind_sign t.DoubleColon (type_marks ty p.Whole) (types_apart ty p.Whole)) refl

fixity_apart : (occ : List ℕ) (fixity : Fixity) → Apart (fixity_marks occ fixity)
fixity_apart occ fixity =
    behind_word (fixity_word fixity.assoc) (integer_mark fixity.level ∷ space ∷ bare_op occ)
    (mark_before (integer_mark fixity.level) (space ∷ bare_op occ) refl
    (behind_blank Blank.gap (bare_op occ) (bare_op_apart occ)))

-- ---- expressions

apply_apart : (fun : Marks) (args : List Marks) → Apart fun → AllApart args → Apart (apply_marks fun args)
apply_apart fun args g h = before fun (spaced args) g (spaced_apart args h) (spaced_neutral args)

lambda_apart : (ps : List Pat) (body : Marks) → Apart body → Apart (lambda_marks (map pat_marks ps) body)
lambda_apart ps body h =
    let front = led [] (space ∷ []) (map pat_marks ps) in
    behind_symbol t.Backslash (front ++ (signed t.Arrow ++ body)) refl
    (plain_append front (signed t.Arrow ++ body) (led_plain (space ∷ []) (map pat_marks ps) (each_plain ps)
    space_separates) refl)
    (before front (signed t.Arrow ++ body) (led_apart [] (space ∷ []) (map pat_marks ps) no_lead space_separates
    (each_apart ps))
    (behind_sign t.Arrow body h) refl)

let_apart : (decls : List Marks) (body : Marks) → AllApart decls → AllPlain decls → Apart body
    → Apart (let_marks decls body)
let_apart decls body g e h =
    behind_word w.Let (block decls ++ space ∷ keyword w.In ∷ space ∷ body)
    (before (block decls) (space ∷ keyword w.In ∷ space ∷ body) (block_apart decls g e)
    (behind_blank Blank.gap (keyword w.In ∷ space ∷ body) (behind_word w.In body h)) refl)

if_apart : (test one other : Marks) → Apart test → Apart one → Apart other → Apart (if_marks test one other)
if_apart test one other g h k =
    behind_word w.If (test ++ space ∷ keyword w.Then ∷ space ∷ (one ++ space ∷ keyword w.Else ∷ space ∷ other))
    (before test (space ∷ keyword w.Then ∷ space ∷ (one ++ space ∷ keyword w.Else ∷ space ∷ other)) g
    (behind_blank Blank.gap (keyword w.Then ∷ space ∷ (one ++ space ∷ keyword w.Else ∷ space ∷ other))
    (behind_word w.Then (one ++ space ∷ keyword w.Else ∷ space ∷ other)
    (before one (space ∷ keyword w.Else ∷ space ∷ other) h
    (behind_blank Blank.gap (keyword w.Else ∷ space ∷ other) (behind_word w.Else other k)) refl))) refl)

case_apart : (of' : Marks) (alts : List Marks) → Apart of' → AllApart alts → AllPlain alts → Apart (case_marks of' alts)
case_apart of' alts g h e =
    behind_word w.Case (of' ++ space ∷ keyword w.Of ∷ space ∷ block alts)
    (before of' (space ∷ keyword w.Of ∷ space ∷ block alts) g
    (behind_blank Blank.gap (keyword w.Of ∷ space ∷ block alts)
    (behind_word w.Of (block alts) (block_apart alts h e))) refl)

annot_apart : (exp ty : Marks) → Apart exp → Apart ty → Apart (annot_marks exp ty)
annot_apart exp ty g h = before exp (signed t.DoubleColon ++ ty) g (behind_sign t.DoubleColon ty h) refl

section_apart : (op arg : Marks) → Apart op → Apart arg → Apart (section_marks op arg)
section_apart op arg g h = in_brackets (op ++ space ∷ arg) (before op (space ∷ arg) g (behind_blank Blank.gap arg h)
    refl)

sign_of_tail : (sign : Sign) (ms : Marks) → Apart ms → Tail (sign_marks sign ++ ms)
sign_of_tail n.Equals ms h = sign_tail t.Equals ms h
sign_of_tail n.Arrow ms h = sign_tail t.Arrow ms h

guards_tail : (guards : List Marks) → AllApart guards → Tail
    (led (signed t.Bar) (Mark.word t.Comma ∷ space ∷ []) guards)
guards_tail [] h = record { apart = tt; neutral = refl }
guards_tail (guard ∷ guards) h = record {
  apart = led_apart (signed t.Bar) (Mark.word t.Comma ∷ space ∷ []) (guard ∷ guards) (sign_leads t.Bar) comma_separates
      h;
  neutral = refl;
}

choice_tail : (sign : Sign) (guards : List Marks) (exp : Marks) → AllApart guards → Apart exp
    → Tail (choice_marks sign guards exp)
choice_tail sign guards exp g h =
    tails (led (signed t.Bar) (Mark.word t.Comma ∷ space ∷ []) guards) (sign_marks sign ++ exp) (guards_tail guards g)
    (sign_of_tail sign exp h)

where_tail : (decls : List Marks) → AllApart decls → AllPlain decls → Tail (where_marks decls)
where_tail [] h e = record { apart = tt; neutral = refl }
where_tail (decl ∷ decls) h e = record {
  apart = behind_blank Blank.gap (keyword w.Where ∷ space ∷ block (decl ∷ decls))
      (behind_word w.Where (block (decl ∷ decls)) (block_apart (decl ∷ decls) h e));
  neutral = refl;
}

op_apart : (op : Exp) → Apart (op_marks op)
op_apart (Local name) = bare_op_apart name
op_apart (Global name) = global_op_apart name
op_apart (Int value) = tt
op_apart (Chr code) = tt
op_apart (Str text) = tt
op_apart (Apply' s' e z es) = tt
op_apart (Lambda' ps s' e) = tt
op_apart (Let' s' ds z e) = tt
op_apart (If' s' a' y b z c) = tt
op_apart (Case' s' e z as') = tt
op_apart (Tuple' s' es) = tt
op_apart (ListOf' s' es) = tt
op_apart (RightSection' s' o z a') = tt
op_apart (Annot' s' e ty) = tt

mutual
  exp_apart : (e : Exp) (place : Place) → Apart (exp_marks e place)
  exp_apart (Local name) place = (bare_name name).apart
  exp_apart (Global name) place = (global_name name).apart
  exp_apart (Int value) place = (refl, tt)
  exp_apart (Chr code) place = (refl, tt)
  exp_apart (Str text) place = (refl, tt)
  exp_apart (Apply' s' (more_of-Exp e end_of-Exp) z es) place =
      if_brackets (at_atom place) (apply_marks (exp_marks e p.Atom) (exps_marks es p.Atom))
      (apply_apart (exp_marks e p.Atom) (exps_marks es p.Atom) (exp_apart e p.Atom) (exps_apart es p.Atom))
  exp_apart (Lambda' ps s' (more_of-Exp e end_of-Exp)) place =
      if_brackets (at_atom place) (lambda_marks (map pat_marks ps) (exp_marks e p.Whole))
      (lambda_apart ps (exp_marks e p.Whole) (exp_apart e p.Whole))
  exp_apart (Let' s' ds z (more_of-Exp e end_of-Exp)) place =
      if_brackets (at_atom place) (let_marks (decls_marks ds) (exp_marks e p.Whole))
      (let_apart (decls_marks ds) (exp_marks e p.Whole) (decls_apart ds) (decls_plain ds) (exp_apart e p.Whole))
  exp_apart (If' s' (more_of-Exp a' end_of-Exp) y (more_of-Exp b end_of-Exp) z (more_of-Exp c end_of-Exp)) place =
      if_brackets (at_atom place) (if_marks (exp_marks a' p.Whole) (exp_marks b p.Whole) (exp_marks c p.Whole))
      (if_apart (exp_marks a' p.Whole) (exp_marks b p.Whole) (exp_marks c p.Whole) (exp_apart a' p.Whole)
      (exp_apart b p.Whole)
      (exp_apart c p.Whole))
  exp_apart (Case' s' (more_of-Exp e end_of-Exp) z as') place =
      if_brackets (at_atom place) (case_marks (exp_marks e p.Whole) (alts_marks as'))
      (case_apart (exp_marks e p.Whole) (alts_marks as') (exp_apart e p.Whole) (alts_apart as') (alts_plain as'))
  exp_apart (Tuple' s' es) place =
      in_brackets (parted (exps_marks es p.Whole)) (parted_apart (exps_marks es p.Whole) (exps_apart es p.Whole))
  exp_apart (ListOf' s' es) place =
      in_list (parted (exps_marks es p.Whole)) (parted_apart (exps_marks es p.Whole) (exps_apart es p.Whole))
  exp_apart (RightSection' s' (more_of-Exp o end_of-Exp) z (more_of-Exp a' end_of-Exp)) place =
      section_apart (op_marks o) (exp_marks a' p.Atom) (op_apart o) (exp_apart a' p.Atom)
  exp_apart (Annot' s' (more_of-Exp e end_of-Exp) ty) place =
      if_brackets (at_atom place) (annot_marks (exp_marks e p.Atom) (type_marks ty p.Whole))
      (annot_apart (exp_marks e p.Atom) (type_marks ty p.Whole) (exp_apart e p.Atom) (types_apart ty p.Whole))

  exps_apart : {m : _} (es : Row_of-Exp m) (place : Place) → AllApart (exps_marks es place)
  exps_apart end_of-Exp place = tt
  exps_apart (more_of-Exp e es) place = (exp_apart e place, exps_apart es place)

  decl_name : (decl : Decl) → Name (decl_marks decl)
  decl_name (DataDecl occ is_new params cons) = record { apart = data_apart occ is_new params cons; plain = refl }
  decl_name (SynonymDecl occ params body) = record { apart = synonym_apart occ params body; plain = refl }
  decl_name (TypeSig occ ty) = record {
    apart = type_sig_apart occ ty;
    plain = plain_append (bare_marks occ) (signed t.DoubleColon ++ type_marks ty p.Whole) (bare_name occ).plain refl;
  }
  decl_name (FixityOf occ fixity) = record { apart = fixity_apart occ fixity; plain = refl }
  decl_name (Clause occ ps rhs) =
      let tail = tails (spaced (map pat_marks ps)) (rhs_marks n.Equals rhs)
      (spaced_tail (map pat_marks ps) (each_apart ps))
      (rhs_tail n.Equals rhs) in
      record {
        apart = before (bare_marks occ) (spaced (map pat_marks ps) ++ rhs_marks n.Equals rhs) (bare_name occ).apart
            tail.apart tail.neutral;
        plain = plain_append (bare_marks occ) (spaced (map pat_marks ps) ++ rhs_marks n.Equals rhs)
            (bare_name occ).plain
            (neutral_plain (spaced (map pat_marks ps) ++ rhs_marks n.Equals rhs) tail.neutral);
      }
  decl_name (PatBind pat rhs) =
      let tail = rhs_tail n.Equals rhs in
      record {
        apart = before (pat_marks pat) (rhs_marks n.Equals rhs) (pat_name pat).apart tail.apart tail.neutral;
        plain = plain_append (pat_marks pat) (rhs_marks n.Equals rhs) (pat_name pat).plain
            (neutral_plain (rhs_marks n.Equals rhs) tail.neutral);
      }

  decls_apart : {m : _} (ds : Row_of-Decl m) → AllApart (decls_marks ds)
  decls_apart end_of-Decl = tt
  decls_apart (more_of-Decl d ds) = ((decl_name d).apart, decls_apart ds)

  decls_plain : {m : _} (ds : Row_of-Decl m) → AllPlain (decls_marks ds)
  decls_plain end_of-Decl = tt
  decls_plain (more_of-Decl d ds) = ((decl_name d).plain, decls_plain ds)

  rhs_tail : (sign : Sign) (rhs : Rhs) → Tail (rhs_marks sign rhs)
  rhs_tail sign (Rhs' s' cs z ds) =
      tails (choices_marks sign cs) (where_marks (decls_marks ds)) (choices_tail sign cs)
      (where_tail (decls_marks ds) (decls_apart ds) (decls_plain ds))

  choices_tail : {m : _} (sign : Sign) (cs : Row_of-Choice m) → Tail (choices_marks sign cs)
  choices_tail sign end_of-Choice = record { apart = tt; neutral = refl }
  choices_tail sign (more_of-Choice s' gs e cs) =
      tails (choice_marks sign (guards_marks gs) (exp_marks e p.Whole)) (choices_marks sign cs)
      (choice_tail sign (guards_marks gs) (exp_marks e p.Whole) (guards_apart gs) (exp_apart e p.Whole))
      (choices_tail sign cs)

  guard_apart : (guard : Guard) → Apart (guard_marks guard)
  guard_apart (Test e) = exp_apart e p.Atom
  guard_apart (Bind pat e) =
      before (pat_marks pat) (signed t.LeftArrow ++ exp_marks e p.Atom) (pat_name pat).apart
      (behind_sign t.LeftArrow (exp_marks e p.Atom) (exp_apart e p.Atom)) refl

  guards_apart : {m : _} (gs : Row_of-Guard m) → AllApart (guards_marks gs)
  guards_apart end_of-Guard = tt
  guards_apart (more_of-Guard g gs) = (guard_apart g, guards_apart gs)

  alt_name : (alt : Alt) → Name (alt_marks alt)
  alt_name (Alt' pat rhs) =
      let tail = rhs_tail n.Arrow rhs in
      record {
        apart = before (pat_marks pat) (rhs_marks n.Arrow rhs) (pat_name pat).apart tail.apart tail.neutral;
        plain = plain_append (pat_marks pat) (rhs_marks n.Arrow rhs) (pat_name pat).plain
            (neutral_plain (rhs_marks n.Arrow rhs) tail.neutral);
      }

  alts_apart : {m : _} (as' : Row_of-Alt m) → AllApart (alts_marks as')
  alts_apart end_of-Alt = tt
  alts_apart (more_of-Alt alt as') = ((alt_name alt).apart, alts_apart as')

  alts_plain : {m : _} (as' : Row_of-Alt m) → AllPlain (alts_marks as')
  alts_plain end_of-Alt = tt
  alts_plain (more_of-Alt alt as') = ((alt_name alt).plain, alts_plain as')

-- ---- modules

export_cons_tail : (cons : List (List ℕ)) → Tail (cons_marks cons)
export_cons_tail [] = record { apart = tt; neutral = refl }
export_cons_tail (con ∷ cons) = record {
  apart = in_brackets (parted (map con_marks (con ∷ cons)))
      (parted_apart (map con_marks (con ∷ cons)) (names_apart con_marks con_name (con ∷ cons)));
  neutral = refl;
}

export_apart : (export : FlatExport) → Apart (export_marks export)
export_apart export =
    let tail = export_cons_tail export.cons in
    before (flat_marks export.name) (cons_marks export.cons) (exported_name export.name).apart tail.apart tail.neutral

exports_apart : (exports : List FlatExport) → AllApart (map export_marks exports)
exports_apart [] = tt
exports_apart (export ∷ exports) = (export_apart export, exports_apart exports)

-- a line: it is apart, and ends in white space
record Line (ms : Marks) : Type 0 where
  joined : (rest : Marks) → Apart rest → Apart (ms ++ rest)

head_line : (name : List ℕ) (exports : List FlatExport) → Line (head_marks name exports)
head_line name exports = record {
  joined = λ rest h.
      let list = bracketed (parted (map export_marks exports)) in
      let end = space ∷ keyword w.Where ∷ space ∷ Mark.word t.LeftBrace ∷ line_end ∷ [] in
      behind_word w.Module (Mark.word (t.Con name) ∷ space ∷ ((list ++ end) ++ rest))
      (mark_before (Mark.word (t.Con name)) (space ∷ ((list ++ end) ++ rest)) refl
      (behind_blank Blank.gap ((list ++ end) ++ rest)
      (subst Apart (sym (append_assoc list end rest))
      (before list (end ++ rest) (in_brackets (parted (map export_marks exports))
      (parted_apart (map export_marks exports) (exports_apart exports)))
      (behind_blank Blank.gap (keyword w.Where ∷ space ∷ Mark.word t.LeftBrace ∷ line_end ∷ rest)
      (behind_word w.Where (Mark.word t.LeftBrace ∷ line_end ∷ rest)
      (behind_brace (line_end ∷ rest) refl (behind_blank Blank.line rest h)))) refl))));
}

import_line : (name : List ℕ) → Line (import_marks name)
import_line name = record {
  joined = λ rest h.
      behind_word w.Import (Mark.word (t.Var (codes "qualified")) ∷ space ∷ Mark.word (t.Con name)
      ∷ Mark.word t.Semicolon ∷ line_end ∷ rest)
      (mark_before (Mark.word (t.Var (codes "qualified"))) (space ∷ Mark.word (t.Con name) ∷ Mark.word t.Semicolon
      ∷ line_end ∷ rest) refl
      (behind_blank Blank.gap (Mark.word (t.Con name) ∷ Mark.word t.Semicolon ∷ line_end ∷ rest)
      (mark_before (Mark.word (t.Con name)) (Mark.word t.Semicolon ∷ line_end ∷ rest) refl
      (behind_special t.Semicolon (line_end ∷ rest) refl (behind_blank Blank.line rest h)))));
}

decl_line : (decl : Decl) → Line (line_marks decl)
decl_line decl = record {
  joined = λ rest h.
      subst Apart (sym (append_assoc (decl_marks decl) (Mark.word t.Semicolon ∷ line_end ∷ []) rest))
      (before (decl_marks decl) (Mark.word t.Semicolon ∷ line_end ∷ rest) (decl_name decl).apart
      (behind_special t.Semicolon (line_end ∷ rest) refl (behind_blank Blank.line rest h)) refl);
}

lines : {A : Type 0} (g : A → Marks) → ((x : A) → Line (g x)) → (xs : List A) (rest : Marks) → Apart rest
    → Apart (flat_map g xs ++ rest)
lines g is [] rest h = h
lines g is (x ∷ xs) rest h =
    subst Apart (sym (append_assoc (g x) (flat_map g xs) rest))
    ((is x).joined (flat_map g xs ++ rest) (lines g is xs rest h))

-- the marks of a module
pub module_apart : (m : FlatModule) → Apart (module_marks m)
module_apart m =
    (head_line m.name m.exports).joined (import_marks (codes "Prelude") ++ (flat_map import_marks m.imports
    ++ (flat_map line_marks m.decls ++ Mark.word t.RightBrace ∷ line_end ∷ [])))
    ((import_line (codes "Prelude")).joined (flat_map import_marks m.imports
    ++ (flat_map line_marks m.decls ++ Mark.word t.RightBrace ∷ line_end ∷ []))
    (lines import_marks import_line m.imports (flat_map line_marks m.decls ++ Mark.word t.RightBrace ∷ line_end
    ∷ [])
    (lines line_marks decl_line m.decls (Mark.word t.RightBrace ∷ line_end ∷ []) (refl, (refl, tt)))))
