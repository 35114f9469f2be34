-- The braces of a module's marks match, and one stands wherever a block would be due.
use Rattle.std.proofs.Common.{◌≡◌, ℕ, suc, zero, Bool, true, false, List, [], ◌∷◌, ◌++◌, length, map, refl, sym, ap}
use Rattle.std.proofs.Common.{subst, ◌∙◌}
use Rattle.std.proofs.Common.{append_assoc, Ok, if◌then◌else◌}
use Rattle.std.specs.Prelude.{not, ◌&&◌, ◌-◌, codes, replicate}
use Rattle.std.specs.List.{flat_map}
use Rattle.std.specs.Str.{bytes_eq}
use Rattle.bp_base.specs.declared.entity.Assoc.{Assoc}
use Rattle.bp_base.specs.declared.entity.Assoc.TheVariants as o
use Rattle.bp_base.specs.declared.entity.Fixity.{Fixity}
use Rattle.bp_base.specs.declared.ty.OrigName.{OrigName}
use Rattle.hs_tokens.specs.declared.terminal.Terminal.{Terminal}
use Rattle.hs_tokens.specs.declared.terminal.Terminal.TheVariants as t
use Rattle.hs_tokens.specs.declared.word.Word.{Word}
use Rattle.hs_tokens.specs.declared.word.Word.TheVariants as w
use Rattle.hs_tokens.specs.Terminals.{minus}
use Rattle.hs_core.specs.declared.tree.Written.{Written}
use Rattle.hs_core.specs.declared.tree.Written.TheVariants.{WVar, WCon, WApp, WApp'}
use Rattle.hs_core.specs.declared.tree.Written.TheBlock.{end_of-Written, more_of-Written}
use Rattle.hs_core.specs.declared.tree.ConDecl.{ConDecl}
use Rattle.hs_core.specs.declared.tree.FieldDecl.{FieldDecl}
use Rattle.hs_core.specs.declared.tree.Pat.{Pat}
use Rattle.hs_core.specs.declared.tree.Pat.TheVariants.{PVar, PWild, PInt, PChr, PStr, PCon, PCon', PTuple, PTuple'}
use Rattle.hs_core.specs.declared.tree.Pat.TheVariants.{PList, PList', PAs, PAs', PLazy, PLazy'}
use Rattle.hs_core.specs.declared.tree.Pat.TheBlock.{Row_of-Pat, end_of-Pat, more_of-Pat}
use Rattle.hs_core.specs.declared.tree.Decl.{Decl}
use Rattle.hs_core.specs.declared.tree.Decl.TheVariants.{DataDecl, SynonymDecl, TypeSig, FixityOf, Clause, PatBind}
use Rattle.hs_core.specs.declared.tree.Exp.{Exp}
use Rattle.hs_core.specs.declared.tree.Exp.TheVariants.{Local, Global, Int, Chr, Str, Apply, Apply', Lambda, Lambda'}
use Rattle.hs_core.specs.declared.tree.Exp.TheVariants.{Let, Let', If, If', Case, Case', Tuple, Tuple', List as ListOf}
use Rattle.hs_core.specs.declared.tree.Exp.TheVariants.{List' as ListOf', RightSection, RightSection', Annot, Annot'}
use Rattle.hs_core.specs.declared.tree.Rhs.{Rhs, Rhs'}
use Rattle.hs_core.specs.declared.tree.Guard.{Guard}
use Rattle.hs_core.specs.declared.tree.Guard.TheVariants.{Test, Bind}
use Rattle.hs_core.specs.declared.tree.Alt.{Alt, Alt'}
use Rattle.hs_core.specs.declared.tree.Decl.TheBlock.{Row_of-Choice, end_of-Choice, more_of-Choice, Row_of-Decl}
use Rattle.hs_core.specs.declared.tree.Decl.TheBlock.{end_of-Decl, more_of-Decl, Row_of-Guard, end_of-Guard}
use Rattle.hs_core.specs.declared.tree.Decl.TheBlock.{more_of-Guard, Row_of-Exp, end_of-Exp, more_of-Exp, Row_of-Alt}
use Rattle.hs_core.specs.declared.tree.Decl.TheBlock.{end_of-Alt, more_of-Alt}
use Rattle.flat_text.specs.declared.expression.Sign.{Sign}
use Rattle.flat_text.specs.declared.expression.Sign.TheVariants as n
use Rattle.flat_text.specs.declared.flat.FlatExport.{FlatExport}
use Rattle.flat_text.specs.declared.flat.FlatModule.{FlatModule}
use Rattle.flat_text.specs.declared.name.NameForm.{NameForm}
use Rattle.flat_text.specs.declared.name.NameForm.TheVariants as f
use Rattle.flat_text.specs.declared.name.Place.{Place}
use Rattle.flat_text.specs.declared.name.Place.TheVariants as p
use Rattle.flat_text.specs.declared.types.Applied.{Applied}
use Rattle.flat_text.specs.declared.types.Applied.TheVariants as a
use Rattle.flat_text.specs.Marks.{Mark, Marks, Blank, shape_of, piece_of, pieces_of, space, line_end, keyword}
use Rattle.flat_text.specs.Marks.{bracketed}
use Rattle.flat_text.specs.Marks.{listed}
use Rattle.flat_text.specs.Marks.{braced, bracketed_if, led, parted, block, spaced}
use Rattle.flat_text.specs.Names.{form_of, flat_form, flat_name, bare_by, bare_marks, con_by, con_marks, quoted}
use Rattle.flat_text.specs.Names.{bare_op_by, bare_op, flat_by, flat_marks, global_by, global_marks, global_op_by}
use Rattle.flat_text.specs.Names.{global_op}
use Rattle.flat_text.specs.TypeMarks.{Placed, TypeText, applied_form, list_marks, arrow_marks, tuple_marks}
use Rattle.flat_text.specs.TypeMarks.{application_marks, applied_marks, at_atom, below_whole, type_text, type_marks}
use Rattle.flat_text.specs.PatternMarks.{integer_mark, char_mark, string_mark, signed_marks, con_pat_marks, as_marks}
use Rattle.flat_text.specs.PatternMarks.{pat_marks, pats_marks}
use Rattle.flat_text.specs.ExpressionMarks.{signed, sign_marks, apply_marks, lambda_marks, let_marks, if_marks}
use Rattle.flat_text.specs.ExpressionMarks.{case_marks}
use Rattle.flat_text.specs.ExpressionMarks.{annot_marks, section_marks, choice_marks, where_marks, field_marks}
use Rattle.flat_text.specs.ExpressionMarks.{con_decl_marks, data_word, data_marks, synonym_marks, type_sig_marks}
use Rattle.flat_text.specs.ExpressionMarks.{fixity_word, fixity_marks, op_marks, exp_marks, exps_marks, decl_marks}
use Rattle.flat_text.specs.ExpressionMarks.{decls_marks, rhs_marks, choices_marks, guard_marks, guards_marks, alt_marks}
use Rattle.flat_text.specs.ExpressionMarks.{alts_marks}
use Rattle.flat_text.specs.ModuleMarks.{cons_marks, export_marks, head_marks, import_marks, line_marks, module_marks}
use Rattle.hs_tokens.specs.declared.token.Token.{Token}
use Rattle.hs_tokens.specs.declared.token.TokenKind.{TokenKind}
use Rattle.hs_tokens.specs.declared.token.TokenKind.TheVariants as k
use Rattle.hs_tokens.specs.Terminals.{terminal_by, terminal_of, named, is_qualified}
use Rattle.haskell_layout.specs.declared.role.Role.{Role}
use Rattle.haskell_layout.specs.declared.role.Role.TheVariants as r
use Rattle.haskell_layout.specs.Role.{role_by, role_of, terminal_role, makes_due, is_open_brace, is_header}
use Rattle.haskell_layout.specs.Layout.{due_at_start, layout_of}
use Rattle.haskell_layout.specs.Laws.{none_due, matched_by, Matched}
use Rattle.haskell_layout.proofs.AnsweringLemmas.{braces_lay_out}
use Rattle.flat_lex.specs.Pieces.{text_of}
use Rattle.flat_text.specs.Marks.{seen}
use Rattle.flat_laws.specs.Reading.{FlatTextIsRead}
use Rattle.flat_laws.proofs.ReadingLemmas.{marks_read}
use Rattle.flat_laws.proofs.SpacingLemmas.{module_apart}

-- ---- what layout sees of a token is what it sees of its terminal

record Alike (role seen_role : Role) : Type 1 where
  brace : is_open_brace role ≡ is_open_brace seen_role
  due : makes_due role ≡ makes_due seen_role
  header : is_header seen_role ≡ true → is_header role ≡ true
  matched : (depth : ℕ) (Rest : ℕ → Type 0) → matched_by seen_role depth Rest → matched_by role depth Rest

itself : (role : Role) → Alike role role
itself role = record { brace = refl; due = refl; header = λ e. e; matched = λ depth Rest h. h }

name_alike : (header : Bool) → Alike (if header then r.Header else r.Other) r.Other
name_alike true = record { brace = refl; due = refl; header = λ e. refl; matched = λ depth Rest h. h }
name_alike false = itself r.Other

var_alike : (qualified : Bool) (text : List ℕ)
    → Alike (role_by k.Var text) (terminal_role (named qualified (t.QVar text) (t.Var text)))
var_alike true text = name_alike (bytes_eq text (codes "signature"))
var_alike false text = name_alike (bytes_eq text (codes "signature"))

sym_alike : (qualified : Bool) (text : List ℕ)
    → Alike (role_by k.VarSym text) (terminal_role (named qualified (t.QVarSym text) (t.VarSym text)))
sym_alike true text = itself r.Other
sym_alike false text = itself r.Other

kind_alike : (kind : TokenKind) (text : List ℕ) → Alike (role_by kind text) (terminal_role (terminal_by kind text))
kind_alike k.Var text = var_alike (is_qualified text) text
kind_alike k.Con text = itself r.Other
kind_alike k.VarSym text = sym_alike (is_qualified text) text
kind_alike k.ConSym text = itself r.Other
kind_alike k.Reserved text = itself (role_by k.Reserved text)
kind_alike k.Special text = itself (role_by k.Special text)
kind_alike k.Integer text = itself r.Other
kind_alike k.Char text = itself r.Other
kind_alike k.Text text = itself r.Other

alike : (token : Token) → Alike (role_of token) (terminal_role (terminal_of token))
alike token = kind_alike token.kind token.text

-- whether a brace stands wherever a block is due, by terminals
abbrev due_in : Bool → List Terminal → Bool
due_in due [] = not due
due_in due (x ∷ xs) = (if due then is_open_brace (terminal_role x) else true) && due_in (makes_due (terminal_role x)) xs

abbrev matched_in : ℕ → List Terminal → Type 0
matched_in depth [] = depth ≡ 0
matched_in depth (x ∷ xs) = matched_by (terminal_role x) depth (λ next. matched_in next xs)

none_due_is : (due : Bool) (tokens : List Token) → none_due due tokens ≡ due_in due (map terminal_of tokens)
none_due_is due [] = refl
none_due_is due (token ∷ tokens) =
    (λ i. (if due then (alike token).brace i else true) && none_due ((alike token).due i) tokens)
    ∙ ap (λ rest. (if due then is_open_brace (terminal_role (terminal_of token)) else true) && rest)
    (none_due_is (makes_due (terminal_role (terminal_of token))) tokens)

matched_map : (role : Role) (depth : ℕ) (One Other : ℕ → Type 0) → ((n : ℕ) → One n → Other n)
    → matched_by role depth One
    → matched_by role depth Other
matched_map r.OpenBrace depth One Other g h = g (suc depth) h
matched_map r.CloseBrace zero One Other g h = absurd h
matched_map r.CloseBrace (suc depth) One Other g h = g depth h
matched_map r.Semicolon depth One Other g h = g depth h
matched_map r.OpenParen depth One Other g h = g depth h
matched_map r.OpenBracket depth One Other g h = g depth h
matched_map r.CloseParen depth One Other g h = g depth h
matched_map r.CloseBracket depth One Other g h = g depth h
matched_map r.Comma depth One Other g h = g depth h
matched_map r.If depth One Other g h = g depth h
matched_map r.Case depth One Other g h = g depth h
matched_map r.Let depth One Other g h = g depth h
matched_map r.Lambda depth One Other g h = g depth h
matched_map r.Bar depth One Other g h = g depth h
matched_map r.Then depth One Other g h = g depth h
matched_map r.Else depth One Other g h = g depth h
matched_map r.Of depth One Other g h = g depth h
matched_map r.In depth One Other g h = g depth h
matched_map r.Arrow depth One Other g h = g depth h
matched_map r.Equals depth One Other g h = g depth h
matched_map r.Where depth One Other g h = g depth h
matched_map r.Header depth One Other g h = g depth h
matched_map r.Other depth One Other g h = g depth h

matched_is : (tokens : List Token) (depth : ℕ) → matched_in depth (map terminal_of tokens) → Matched depth tokens
matched_is [] depth h = h
matched_is (token ∷ tokens) depth h =
    (alike token).matched depth (λ next. Matched next tokens)
    (matched_map (terminal_role (terminal_of token)) depth (λ next. matched_in next (map terminal_of tokens))
    (λ next. Matched next tokens) (λ next g. matched_is tokens next g) h)

-- ---- marks before which nothing changes

-- from here on braces match and no block is due
abbrev Good : ℕ → Marks → Type 0
Good depth ms = matched_in depth (seen ms) × (due_in false (seen ms) ≡ true)

-- They leave as many blocks open as there were.
record Even (ms : Marks) : Type 0 where
  even : (depth : ℕ) (rest : Marks) → Good depth rest → Good depth (ms ++ rest)

nothing_even : Even []
nothing_even = record { even = λ depth rest g. g }

both_even : (xs ys : Marks) → Even xs → Even ys → Even (xs ++ ys)
both_even xs ys g h = record {
  even = λ depth rest good.
      subst (Good depth) (sym (append_assoc xs ys rest)) (g.even depth (ys ++ rest) (h.even depth rest good));
}

blank_even : (b : Blank) (ms : Marks) → Even ms → Even (Mark.blank b ∷ ms)
blank_even b ms h = record { even = λ depth rest good. h.even depth rest good }

-- marks whose terminals are no braces, and make no block due
word_even : (x : Terminal) (ms : Marks) → Even (Mark.word x ∷ []) → Even ms → Even (Mark.word x ∷ ms)
word_even x ms is h = both_even (Mark.word x ∷ []) ms is h

brackets_even : (ms : Marks) → Even ms → Even (bracketed ms)
brackets_even ms h = record {
  even = λ depth rest good.
      (both_even ms (Mark.word t.RightParen ∷ []) h (record { even = λ depth rest good. good })).even depth rest good;
}

list_even : (ms : Marks) → Even ms → Even (listed ms)
list_even ms h = record {
  even = λ depth rest good.
      (both_even ms (Mark.word t.RightBracket ∷ []) h (record { even = λ depth rest good. good })).even depth rest good;
}

-- a block: one more is open inside
inside : (ms : Marks) → Even ms → (depth : ℕ) (rest : Marks) → Good depth rest
    → Good (suc depth) ((ms ++ Mark.word t.RightBrace ∷ []) ++ rest)
inside ms h depth rest good =
    subst (Good (suc depth)) (sym (append_assoc ms (Mark.word t.RightBrace ∷ []) rest))
    (h.even (suc depth) (Mark.word t.RightBrace ∷ rest) good)

let_even : (ms : Marks) → Even ms → Even (keyword w.Let ∷ space ∷ braced ms)
let_even ms h = record { even = λ depth rest good. inside ms h depth rest good }

of_even : (ms : Marks) → Even ms → Even (keyword w.Of ∷ space ∷ braced ms)
of_even ms h = record { even = λ depth rest good. inside ms h depth rest good }

where_even : (ms : Marks) → Even ms → Even (keyword w.Where ∷ space ∷ braced ms)
where_even ms h = record { even = λ depth rest good. inside ms h depth rest good }

if_even : (b : Bool) (ms : Marks) → Even ms → Even (bracketed_if b ms)
if_even true ms h = brackets_even ms h
if_even false ms h = h

abbrev AllEven : List Marks → Type 0
AllEven [] = Unit {0}
AllEven (ms ∷ parts) = Even ms × AllEven parts

led_even : (lead by : Marks) (parts : List Marks) → Even lead → Even by → AllEven parts → Even (led lead by parts)
led_even lead by [] g is h = nothing_even
led_even lead by (part ∷ parts) g is h =
    both_even lead (part ++ led by by parts) g (both_even part (led by by parts) h.0 (led_even by by parts is is h.1))

space_even : Even (space ∷ [])
space_even = record { even = λ depth rest good. good }

comma_even : Even (Mark.word t.Comma ∷ space ∷ [])
comma_even = record { even = λ depth rest good. good }

semicolon_even : Even (Mark.word t.Semicolon ∷ space ∷ [])
semicolon_even = record { even = λ depth rest good. good }

parted_even : (parts : List Marks) → AllEven parts → Even (parted parts)
parted_even parts h = led_even [] (Mark.word t.Comma ∷ space ∷ []) parts nothing_even comma_even h

spaced_even : (parts : List Marks) → AllEven parts → Even (spaced parts)
spaced_even parts h = led_even (space ∷ []) (space ∷ []) parts space_even space_even h

items_even : (parts : List Marks) → AllEven parts → Even (led [] (Mark.word t.Semicolon ∷ space ∷ []) parts)
items_even parts h = led_even [] (Mark.word t.Semicolon ∷ space ∷ []) parts nothing_even semicolon_even h

-- ---- names

bare_even_by : (form : NameForm) (name : List ℕ) → Even (bare_by form name)
bare_even_by f.VarSym name = record { even = λ depth rest good. good }
bare_even_by f.ConSym name = record { even = λ depth rest good. good }
bare_even_by f.Var name = record { even = λ depth rest good. good }
bare_even_by f.Con name = record { even = λ depth rest good. good }
bare_even_by f.Colon name = record { even = λ depth rest good. good }
bare_even_by f.Arrow name = record { even = λ depth rest good. good }
bare_even_by f.List name = record { even = λ depth rest good. good }
bare_even_by f.Tuple name = record { even = λ depth rest good. good }

con_even_by : (form : NameForm) (name : List ℕ) → Even (con_by form name)
con_even_by f.VarSym name = record { even = λ depth rest good. good }
con_even_by f.ConSym name = record { even = λ depth rest good. good }
con_even_by f.Var name = record { even = λ depth rest good. good }
con_even_by f.Con name = record { even = λ depth rest good. good }
con_even_by f.Colon name = record { even = λ depth rest good. good }
con_even_by f.Arrow name = record { even = λ depth rest good. good }
con_even_by f.List name = record { even = λ depth rest good. good }
con_even_by f.Tuple name = record { even = λ depth rest good. good }

flat_even_by : (form : NameForm) (name : List ℕ) → Even (flat_by form name)
flat_even_by f.VarSym name = record { even = λ depth rest good. good }
flat_even_by f.ConSym name = record { even = λ depth rest good. good }
flat_even_by f.Var name = record { even = λ depth rest good. good }
flat_even_by f.Con name = record { even = λ depth rest good. good }
flat_even_by f.Colon name = record { even = λ depth rest good. good }
flat_even_by f.Arrow name = record { even = λ depth rest good. good }
flat_even_by f.List name = record { even = λ depth rest good. good }
flat_even_by f.Tuple name = record { even = λ depth rest good. good }

bare_op_even_by : (form : NameForm) (name : List ℕ) → Even (bare_op_by form name)
bare_op_even_by f.VarSym name = record { even = λ depth rest good. good }
bare_op_even_by f.ConSym name = record { even = λ depth rest good. good }
bare_op_even_by f.Var name = record { even = λ depth rest good. good }
bare_op_even_by f.Con name = record { even = λ depth rest good. good }
bare_op_even_by f.Colon name = record { even = λ depth rest good. good }
bare_op_even_by f.Arrow name = record { even = λ depth rest good. good }
bare_op_even_by f.List name = record { even = λ depth rest good. good }
bare_op_even_by f.Tuple name = record { even = λ depth rest good. good }

global_op_even_by : (form : NameForm) (name : List ℕ) → Even (global_op_by form name)
global_op_even_by f.VarSym name = record { even = λ depth rest good. good }
global_op_even_by f.ConSym name = record { even = λ depth rest good. good }
global_op_even_by f.Var name = record { even = λ depth rest good. good }
global_op_even_by f.Con name = record { even = λ depth rest good. good }
global_op_even_by f.Colon name = record { even = λ depth rest good. good }
global_op_even_by f.Arrow name = record { even = λ depth rest good. good }
global_op_even_by f.List name = record { even = λ depth rest good. good }
global_op_even_by f.Tuple name = record { even = λ depth rest good. good }

commas_even : (count : ℕ) → Even (replicate count (Mark.word t.Comma))
commas_even zero = nothing_even
commas_even (suc count) =
    word_even t.Comma (replicate count (Mark.word t.Comma)) (record { even = λ depth rest good. good })
    (commas_even count)

global_even_by : (form : NameForm) (occ flat : List ℕ) → Even (global_by form occ flat)
global_even_by f.Colon occ flat = record { even = λ depth rest good. good }
global_even_by f.Arrow occ flat = record { even = λ depth rest good. good }
global_even_by f.List occ flat = record { even = λ depth rest good. good }
global_even_by f.Tuple occ flat =
    brackets_even (replicate (length occ - 2) (Mark.word t.Comma)) (commas_even (length occ - 2))
global_even_by f.VarSym occ flat = flat_even_by f.VarSym flat
global_even_by f.ConSym occ flat = flat_even_by f.ConSym flat
global_even_by f.Var occ flat = flat_even_by f.Var flat
global_even_by f.Con occ flat = flat_even_by f.Con flat

bare_even : (name : List ℕ) → Even (bare_marks name)
unfolding bare_marks
bare_even name = bare_even_by (form_of name) name

con_even : (name : List ℕ) → Even (con_marks name)
unfolding con_marks
con_even name = con_even_by (form_of name) name

exported_even : (name : List ℕ) → Even (flat_marks name)
unfolding flat_marks
exported_even name = flat_even_by (flat_form false name) name

global_even : (name : OrigName) → Even (global_marks name)
unfolding global_marks
global_even name = global_even_by (form_of name.occ) name.occ (flat_name name)

bare_op_even : (name : List ℕ) → Even (bare_op name)
unfolding bare_op
bare_op_even name = bare_op_even_by (form_of name) name

global_op_even : (name : OrigName) → Even (global_op name)
unfolding global_op
global_op_even name = global_op_even_by (form_of name.occ) (flat_name name)

names_even : (g : List ℕ → Marks) → ((name : List ℕ) → Even (g name)) → (names : List (List ℕ)) → AllEven (map g names)
names_even g is [] = tt
names_even g is (name ∷ names) = (is name, names_even g is names)

-- ---- types

abbrev ArgsEven : List Placed → Type 0
ArgsEven [] = Unit {0}
ArgsEven (arg ∷ args) = ((place : Place) → Even (arg place)) × ArgsEven args

record TypeEven (ty : TypeText) : Type 0 where
  name : Even ty.name
  args : ArgsEven ty.args
  text : (place : Place) → Even (ty.text place)

more_args : (args : List Placed) (last : Placed) → ArgsEven args → ((place : Place) → Even (last place))
    → ArgsEven (args ++ last ∷ [])
more_args [] last h g = (g, tt)
more_args (arg ∷ args) last h g = (h.0, more_args args last h.1 g)

args_even : (g : Placed → Marks) → ((arg : Placed) → ((place : Place) → Even (arg place)) → Even (g arg))
    → (args : List Placed)
    → ArgsEven args → Even (flat_map g args)
args_even g is [] h = nothing_even
args_even g is (arg ∷ args) h = both_even (g arg) (flat_map g args) (is arg h.0) (args_even g is args h.1)

arrow_even : Even (signed t.Arrow)
arrow_even = record { even = λ depth rest good. good }

applied_even : (form : Applied) (name : Marks) (args : List Placed) (last : Placed) → Even name → ArgsEven args
    → ((place : Place) → Even (last place)) → (place : Place) → Even (applied_marks form name args last place)
applied_even a.List name args last n h g place = list_even (last p.Whole) (g p.Whole)
applied_even a.Arrow name args last n h g place =
    if_even (below_whole place) (arrow_marks args last)
    (both_even (flat_map (λ (arg : Placed). arg p.Operand ++ signed t.Arrow) args) (last p.Whole)
    (args_even (λ (arg : Placed). arg p.Operand ++ signed t.Arrow)
    (λ arg each. both_even (arg p.Operand) (signed t.Arrow) (each p.Operand) arrow_even) args h)
    (g p.Whole))
applied_even a.Tuple name args last n h g place =
    brackets_even (flat_map (λ (arg : Placed). arg p.Whole ++ Mark.word t.Comma ∷ space ∷ []) args ++ last p.Whole)
    (both_even (flat_map (λ (arg : Placed). arg p.Whole ++ Mark.word t.Comma ∷ space ∷ []) args) (last p.Whole)
    (args_even (λ (arg : Placed). arg p.Whole ++ Mark.word t.Comma ∷ space ∷ [])
    (λ arg each. both_even (arg p.Whole) (Mark.word t.Comma ∷ space ∷ []) (each p.Whole) comma_even) args
    h) (g p.Whole))
applied_even a.Other name args last n h g place =
    if_even (at_atom place) (application_marks name args last)
    (both_even name (flat_map (λ (arg : Placed). space ∷ arg p.Atom) args ++ space ∷ last p.Atom) n
    (both_even (flat_map (λ (arg : Placed). space ∷ arg p.Atom) args) (space ∷ last p.Atom)
    (args_even (λ (arg : Placed). space ∷ arg p.Atom)
    (λ arg each. blank_even Blank.gap (arg p.Atom) (each p.Atom)) args h)
    (blank_even Blank.gap (last p.Atom) (g p.Atom))))

type_even : (ty : Written) → TypeEven (type_text ty)
type_even (WVar name) = record {
  name = record { even = λ depth rest good. good };
  args = tt;
  text = λ place. record { even = λ depth rest good. good };
}
type_even (WCon name) = record { name = global_even name; args = tt; text = λ place. global_even name }
type_even (WApp' s' (more_of-Written g end_of-Written) z (more_of-Written x end_of-Written)) =
    let fun = type_even g in
    let last = type_even x in
    record {
      name = fun.name;
      args = more_args (type_text g).args (type_text x).text fun.args last.text;
      text = applied_even (applied_form (type_text g).head (length (type_text g).args)) (type_text g).name
          (type_text g).args
          (type_text x).text fun.name fun.args last.text;
    }

types_even : (ty : Written) (place : Place) → Even (type_marks ty place)
unfolding type_marks
types_even ty place = (type_even ty).text place

-- ---- patterns

signed_even : (negative : Bool) (value : ℕ) → Even (signed_marks negative value)
signed_even false value = record { even = λ depth rest good. good }
signed_even true value = record { even = λ depth rest good. good }

con_pat_even : (name : Marks) (parts : List Marks) → Even name → AllEven parts → Even (con_pat_marks name parts)
con_pat_even name [] n h = n
con_pat_even name (part ∷ parts) n h =
    brackets_even (name ++ spaced (part ∷ parts)) (both_even name (spaced (part ∷ parts)) n
    (spaced_even (part ∷ parts) h))

mutual
  pat_even : (pat : Pat) → Even (pat_marks pat)
  pat_even (PVar name) = bare_even name
  pat_even PWild = record { even = λ depth rest good. good }
  pat_even (PInt negative value) = signed_even negative value
  pat_even (PChr code) = record { even = λ depth rest good. good }
  pat_even (PStr text) = record { even = λ depth rest good. good }
  pat_even (PCon' name s' ps) = con_pat_even (global_marks name) (pats_marks ps) (global_even name) (pats_even ps)
  pat_even (PTuple' s' ps) = brackets_even (parted (pats_marks ps)) (parted_even (pats_marks ps) (pats_even ps))
  pat_even (PList' s' ps) = list_even (parted (pats_marks ps)) (parted_even (pats_marks ps) (pats_even ps))
  pat_even (PAs' name s' (more_of-Pat inner end_of-Pat)) =
      both_even (bare_marks name) (Mark.word t.At ∷ pat_marks inner) (bare_even name)
      (word_even t.At (pat_marks inner) (record { even = λ depth rest good. good }) (pat_even inner))
  pat_even (PLazy' s' (more_of-Pat inner end_of-Pat)) =
      brackets_even (Mark.word t.Tilde ∷ pat_marks inner)
      (word_even t.Tilde (pat_marks inner) (record { even = λ depth rest good. good }) (pat_even inner))

  pats_even : {m : _} (ps : Row_of-Pat m) → AllEven (pats_marks ps)
  pats_even end_of-Pat = tt
  pats_even (more_of-Pat pat ps) = (pat_even pat, pats_even ps)

each_even : (ps : List Pat) → AllEven (map pat_marks ps)
each_even [] = tt
each_even (pat ∷ ps) = (pat_even pat, each_even ps)

-- ---- declarations of types

equals_even : Even (signed t.Equals)
equals_even = record { even = λ depth rest good. good }

bar_even : Even (signed t.Bar)
bar_even = record { even = λ depth rest good. good }

double_colon_even : Even (signed t.DoubleColon)
double_colon_even = record { even = λ depth rest good. good }

field_even : (field : FieldDecl) → Even (field_marks field)
field_even field = by field.strict field.ty
  where
    by : (strict : Bool) (ty : Written) → Even (field_marks (record { strict = strict; ty = ty }))
    by true ty = word_even (t.VarSym (codes "!")) (type_marks ty p.Atom) (record { even = λ depth rest good. good })
        (types_even ty p.Atom)
    by false ty = types_even ty p.Atom

fields_even : (fields : List FieldDecl) → AllEven (map field_marks fields)
fields_even [] = tt
fields_even (field ∷ fields) = (field_even field, fields_even fields)

cons_even : (cons : List ConDecl) → AllEven (map con_decl_marks cons)
cons_even [] = tt
cons_even (con ∷ cons) = (
  both_even (con_marks con.occ) (spaced (map field_marks con.fields)) (con_even con.occ)
      (spaced_even (map field_marks con.fields) (fields_even con.fields)),
  cons_even cons,
)

data_word_even : (is_new : Bool) → Even (keyword (data_word is_new) ∷ space ∷ [])
data_word_even true = record { even = λ depth rest good. good }
data_word_even false = record { even = λ depth rest good. good }

data_even : (occ : List ℕ) (is_new : Bool) (params : List (List ℕ)) (cons : List ConDecl)
    → Even (data_marks occ is_new params cons)
data_even occ is_new params cons =
    let con_list = led (signed t.Equals) (signed t.Bar) (map con_decl_marks cons) in
    both_even (keyword (data_word is_new) ∷ space ∷ []) (con_marks occ ++ (spaced (map bare_marks params) ++ con_list))
    (data_word_even is_new)
    (both_even (con_marks occ) (spaced (map bare_marks params) ++ con_list) (con_even occ)
    (both_even (spaced (map bare_marks params)) con_list
    (spaced_even (map bare_marks params) (names_even bare_marks bare_even params))
    (led_even (signed t.Equals) (signed t.Bar) (map con_decl_marks cons) equals_even bar_even
    (cons_even cons))))

synonym_even : (occ : List ℕ) (params : List (List ℕ)) (body : Written) → Even (synonym_marks occ params body)
synonym_even occ params body =
    both_even (keyword w.Type ∷ space ∷ []) (con_marks occ ++
    (spaced (map bare_marks params) ++ (signed t.Equals ++ type_marks body p.Whole)))
    (record { even = λ depth rest good. good })
    (both_even (con_marks occ) (spaced (map bare_marks params) ++ (signed t.Equals ++ type_marks body p.Whole))
    (con_even occ)
    (both_even (spaced (map bare_marks params)) (signed t.Equals ++ type_marks body p.Whole)
    (spaced_even (map bare_marks params) (names_even bare_marks bare_even params))
    (both_even (signed t.Equals) (type_marks body p.Whole) equals_even (types_even body p.Whole))))

type_sig_even : (occ : List ℕ) (ty : Written) → Even (type_sig_marks occ ty)
type_sig_even occ ty =
    both_even (bare_marks occ) (signed t.DoubleColon ++ type_marks ty p.Whole) (bare_even occ)
    (both_even (signed t.DoubleColon) (type_marks ty p.Whole) double_colon_even (types_even ty p.Whole))

fixity_word_even : (assoc : Assoc) (level : ℕ) → Even (keyword (fixity_word assoc) ∷ space ∷ integer_mark level ∷ space
    ∷ [])
fixity_word_even o.Left level = record { even = λ depth rest good. good }
fixity_word_even o.Right level = record { even = λ depth rest good. good }
fixity_word_even o.Neither level = record { even = λ depth rest good. good }

fixity_even : (occ : List ℕ) (fixity : Fixity) → Even (fixity_marks occ fixity)
fixity_even occ fixity =
    both_even (keyword (fixity_word fixity.assoc) ∷ space ∷ integer_mark fixity.level ∷ space ∷ []) (bare_op occ)
    (fixity_word_even fixity.assoc fixity.level) (bare_op_even occ)

-- ---- expressions

lambda_even : (ps : List Pat) (body : Marks) → Even body → Even (lambda_marks (map pat_marks ps) body)
lambda_even ps body h =
    both_even (Mark.word t.Backslash ∷ []) (led [] (space ∷ []) (map pat_marks ps) ++ (signed t.Arrow ++ body))
    (record { even = λ depth rest good. good })
    (both_even (led [] (space ∷ []) (map pat_marks ps)) (signed t.Arrow ++ body)
    (led_even [] (space ∷ []) (map pat_marks ps) nothing_even space_even (each_even ps))
    (both_even (signed t.Arrow) body arrow_even h))

let_in_even : (decls : List Marks) (body : Marks) → AllEven decls → Even body → Even (let_marks decls body)
let_in_even decls body g h =
    both_even (keyword w.Let ∷ space ∷ block decls) (space ∷ keyword w.In ∷ space ∷ body)
    (let_even (led [] (Mark.word t.Semicolon ∷ space ∷ []) decls) (items_even decls g))
    (both_even (space ∷ keyword w.In ∷ space ∷ []) body (record { even = λ depth rest good. good }) h)

choice_if_even : (test one other : Marks) → Even test → Even one → Even other → Even (if_marks test one other)
choice_if_even test one other g h l =
    both_even (keyword w.If ∷ space ∷ []) (test ++ space ∷ keyword w.Then ∷ space
    ∷ (one ++ space ∷ keyword w.Else ∷ space ∷ other))
    (record { even = λ depth rest good. good })
    (both_even test (space ∷ keyword w.Then ∷ space ∷ (one ++ space ∷ keyword w.Else ∷ space ∷ other)) g
    (both_even (space ∷ keyword w.Then ∷ space ∷ []) (one ++ space ∷ keyword w.Else ∷ space ∷ other)
    (record { even = λ depth rest good. good })
    (both_even one (space ∷ keyword w.Else ∷ space ∷ other) h
    (both_even (space ∷ keyword w.Else ∷ space ∷ []) other (record { even = λ depth rest good. good })
    l))))

case_even : (of' : Marks) (alts : List Marks) → Even of' → AllEven alts → Even (case_marks of' alts)
case_even of' alts g h =
    both_even (keyword w.Case ∷ space ∷ []) (of' ++ space ∷ keyword w.Of ∷ space ∷ block alts)
    (record { even = λ depth rest good. good })
    (both_even of' (space ∷ keyword w.Of ∷ space ∷ block alts) g
    (blank_even Blank.gap (keyword w.Of ∷ space ∷ block alts)
    (of_even (led [] (Mark.word t.Semicolon ∷ space ∷ []) alts) (items_even alts h))))

sign_marks_even : (sign : Sign) → Even (sign_marks sign)
sign_marks_even n.Equals = equals_even
sign_marks_even n.Arrow = arrow_even

choice_even : (sign : Sign) (guards : List Marks) (exp : Marks) → AllEven guards → Even exp
    → Even (choice_marks sign guards exp)
choice_even sign guards exp g h =
    both_even (led (signed t.Bar) (Mark.word t.Comma ∷ space ∷ []) guards) (sign_marks sign ++ exp)
    (led_even (signed t.Bar) (Mark.word t.Comma ∷ space ∷ []) guards bar_even comma_even g)
    (both_even (sign_marks sign) exp (sign_marks_even sign) h)

locals_even : (decls : List Marks) → AllEven decls → Even (where_marks decls)
locals_even [] h = nothing_even
locals_even (decl ∷ decls) h =
    blank_even Blank.gap (keyword w.Where ∷ space ∷ block (decl ∷ decls))
    (where_even (led [] (Mark.word t.Semicolon ∷ space ∷ []) (decl ∷ decls)) (items_even (decl ∷ decls) h))

op_even : (op : Exp) → Even (op_marks op)
op_even (Local name) = bare_op_even name
op_even (Global name) = global_op_even name
op_even (Int value) = nothing_even
op_even (Chr code) = nothing_even
op_even (Str text) = nothing_even
op_even (Apply' s' e z es) = nothing_even
op_even (Lambda' ps s' e) = nothing_even
op_even (Let' s' ds z e) = nothing_even
op_even (If' s' a' y b z c) = nothing_even
op_even (Case' s' e z as') = nothing_even
op_even (Tuple' s' es) = nothing_even
op_even (ListOf' s' es) = nothing_even
op_even (RightSection' s' o' z a') = nothing_even
op_even (Annot' s' e ty) = nothing_even

mutual
  exp_even : (e : Exp) (place : Place) → Even (exp_marks e place)
  exp_even (Local name) place = bare_even name
  exp_even (Global name) place = global_even name
  exp_even (Int value) place = record { even = λ depth rest good. good }
  exp_even (Chr code) place = record { even = λ depth rest good. good }
  exp_even (Str text) place = record { even = λ depth rest good. good }
  exp_even (Apply' s' (more_of-Exp e end_of-Exp) z es) place =
      if_even (at_atom place) (apply_marks (exp_marks e p.Atom) (exps_marks es p.Atom))
      (both_even (exp_marks e p.Atom) (spaced (exps_marks es p.Atom)) (exp_even e p.Atom)
      (spaced_even (exps_marks es p.Atom) (exps_even es p.Atom)))
  exp_even (Lambda' ps s' (more_of-Exp e end_of-Exp)) place =
      if_even (at_atom place) (lambda_marks (map pat_marks ps) (exp_marks e p.Whole))
      (lambda_even ps (exp_marks e p.Whole) (exp_even e p.Whole))
  exp_even (Let' s' ds z (more_of-Exp e end_of-Exp)) place =
      if_even (at_atom place) (let_marks (decls_marks ds) (exp_marks e p.Whole))
      (let_in_even (decls_marks ds) (exp_marks e p.Whole) (decls_even ds) (exp_even e p.Whole))
  exp_even (If' s' (more_of-Exp a' end_of-Exp) y (more_of-Exp b end_of-Exp) z (more_of-Exp c end_of-Exp)) place =
      if_even (at_atom place) (if_marks (exp_marks a' p.Whole) (exp_marks b p.Whole) (exp_marks c p.Whole))
      (choice_if_even (exp_marks a' p.Whole) (exp_marks b p.Whole) (exp_marks c p.Whole) (exp_even a' p.Whole)
      (exp_even b p.Whole) (exp_even c p.Whole))
  exp_even (Case' s' (more_of-Exp e end_of-Exp) z as') place =
      if_even (at_atom place) (case_marks (exp_marks e p.Whole) (alts_marks as'))
      (case_even (exp_marks e p.Whole) (alts_marks as') (exp_even e p.Whole) (alts_even as'))
  exp_even (Tuple' s' es) place =
      brackets_even (parted (exps_marks es p.Whole)) (parted_even (exps_marks es p.Whole) (exps_even es p.Whole))
  exp_even (ListOf' s' es) place =
      list_even (parted (exps_marks es p.Whole)) (parted_even (exps_marks es p.Whole) (exps_even es p.Whole))
  exp_even (RightSection' s' (more_of-Exp o' end_of-Exp) z (more_of-Exp a' end_of-Exp)) place =
      brackets_even (op_marks o' ++ space ∷ exp_marks a' p.Atom)
      (both_even (op_marks o') (space ∷ exp_marks a' p.Atom) (op_even o')
      (blank_even Blank.gap (exp_marks a' p.Atom) (exp_even a' p.Atom)))
  exp_even (Annot' s' (more_of-Exp e end_of-Exp) ty) place =
      if_even (at_atom place) (annot_marks (exp_marks e p.Atom) (type_marks ty p.Whole))
      (both_even (exp_marks e p.Atom) (signed t.DoubleColon ++ type_marks ty p.Whole) (exp_even e p.Atom)
      (both_even (signed t.DoubleColon) (type_marks ty p.Whole) double_colon_even (types_even ty p.Whole)))

  exps_even : {m : _} (es : Row_of-Exp m) (place : Place) → AllEven (exps_marks es place)
  exps_even end_of-Exp place = tt
  exps_even (more_of-Exp e es) place = (exp_even e place, exps_even es place)

  decl_even : (decl : Decl) → Even (decl_marks decl)
  decl_even (DataDecl occ is_new params cons) = data_even occ is_new params cons
  decl_even (SynonymDecl occ params body) = synonym_even occ params body
  decl_even (TypeSig occ ty) = type_sig_even occ ty
  decl_even (FixityOf occ fixity) = fixity_even occ fixity
  decl_even (Clause occ ps rhs) =
      both_even (bare_marks occ) (spaced (map pat_marks ps) ++ rhs_marks n.Equals rhs) (bare_even occ)
      (both_even (spaced (map pat_marks ps)) (rhs_marks n.Equals rhs)
      (spaced_even (map pat_marks ps) (each_even ps))
      (rhs_even n.Equals rhs))
  decl_even (PatBind pat rhs) = both_even (pat_marks pat) (rhs_marks n.Equals rhs) (pat_even pat)
      (rhs_even n.Equals rhs)

  decls_even : {m : _} (ds : Row_of-Decl m) → AllEven (decls_marks ds)
  decls_even end_of-Decl = tt
  decls_even (more_of-Decl d ds) = (decl_even d, decls_even ds)

  rhs_even : (sign : Sign) (rhs : Rhs) → Even (rhs_marks sign rhs)
  rhs_even sign (Rhs' s' cs z ds) =
      both_even (choices_marks sign cs) (where_marks (decls_marks ds)) (choices_even sign cs)
      (locals_even (decls_marks ds) (decls_even ds))

  choices_even : {m : _} (sign : Sign) (cs : Row_of-Choice m) → Even (choices_marks sign cs)
  choices_even sign end_of-Choice = nothing_even
  choices_even sign (more_of-Choice s' gs e cs) =
      both_even (choice_marks sign (guards_marks gs) (exp_marks e p.Whole)) (choices_marks sign cs)
      (choice_even sign (guards_marks gs) (exp_marks e p.Whole) (guards_even gs) (exp_even e p.Whole))
      (choices_even sign cs)

  guard_even : (guard : Guard) → Even (guard_marks guard)
  guard_even (Test e) = exp_even e p.Atom
  guard_even (Bind pat e) =
      both_even (pat_marks pat) (signed t.LeftArrow ++ exp_marks e p.Atom) (pat_even pat)
      (both_even (signed t.LeftArrow) (exp_marks e p.Atom) (record { even = λ depth rest good. good })
      (exp_even e p.Atom))

  guards_even : {m : _} (gs : Row_of-Guard m) → AllEven (guards_marks gs)
  guards_even end_of-Guard = tt
  guards_even (more_of-Guard g gs) = (guard_even g, guards_even gs)

  alt_even : (alt : Alt) → Even (alt_marks alt)
  alt_even (Alt' pat rhs) = both_even (pat_marks pat) (rhs_marks n.Arrow rhs) (pat_even pat) (rhs_even n.Arrow rhs)

  alts_even : {m : _} (as' : Row_of-Alt m) → AllEven (alts_marks as')
  alts_even end_of-Alt = tt
  alts_even (more_of-Alt alt as') = (alt_even alt, alts_even as')

-- ---- modules

cons_list_even : (cons : List (List ℕ)) → Even (cons_marks cons)
cons_list_even [] = nothing_even
cons_list_even (con ∷ cons) =
    brackets_even (parted (map con_marks (con ∷ cons)))
    (parted_even (map con_marks (con ∷ cons)) (names_even con_marks con_even (con ∷ cons)))

exports_even : (exports : List FlatExport) → AllEven (map export_marks exports)
exports_even [] = tt
exports_even (export ∷ exports) = (
  both_even (flat_marks export.name) (cons_marks export.cons) (exported_even export.name)
      (cons_list_even export.cons),
  exports_even exports,
)

import_even : (name : List ℕ) → Even (import_marks name)
import_even name = record { even = λ depth rest good. good }

line_even : (decl : Decl) → Even (line_marks decl)
line_even decl =
    both_even (decl_marks decl) (Mark.word t.Semicolon ∷ line_end ∷ []) (decl_even decl)
    (record { even = λ depth rest good. good })

lines_even : {A : Type 0} (g : A → Marks) → ((x : A) → Even (g x)) → (xs : List A) → Even (flat_map g xs)
lines_even g is [] = nothing_even
lines_even g is (x ∷ xs) = both_even (g x) (flat_map g xs) (is x) (lines_even g is xs)

-- the head opens the module's block
head_good : (name : List ℕ) (exports : List FlatExport) (rest : Marks) → Good 1 rest
    → Good 0 (head_marks name exports ++ rest)
head_good name exports rest good =
    let list = bracketed (parted (map export_marks exports)) in
    let end = space ∷ keyword w.Where ∷ space ∷ Mark.word t.LeftBrace ∷ line_end ∷ [] in
    subst (Good 0) (sym (append_assoc list end rest))
    ((brackets_even (parted (map export_marks exports)) (parted_even (map export_marks exports)
    (exports_even exports))).even 0
    (end ++ rest) good)

module_good : (m : FlatModule) → Good 0 (module_marks m)
module_good m =
    let close = Mark.word t.RightBrace ∷ line_end ∷ [] in
    head_good m.name m.exports (import_marks (codes "Prelude")
    ++ (flat_map import_marks m.imports ++ (flat_map line_marks m.decls ++ close)))
    ((import_even (codes "Prelude")).even 1 (flat_map import_marks m.imports
    ++ (flat_map line_marks m.decls ++ close))
    ((lines_even import_marks import_even m.imports).even 1 (flat_map line_marks m.decls ++ close)
    ((lines_even line_marks line_even m.decls).even 1 close (refl, refl))))

-- ---- the tokens of a module

begins_header : (tokens : List Token) (rest : List Terminal) → map terminal_of tokens ≡ t.Word w.Module ∷ rest
    → due_at_start tokens ≡ false
begins_header [] rest e = cc
begins_header (token ∷ tokens) rest e =
    ap (λ v. if v then false else true) ((alike token).header
    (ap (λ x. is_header (terminal_role x)) (first_is _ _ _ _ e)))
  where
    first_is : (x y : Terminal) (xs ys : List Terminal) → x ∷ xs ≡ y ∷ ys → x ≡ y
    first_is x y xs ys e = cc

pub module_read : FlatTextIsRead
module_read m lawful =
    let read = marks_read (module_marks m) lawful (module_apart m) in
    let good = module_good m in
    record {
      tokens = read.tokens;
      covered = read.covered;
      laid_out = braces_lay_out read.tokens (length (text_of (pieces_of (module_marks m))))
          (none_due_is (due_at_start read.tokens) read.tokens
          ∙ (λ i. due_in (begins_header read.tokens _ read.terminals_are i) (read.terminals_are i)) ∙ good.1)
          (matched_is read.tokens 0 (subst (matched_in 0) (sym read.terminals_are) good.0));
      terminals_are = read.terminals_are;
    }
