-- The literals of a module are read as themselves, form by form.
use Rattle.std.proofs.Common.{◌≡◌, ℕ, zero, suc, ◌-◌, ◌≤◌, Bool, true, false, List, [], ◌∷◌, ◌++◌, length, map, subst}
use Rattle.std.specs.Prelude.{replicate, ◌&&◌, nat_le}
use Rattle.std.specs.List.{flat_map}
use Rattle.std.specs.Fmt.{decimal}
use Rattle.std.proofs.lemmas.Bool.{and_parts, leb-true}
use Rattle.bp_base.specs.declared.ty.OrigName.{OrigName}
use Rattle.hs_forms.specs.Limits.{all_of}
use Rattle.hs_tokens.specs.declared.terminal.Terminal.{Terminal}
use Rattle.hs_tokens.specs.declared.terminal.Terminal.TheVariants as t
use Rattle.hs_tokens.specs.declared.word.Word.TheVariants as w
use Rattle.hs_core.specs.declared.tree.Written.{Written}
use Rattle.hs_core.specs.declared.tree.Written.TheVariants.{WVar, WCon, WApp'}
use Rattle.hs_core.specs.declared.tree.Written.TheBlock.{end_of-Written, more_of-Written}
use Rattle.hs_core.specs.declared.tree.Pat.{Pat}
use Rattle.hs_core.specs.declared.tree.Pat.TheVariants.{PVar, PWild, PInt, PChr, PStr, PCon', PTuple'}
use Rattle.hs_core.specs.declared.tree.Pat.TheVariants.{PList', PAs', PLazy'}
use Rattle.hs_core.specs.declared.tree.Pat.TheBlock.{Row_of-Pat, end_of-Pat, more_of-Pat}
use Rattle.hs_core.specs.declared.tree.ConDecl.{ConDecl}
use Rattle.hs_core.specs.declared.tree.FieldDecl.{FieldDecl}
use Rattle.hs_core.specs.declared.tree.Decl.{Decl}
use Rattle.hs_core.specs.declared.tree.Decl.TheVariants.{DataDecl, SynonymDecl, TypeSig, FixityOf, Clause, PatBind}
use Rattle.hs_core.specs.declared.tree.Exp.{Exp}
use Rattle.hs_core.specs.declared.tree.Exp.TheVariants.{Local, Global, Int, Chr, Str, Apply', Lambda', Let', If', Case'}
use Rattle.hs_core.specs.declared.tree.Exp.TheVariants.{Tuple', List' as ListOf', RightSection', Annot'}
use Rattle.hs_core.specs.declared.tree.Rhs.{Rhs, Rhs'}
use Rattle.hs_core.specs.declared.tree.Guard.{Guard}
use Rattle.hs_core.specs.declared.tree.Guard.TheVariants.{Test, Bind}
use Rattle.hs_core.specs.declared.tree.Alt.{Alt, Alt'}
use Rattle.hs_core.specs.declared.tree.Decl.TheBlock.{Row_of-Choice, end_of-Choice, more_of-Choice, Row_of-Decl}
use Rattle.hs_core.specs.declared.tree.Decl.TheBlock.{end_of-Decl, more_of-Decl, Row_of-Guard, end_of-Guard}
use Rattle.hs_core.specs.declared.tree.Decl.TheBlock.{more_of-Guard, Row_of-Exp, end_of-Exp, more_of-Exp, Row_of-Alt}
use Rattle.hs_core.specs.declared.tree.Decl.TheBlock.{end_of-Alt, more_of-Alt}
use Rattle.flat_lex.specs.Literals.{AreCodes}
use Rattle.flat_text.specs.declared.expression.Sign.{Sign}
use Rattle.flat_text.specs.declared.expression.Sign.TheVariants as n
use Rattle.flat_text.specs.declared.flat.FlatExport.{FlatExport}
use Rattle.flat_text.specs.declared.flat.FlatModule.{FlatModule}
use Rattle.flat_text.specs.declared.name.NameForm.{NameForm}
use Rattle.flat_text.specs.declared.name.NameForm.TheVariants as f
use Rattle.flat_text.specs.declared.name.Place.{Place}
use Rattle.flat_text.specs.declared.name.Place.TheVariants as p
use Rattle.flat_text.specs.declared.types.Applied.{Applied}
use Rattle.flat_text.specs.declared.types.Applied.TheVariants as a
use Rattle.flat_text.specs.Marks.{Mark, Marks, space, line_end, bracketed, bracketed_if, listed, led, parted, block}
use Rattle.flat_text.specs.Marks.{spaced}
use Rattle.flat_text.specs.Names.{form_of, flat_form, flat_name, bare_by, bare_marks, con_by, con_marks, bare_op_by}
use Rattle.flat_text.specs.Names.{bare_op, flat_by, flat_marks, global_by, global_marks, global_op_by, global_op}
use Rattle.flat_text.specs.TypeMarks.{Placed, TypeText, at_atom, below_whole, applied_form, arrow_marks}
use Rattle.flat_text.specs.TypeMarks.{application_marks, applied_marks, type_text, type_marks}
use Rattle.flat_text.specs.PatternMarks.{signed_marks, con_pat_marks, pat_marks, pats_marks, char_mark, string_mark}
use Rattle.flat_text.specs.ExpressionMarks.{signed, sign_marks, choice_marks, where_marks, field_marks, con_decl_marks}
use Rattle.flat_text.specs.ExpressionMarks.{op_marks, exp_marks, exps_marks, decl_marks, decls_marks, rhs_marks}
use Rattle.flat_text.specs.ExpressionMarks.{choices_marks, guard_marks, guards_marks, alt_marks, alts_marks}
use Rattle.flat_text.specs.ExpressionMarks.{apply_marks, lambda_marks, let_marks, if_marks, case_marks, annot_marks}
use Rattle.flat_text.specs.ModuleMarks.{cons_marks, export_marks, head_marks, import_marks, line_marks, module_marks}
use Rattle.flat_laws.specs.Reading.{IsLawful}
use Rattle.flat_laws.proofs.LawfulLemmas.{names_lawful}
use Rattle.flat_lines.specs.Lines.{keeps_line}
use Rattle.flat_lines.proofs.KeepLemmas.{names_kept}
use Rattle.flat_printable.specs.Literals.{is_integer, is_code, are_codes, has_literals_pat, have_literals_pats}
use Rattle.flat_printable.specs.Literals.{has_literals_exp, have_literals_exps, has_literals_decl, have_literals_decls}
use Rattle.flat_printable.specs.Literals.{has_literals_rhs, have_literals_choices, has_literals_guard}
use Rattle.flat_printable.specs.Literals.{have_literals_guards, has_literals_alt, have_literals_alts}

-- a terminal that is read as itself, and stands on one line
pub record IsRead (x : Terminal) : Type 0 where
  pub lawful : IsLawful x
  pub keeps : keeps_line x ≡ true

-- a literal that is read as itself, before others; of other terminals nothing is said
abbrev pub with_literal : Terminal → Type 0 → Type 0
with_literal (t.Integer digits) rest = IsRead (t.Integer digits) × rest
with_literal (t.Char literal) rest = IsRead (t.Char literal) × rest
with_literal (t.Text literal) rest = IsRead (t.Text literal) × rest
with_literal _ rest = rest

-- each literal of the marks is read as itself
abbrev pub Literals : Marks → Type 0
Literals [] = Unit {0}
Literals (Mark.blank b ∷ ms) = Literals ms
Literals (Mark.word x ∷ ms) = with_literal x (Literals ms)

abbrev EachLiterals : List Marks → Type 0
EachLiterals [] = Unit {0}
EachLiterals (part ∷ parts) = Literals part × EachLiterals parts

before : (x : Terminal) (A B : Type 0) → (A → B) → with_literal x A → with_literal x B
before (t.Integer digits) A B g h = (h.0, g h.1)
before (t.Char literal) A B g h = (h.0, g h.1)
before (t.Text literal) A B g h = (h.0, g h.1)
before _ A B g h = g h

both : (xs ys : Marks) → Literals xs → Literals ys → Literals (xs ++ ys)
both [] ys e h = h
both (Mark.blank b ∷ xs) ys e h = both xs ys e h
both (Mark.word x ∷ xs) ys e h = before x (Literals xs) (Literals (xs ++ ys)) (λ g. both xs ys g h) e

of_led : (lead by : Marks) (parts : List Marks) → Literals lead → Literals by → EachLiterals parts
    → Literals (led lead by parts)
of_led lead by [] e h ps = tt
of_led lead by (part ∷ parts) e h ps =
    both lead (part ++ led by by parts) e (both part (led by by parts) ps.0 (of_led by by parts h h ps.1))

of_brackets : (ms : Marks) → Literals ms → Literals (bracketed ms)
of_brackets ms e = both ms (Mark.word t.RightParen ∷ []) e tt

of_listed : (ms : Marks) → Literals ms → Literals (listed ms)
of_listed ms e = both ms (Mark.word t.RightBracket ∷ []) e tt

of_parted : (parts : List Marks) → EachLiterals parts → Literals (parted parts)
of_parted parts e = of_led [] (Mark.word t.Comma ∷ space ∷ []) parts tt tt e

of_spaced : (parts : List Marks) → EachLiterals parts → Literals (spaced parts)
of_spaced parts e = of_led (space ∷ []) (space ∷ []) parts tt tt e

of_block : (parts : List Marks) → EachLiterals parts → Literals (block parts)
of_block parts e =
    both (led [] (Mark.word t.Semicolon ∷ space ∷ []) parts) (Mark.word t.RightBrace ∷ [])
    (of_led [] (Mark.word t.Semicolon ∷ space ∷ []) parts tt tt e) tt

of_if : (v : Bool) (ms : Marks) → Literals ms → Literals (bracketed_if v ms)
of_if true ms e = of_brackets ms e
of_if false ms e = e

-- ---- names, which have no literals

bare_by_none : (form : NameForm) (name : List ℕ) → Literals (bare_by form name)
bare_by_none f.VarSym name = tt
bare_by_none f.ConSym name = tt
bare_by_none f.Var name = tt
bare_by_none f.Con name = tt
bare_by_none f.Colon name = tt
bare_by_none f.Arrow name = tt
bare_by_none f.List name = tt
bare_by_none f.Tuple name = tt

bare_none : (name : List ℕ) → Literals (bare_marks name)
unfolding bare_marks
bare_none name = bare_by_none (form_of name) name

con_by_none : (form : NameForm) (name : List ℕ) → Literals (con_by form name)
con_by_none f.VarSym name = tt
con_by_none f.ConSym name = tt
con_by_none f.Var name = tt
con_by_none f.Con name = tt
con_by_none f.Colon name = tt
con_by_none f.Arrow name = tt
con_by_none f.List name = tt
con_by_none f.Tuple name = tt

con_none : (name : List ℕ) → Literals (con_marks name)
unfolding con_marks
con_none name = con_by_none (form_of name) name

bare_op_by_none : (form : NameForm) (name : List ℕ) → Literals (bare_op_by form name)
bare_op_by_none f.VarSym name = tt
bare_op_by_none f.ConSym name = tt
bare_op_by_none f.Var name = tt
bare_op_by_none f.Con name = tt
bare_op_by_none f.Colon name = tt
bare_op_by_none f.Arrow name = tt
bare_op_by_none f.List name = tt
bare_op_by_none f.Tuple name = tt

bare_op_none : (name : List ℕ) → Literals (bare_op name)
unfolding bare_op
bare_op_none name = bare_op_by_none (form_of name) name

flat_by_none : (form : NameForm) (flat : List ℕ) → Literals (flat_by form flat)
flat_by_none f.VarSym flat = tt
flat_by_none f.ConSym flat = tt
flat_by_none f.Var flat = tt
flat_by_none f.Con flat = tt
flat_by_none f.Colon flat = tt
flat_by_none f.Arrow flat = tt
flat_by_none f.List flat = tt
flat_by_none f.Tuple flat = tt

flat_none : (name : List ℕ) → Literals (flat_marks name)
unfolding flat_marks
flat_none name = flat_by_none (flat_form false name) name

commas_none : (count : ℕ) → Literals (replicate count (Mark.word t.Comma))
commas_none zero = tt
commas_none (suc count) = commas_none count

global_by_none : (form : NameForm) (occ flat : List ℕ) → Literals (global_by form occ flat)
global_by_none f.Tuple occ flat =
    of_brackets (replicate (length occ - 2) (Mark.word t.Comma)) (commas_none (length occ - 2))
global_by_none f.VarSym occ flat = tt
global_by_none f.ConSym occ flat = tt
global_by_none f.Var occ flat = tt
global_by_none f.Con occ flat = tt
global_by_none f.Colon occ flat = tt
global_by_none f.Arrow occ flat = tt
global_by_none f.List occ flat = tt

global_none : (name : OrigName) → Literals (global_marks name)
unfolding global_marks
global_none name = global_by_none (form_of name.occ) name.occ (flat_name name)

global_op_by_none : (form : NameForm) (flat : List ℕ) → Literals (global_op_by form flat)
global_op_by_none f.VarSym flat = tt
global_op_by_none f.ConSym flat = tt
global_op_by_none f.Var flat = tt
global_op_by_none f.Con flat = tt
global_op_by_none f.Colon flat = tt
global_op_by_none f.Arrow flat = tt
global_op_by_none f.List flat = tt
global_op_by_none f.Tuple flat = tt

global_op_none : (name : OrigName) → Literals (global_op name)
unfolding global_op
global_op_none name = global_op_by_none (form_of name.occ) (flat_name name)

bares_none : (names : List (List ℕ)) → EachLiterals (map bare_marks names)
bares_none [] = tt
bares_none (name ∷ names) = (bare_none name, bares_none names)

cons_none : (names : List (List ℕ)) → EachLiterals (map con_marks names)
cons_none [] = tt
cons_none (name ∷ names) = (con_none name, cons_none names)

-- ---- types, which have no literals

abbrev NoneAt : Placed → Type 0
NoneAt arg = (place : Place) → Literals (arg place)

abbrev AllNone : List Placed → Type 0
AllNone [] = Unit {0}
AllNone (arg ∷ args) = NoneAt arg × AllNone args

more_none : (args : List Placed) (last : Placed) → AllNone args → NoneAt last → AllNone (args ++ last ∷ [])
more_none [] last g it = (it, tt)
more_none (arg ∷ args) last g it = (g.0, more_none args last g.1 it)

arrows_none : (args : List Placed) → AllNone args
    → Literals (flat_map (λ (arg : Placed). arg p.Operand ++ space ∷ Mark.word t.Arrow ∷ space ∷ []) args)
arrows_none [] g = tt
arrows_none (arg ∷ args) g =
    both (arg p.Operand ++ space ∷ Mark.word t.Arrow ∷ space ∷ [])
    (flat_map (λ (x : Placed). x p.Operand ++ space ∷ Mark.word t.Arrow ∷ space ∷ []) args)
    (both (arg p.Operand) (space ∷ Mark.word t.Arrow ∷ space ∷ []) (g.0 p.Operand) tt) (arrows_none args g.1)

tuples_none : (args : List Placed) → AllNone args
    → Literals (flat_map (λ (arg : Placed). arg p.Whole ++ Mark.word t.Comma ∷ space ∷ []) args)
tuples_none [] g = tt
tuples_none (arg ∷ args) g =
    both (arg p.Whole ++ Mark.word t.Comma ∷ space ∷ [])
    (flat_map (λ (x : Placed). x p.Whole ++ Mark.word t.Comma ∷ space ∷ []) args)
    (both (arg p.Whole) (Mark.word t.Comma ∷ space ∷ []) (g.0 p.Whole) tt) (tuples_none args g.1)

atoms_none : (args : List Placed) → AllNone args
    → Literals (flat_map (λ (arg : Placed). space ∷ arg p.Atom) args)
atoms_none [] g = tt
atoms_none (arg ∷ args) g =
    both (arg p.Atom) (flat_map (λ (x : Placed). space ∷ x p.Atom) args) (g.0 p.Atom) (atoms_none args g.1)

applied_none : (form : Applied) (name : Marks) (args : List Placed) (last : Placed) → Literals name → AllNone args
    → NoneAt last → (place : Place) → Literals (applied_marks form name args last place)
applied_none a.List name args last e g it place = of_listed (last p.Whole) (it p.Whole)
applied_none a.Arrow name args last e g it place =
    of_if (below_whole place) (arrow_marks args last) (both
    (flat_map (λ (arg : Placed). arg p.Operand ++ space ∷ Mark.word t.Arrow ∷ space ∷ []) args) (last p.Whole)
    (arrows_none args g) (it p.Whole))
applied_none a.Tuple name args last e g it place =
    of_brackets (flat_map (λ (arg : Placed). arg p.Whole ++ Mark.word t.Comma ∷ space ∷ []) args ++ last p.Whole)
    (both (flat_map (λ (arg : Placed). arg p.Whole ++ Mark.word t.Comma ∷ space ∷ []) args) (last p.Whole)
    (tuples_none args g) (it p.Whole))
applied_none a.Other name args last e g it place =
    of_if (at_atom place) (application_marks name args last)
    (both name (flat_map (λ (arg : Placed). space ∷ arg p.Atom) args ++ space ∷ last p.Atom) e
    (both (flat_map (λ (arg : Placed). space ∷ arg p.Atom) args) (space ∷ last p.Atom) (atoms_none args g)
    (it p.Atom)))

record TypeNone (ty : TypeText) : Type 0 where
  name : Literals ty.name
  args : AllNone ty.args
  text : NoneAt ty.text

type_texts : (ty : Written) → TypeNone (type_text ty)
type_texts (WVar name) = record { name = tt; args = tt; text = λ place. tt }
type_texts (WCon name) = record { name = global_none name; args = tt; text = λ place. global_none name }
type_texts (WApp' s (more_of-Written g end_of-Written) z (more_of-Written x end_of-Written)) =
    let fun = type_texts g in
    let last = type_texts x in
    let args = (type_text g).args in
    record {
      name = fun.name;
      args = more_none args (type_text x).text fun.args last.text;
      text = applied_none (applied_form (type_text g).head (length args)) (type_text g).name args (type_text x).text
          fun.name fun.args last.text;
    }

type_none : (ty : Written) (place : Place) → Literals (type_marks ty place)
unfolding type_marks
type_none ty place = (type_texts ty).text place

-- ---- literals

integer_read : (value : ℕ) → is_integer value ≡ true → Literals (Mark.word (t.Integer (decimal value)) ∷ [])
integer_read value e =
    let h = leb-true value 9223372036854775807 e in
    (record { lawful = names_lawful.integer value h; keeps = names_kept.integer value h }, tt)

signed_read : (negative : Bool) (value : ℕ) → is_integer value ≡ true → Literals (signed_marks negative value)
signed_read true value e = ((integer_read value e).0, tt)
signed_read false value e = integer_read value e

character_read : (code : ℕ) → is_code code ≡ true → Literals (char_mark code ∷ [])
character_read code e =
    let h = leb-true code 1114111 e in
    (record { lawful = names_lawful.character code h; keeps = names_kept.character code h }, tt)

codes_are : (text : List ℕ) → are_codes text ≡ true → AreCodes text
codes_are [] e = tt
codes_are (code ∷ text) e =
    let h = and_parts (is_code code) (are_codes text) e in (leb-true code 1114111 h.0, codes_are text h.1)

string_read : (text : List ℕ) → are_codes text ≡ true → Literals (string_mark text ∷ [])
string_read text e =
    let h = codes_are text e in
    (record { lawful = names_lawful.string text h; keeps = names_kept.string text h }, tt)

-- ---- patterns

con_pat_read : (name : Marks) (parts : List Marks) → Literals name → EachLiterals parts
    → Literals (con_pat_marks name parts)
con_pat_read name [] e h = e
con_pat_read name (m ∷ parts) e h =
    of_brackets (name ++ spaced (m ∷ parts)) (both name (spaced (m ∷ parts)) e (of_spaced (m ∷ parts) h))

mutual
  pat_read : (pat : Pat) → has_literals_pat pat ≡ true → Literals (pat_marks pat)
  pat_read (PVar name) e = bare_none name
  pat_read PWild e = tt
  pat_read (PInt negative value) e = signed_read negative value e
  pat_read (PChr code) e = character_read code e
  pat_read (PStr text) e = string_read text e
  pat_read (PCon' name s ps) e = con_pat_read (global_marks name) (pats_marks ps) (global_none name) (pats_read ps e)
  pat_read (PTuple' s ps) e = of_brackets (parted (pats_marks ps)) (of_parted (pats_marks ps) (pats_read ps e))
  pat_read (PList' s ps) e = of_listed (parted (pats_marks ps)) (of_parted (pats_marks ps) (pats_read ps e))
  pat_read (PAs' name s (more_of-Pat pat end_of-Pat)) e =
      both (bare_marks name) (Mark.word t.At ∷ pat_marks pat) (bare_none name) (pat_read pat e)
  pat_read (PLazy' s (more_of-Pat pat end_of-Pat)) e =
      of_brackets (Mark.word t.Tilde ∷ pat_marks pat) (pat_read pat e)

  pats_read : {m : _} (ps : Row_of-Pat m) → have_literals_pats ps ≡ true → EachLiterals (pats_marks ps)
  pats_read end_of-Pat e = tt
  pats_read (more_of-Pat pat ps) e =
      let h = and_parts (has_literals_pat pat) (have_literals_pats ps) e in (pat_read pat h.0, pats_read ps h.1)

list_pats : (ps : List Pat) → all_of (map has_literals_pat ps) ≡ true → EachLiterals (map pat_marks ps)
list_pats [] e = tt
list_pats (pat ∷ ps) e =
    let h = and_parts (has_literals_pat pat) (all_of (map has_literals_pat ps)) e in (pat_read pat h.0, list_pats ps h.1)

-- ---- expressions and declarations

op_none : (o : Exp) → Literals (op_marks o)
op_none (Local name) = bare_op_none name
op_none (Global name) = global_op_none name
op_none (Int value) = tt
op_none (Chr code) = tt
op_none (Str text) = tt
op_none (Apply' s g z es) = tt
op_none (Lambda' ps s g) = tt
op_none (Let' s ds z g) = tt
op_none (If' s a y b z c) = tt
op_none (Case' s g z as') = tt
op_none (Tuple' s es) = tt
op_none (ListOf' s es) = tt
op_none (RightSection' s o z a) = tt
op_none (Annot' s g ty) = tt

fields_none : (fields : List FieldDecl) → EachLiterals (map field_marks fields)
fields_none [] = tt
fields_none (field ∷ fields) = (by field.strict field.ty, fields_none fields)
  where
    by : (strict : Bool) (ty : Written) → Literals (field_marks (record { strict = strict; ty = ty }))
    by true ty = type_none ty p.Atom
    by false ty = type_none ty p.Atom

con_decls_none : (cons : List ConDecl) → EachLiterals (map con_decl_marks cons)
con_decls_none [] = tt
con_decls_none (con ∷ cons) = (
  both (con_marks con.occ) (spaced (map field_marks con.fields)) (con_none con.occ)
      (of_spaced (map field_marks con.fields) (fields_none con.fields)),
  con_decls_none cons,
)

of_sign : (sign : Sign) (ms : Marks) → Literals ms → Literals (sign_marks sign ++ ms)
of_sign n.Equals ms e = e
of_sign n.Arrow ms e = e

of_choice : (sign : Sign) (parts : List Marks) (ms : Marks) → EachLiterals parts → Literals ms
    → Literals (choice_marks sign parts ms)
of_choice sign parts ms e h =
    both (led (signed t.Bar) (Mark.word t.Comma ∷ space ∷ []) parts) (sign_marks sign ++ ms)
    (of_led (signed t.Bar) (Mark.word t.Comma ∷ space ∷ []) parts tt tt e) (of_sign sign ms h)

of_where : (parts : List Marks) → EachLiterals parts → Literals (where_marks parts)
of_where [] e = tt
of_where (m ∷ parts) e = of_block (m ∷ parts) e

mutual
  exp_read : (x : Exp) (place : Place) → has_literals_exp x ≡ true → Literals (exp_marks x place)
  exp_read (Local name) place e = bare_none name
  exp_read (Global name) place e = global_none name
  exp_read (Int value) place e = integer_read value e
  exp_read (Chr code) place e = character_read code e
  exp_read (Str text) place e = string_read text e
  exp_read (Apply' s (more_of-Exp x end_of-Exp) z es) place e =
      let h = and_parts (has_literals_exp x) (have_literals_exps es) e in
      of_if (at_atom place) (apply_marks (exp_marks x p.Atom) (exps_marks es p.Atom))
      (both (exp_marks x p.Atom) (spaced (exps_marks es p.Atom)) (exp_read x p.Atom h.0)
      (of_spaced (exps_marks es p.Atom) (exps_read es p.Atom h.1)))
  exp_read (Lambda' ps s (more_of-Exp x end_of-Exp)) place e =
      let h = and_parts (all_of (map has_literals_pat ps)) (has_literals_exp x) e in
      of_if (at_atom place) (lambda_marks (map pat_marks ps) (exp_marks x p.Whole))
      (both (led [] (space ∷ []) (map pat_marks ps)) (signed t.Arrow ++ exp_marks x p.Whole)
      (of_led [] (space ∷ []) (map pat_marks ps) tt tt (list_pats ps h.0)) (exp_read x p.Whole h.1))
  exp_read (Let' s ds z (more_of-Exp x end_of-Exp)) place e =
      let h = and_parts (have_literals_decls ds) (has_literals_exp x) e in
      of_if (at_atom place) (let_marks (decls_marks ds) (exp_marks x p.Whole))
      (both (block (decls_marks ds)) (space ∷ Mark.word (t.Word w.In) ∷ space ∷ exp_marks x p.Whole)
      (of_block (decls_marks ds) (decls_read ds h.0)) (exp_read x p.Whole h.1))
  exp_read (If' s (more_of-Exp a end_of-Exp) y (more_of-Exp b end_of-Exp) z (more_of-Exp c end_of-Exp)) place e =
      let h = and_parts (has_literals_exp a) (has_literals_exp b && has_literals_exp c) e in
      let k = and_parts (has_literals_exp b) (has_literals_exp c) h.1 in
      of_if (at_atom place) (if_marks (exp_marks a p.Whole) (exp_marks b p.Whole) (exp_marks c p.Whole))
      (both (exp_marks a p.Whole) (space ∷ Mark.word (t.Word w.Then) ∷ space
      ∷ (exp_marks b p.Whole ++ space ∷ Mark.word (t.Word w.Else) ∷ space ∷ exp_marks c p.Whole))
      (exp_read a p.Whole h.0)
      (both (exp_marks b p.Whole) (space ∷ Mark.word (t.Word w.Else) ∷ space ∷ exp_marks c p.Whole)
      (exp_read b p.Whole k.0) (exp_read c p.Whole k.1)))
  exp_read (Case' s (more_of-Exp x end_of-Exp) z as') place e =
      let h = and_parts (has_literals_exp x) (have_literals_alts as') e in
      of_if (at_atom place) (case_marks (exp_marks x p.Whole) (alts_marks as'))
      (both (exp_marks x p.Whole) (space ∷ Mark.word (t.Word w.Of) ∷ space ∷ block (alts_marks as'))
      (exp_read x p.Whole h.0) (of_block (alts_marks as') (alts_read as' h.1)))
  exp_read (Tuple' s es) place e =
      of_brackets (parted (exps_marks es p.Whole)) (of_parted (exps_marks es p.Whole) (exps_read es p.Whole e))
  exp_read (ListOf' s es) place e =
      of_listed (parted (exps_marks es p.Whole)) (of_parted (exps_marks es p.Whole) (exps_read es p.Whole e))
  exp_read (RightSection' s (more_of-Exp o end_of-Exp) z (more_of-Exp a end_of-Exp)) place e =
      of_brackets (op_marks o ++ space ∷ exp_marks a p.Atom)
      (both (op_marks o) (space ∷ exp_marks a p.Atom) (op_none o) (exp_read a p.Atom e))
  exp_read (Annot' s (more_of-Exp x end_of-Exp) ty) place e =
      of_if (at_atom place) (annot_marks (exp_marks x p.Atom) (type_marks ty p.Whole))
      (both (exp_marks x p.Atom) (signed t.DoubleColon ++ type_marks ty p.Whole) (exp_read x p.Atom e)
      (type_none ty p.Whole))

  exps_read : {m : _} (es : Row_of-Exp m) (place : Place) → have_literals_exps es ≡ true
      → EachLiterals (exps_marks es place)
  exps_read end_of-Exp place e = tt
  exps_read (more_of-Exp x es) place e =
      let h = and_parts (has_literals_exp x) (have_literals_exps es) e in
      (exp_read x place h.0, exps_read es place h.1)

  pub decl_read : (d : Decl) → has_literals_decl d ≡ true → Literals (decl_marks d)
  decl_read (DataDecl occ is_new params cons) e =
      (both (con_marks occ) (spaced (map bare_marks params)
      ++ led (signed t.Equals) (signed t.Bar) (map con_decl_marks cons)) (con_none occ)
      (both (spaced (map bare_marks params)) (led (signed t.Equals) (signed t.Bar) (map con_decl_marks cons))
      (of_spaced (map bare_marks params) (bares_none params))
      (of_led (signed t.Equals) (signed t.Bar) (map con_decl_marks cons) tt tt (con_decls_none cons))))
  decl_read (SynonymDecl occ params body) e =
      both (con_marks occ) (spaced (map bare_marks params) ++ (signed t.Equals ++ type_marks body p.Whole))
      (con_none occ) (both (spaced (map bare_marks params)) (signed t.Equals ++ type_marks body p.Whole)
      (of_spaced (map bare_marks params) (bares_none params)) (type_none body p.Whole))
  decl_read (TypeSig occ ty) e =
      both (bare_marks occ) (signed t.DoubleColon ++ type_marks ty p.Whole) (bare_none occ) (type_none ty p.Whole)
  decl_read (FixityOf occ fixity) e =
      let it = integer_read fixity.level e in (it.0, bare_op_none occ)
  decl_read (Clause occ ps rhs) e =
      let h = and_parts (all_of (map has_literals_pat ps)) (has_literals_rhs rhs) e in
      both (bare_marks occ) (spaced (map pat_marks ps) ++ rhs_marks n.Equals rhs) (bare_none occ)
      (both (spaced (map pat_marks ps)) (rhs_marks n.Equals rhs) (of_spaced (map pat_marks ps) (list_pats ps h.0))
      (rhs_read n.Equals rhs h.1))
  decl_read (PatBind pat rhs) e =
      let h = and_parts (has_literals_pat pat) (has_literals_rhs rhs) e in
      both (pat_marks pat) (rhs_marks n.Equals rhs) (pat_read pat h.0) (rhs_read n.Equals rhs h.1)

  decls_read : {m : _} (ds : Row_of-Decl m) → have_literals_decls ds ≡ true → EachLiterals (decls_marks ds)
  decls_read end_of-Decl e = tt
  decls_read (more_of-Decl d ds) e =
      let h = and_parts (has_literals_decl d) (have_literals_decls ds) e in (decl_read d h.0, decls_read ds h.1)

  rhs_read : (sign : Sign) (rhs : Rhs) → has_literals_rhs rhs ≡ true → Literals (rhs_marks sign rhs)
  rhs_read sign (Rhs' s cs z ds) e =
      let h = and_parts (have_literals_choices cs) (have_literals_decls ds) e in
      both (choices_marks sign cs) (where_marks (decls_marks ds)) (choices_read sign cs h.0)
      (of_where (decls_marks ds) (decls_read ds h.1))

  choices_read : {m : _} (sign : Sign) (cs : Row_of-Choice m) → have_literals_choices cs ≡ true
      → Literals (choices_marks sign cs)
  choices_read sign end_of-Choice e = tt
  choices_read sign (more_of-Choice s gs x cs) e =
      let h = and_parts (have_literals_guards gs) (has_literals_exp x && have_literals_choices cs) e in
      let k = and_parts (has_literals_exp x) (have_literals_choices cs) h.1 in
      both (choice_marks sign (guards_marks gs) (exp_marks x p.Whole)) (choices_marks sign cs)
      (of_choice sign (guards_marks gs) (exp_marks x p.Whole) (guards_read gs h.0) (exp_read x p.Whole k.0))
      (choices_read sign cs k.1)

  guard_read : (g : Guard) → has_literals_guard g ≡ true → Literals (guard_marks g)
  guard_read (Test x) e = exp_read x p.Atom e
  guard_read (Bind pat x) e =
      let h = and_parts (has_literals_pat pat) (has_literals_exp x) e in
      both (pat_marks pat) (signed t.LeftArrow ++ exp_marks x p.Atom) (pat_read pat h.0) (exp_read x p.Atom h.1)

  guards_read : {m : _} (gs : Row_of-Guard m) → have_literals_guards gs ≡ true → EachLiterals (guards_marks gs)
  guards_read end_of-Guard e = tt
  guards_read (more_of-Guard g gs) e =
      let h = and_parts (has_literals_guard g) (have_literals_guards gs) e in (guard_read g h.0, guards_read gs h.1)

  alt_read : (a : Alt) → has_literals_alt a ≡ true → Literals (alt_marks a)
  alt_read (Alt' pat rhs) e =
      let h = and_parts (has_literals_pat pat) (has_literals_rhs rhs) e in
      both (pat_marks pat) (rhs_marks n.Arrow rhs) (pat_read pat h.0) (rhs_read n.Arrow rhs h.1)

  alts_read : {m : _} (as' : Row_of-Alt m) → have_literals_alts as' ≡ true → EachLiterals (alts_marks as')
  alts_read end_of-Alt e = tt
  alts_read (more_of-Alt a as') e =
      let h = and_parts (has_literals_alt a) (have_literals_alts as') e in (alt_read a h.0, alts_read as' h.1)

-- ---- a module

cons_list_none : (cons : List (List ℕ)) → Literals (cons_marks cons)
cons_list_none [] = tt
cons_list_none (con ∷ cons) =
    of_brackets (parted (map con_marks (con ∷ cons))) (of_parted (map con_marks (con ∷ cons)) (cons_none (con ∷ cons)))

exports_none : (exports : List FlatExport) → EachLiterals (map export_marks exports)
exports_none [] = tt
exports_none (export ∷ exports) = (
  both (flat_marks export.name) (cons_marks export.cons) (flat_none export.name) (cons_list_none export.cons),
  exports_none exports,
)

imports_none : (names : List (List ℕ)) → Literals (flat_map import_marks names)
imports_none [] = tt
imports_none (name ∷ names) = imports_none names

lines_read : (ds : List Decl) → all_of (map has_literals_decl ds) ≡ true → Literals (flat_map line_marks ds)
lines_read [] e = tt
lines_read (d ∷ ds) e =
    let h = and_parts (has_literals_decl d) (all_of (map has_literals_decl ds)) e in
    both (line_marks d) (flat_map line_marks ds)
    (both (decl_marks d) (Mark.word t.Semicolon ∷ line_end ∷ []) (decl_read d h.0) tt) (lines_read ds h.1)

-- the literals of a module that has lawful ones
pub module_read : (m : FlatModule) → all_of (map has_literals_decl m.decls) ≡ true → Literals (module_marks m)
module_read m e =
    let exports = bracketed (parted (map export_marks m.exports)) in
    let opening = space ∷ Mark.word (t.Word w.Where) ∷ space ∷ Mark.word t.LeftBrace ∷ line_end ∷ [] in
    let lines = flat_map line_marks m.decls ++ Mark.word t.RightBrace ∷ line_end ∷ [] in
    both (head_marks m.name m.exports) _
    (both exports opening (of_brackets (parted (map export_marks m.exports))
    (of_parted (map export_marks m.exports) (exports_none m.exports))) tt)
    (both (flat_map import_marks m.imports) lines (imports_none m.imports)
    (both (flat_map line_marks m.decls) (Mark.word t.RightBrace ∷ line_end ∷ []) (lines_read m.decls e) tt))
