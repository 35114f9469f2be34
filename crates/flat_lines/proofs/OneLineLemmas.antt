-- Each declaration and export is written on one line.
use Rattle.std.proofs.Common.{◌≡◌, ℕ, zero, suc, ◌-◌, Bool, true, false, List, [], ◌∷◌, ◌++◌, length, map, refl}
use Rattle.std.proofs.Common.{ap, ◌∙◌, append_assoc}
use Rattle.std.specs.Prelude.{replicate, ◌&&◌}
use Rattle.std.specs.List.{flat_map}
use Rattle.std.proofs.lemmas.Bool.{and_from}
use Rattle.bp_base.specs.declared.ty.OrigName.{OrigName}
use Rattle.hs_forms.specs.Limits.{all_of}
use Rattle.hs_tokens.specs.declared.terminal.Terminal.TheVariants as t
use Rattle.hs_tokens.specs.declared.word.Word.TheVariants as w
use Rattle.hs_core.specs.declared.tree.Written.{Written}
use Rattle.hs_core.specs.declared.tree.Written.TheVariants.{WVar, WCon, WApp'}
use Rattle.hs_core.specs.declared.tree.Written.TheBlock.{end_of-Written, more_of-Written}
use Rattle.hs_core.specs.declared.tree.Pat.{Pat}
use Rattle.hs_core.specs.declared.tree.Pat.TheVariants.{PVar, PWild, PInt, PChr, PStr, PCon', PTuple'}
use Rattle.hs_core.specs.declared.tree.Pat.TheVariants.{PList', PAs', PLazy'}
use Rattle.hs_core.specs.declared.tree.Pat.TheBlock.{Row_of-Pat, end_of-Pat, more_of-Pat}
use Rattle.hs_core.specs.declared.tree.ConDecl.{ConDecl}
use Rattle.hs_core.specs.declared.tree.FieldDecl.{FieldDecl}
use Rattle.hs_core.specs.declared.tree.Decl.{Decl}
use Rattle.hs_core.specs.declared.tree.Decl.TheVariants.{DataDecl, SynonymDecl, TypeSig, FixityOf, Clause, PatBind}
use Rattle.hs_core.specs.declared.tree.Exp.{Exp}
use Rattle.hs_core.specs.declared.tree.Exp.TheVariants.{Local, Global, Int, Chr, Str, Apply', Lambda', Let', If', Case'}
use Rattle.hs_core.specs.declared.tree.Exp.TheVariants.{Tuple', List' as ListOf', RightSection', Annot'}
use Rattle.hs_core.specs.declared.tree.Rhs.{Rhs, Rhs'}
use Rattle.hs_core.specs.declared.tree.Guard.{Guard}
use Rattle.hs_core.specs.declared.tree.Guard.TheVariants.{Test, Bind}
use Rattle.hs_core.specs.declared.tree.Alt.{Alt, Alt'}
use Rattle.hs_core.specs.declared.tree.Decl.TheBlock.{Row_of-Choice, end_of-Choice, more_of-Choice, Row_of-Decl}
use Rattle.hs_core.specs.declared.tree.Decl.TheBlock.{end_of-Decl, more_of-Decl, Row_of-Guard, end_of-Guard}
use Rattle.hs_core.specs.declared.tree.Decl.TheBlock.{more_of-Guard, Row_of-Exp, end_of-Exp, more_of-Exp, Row_of-Alt}
use Rattle.hs_core.specs.declared.tree.Decl.TheBlock.{end_of-Alt, more_of-Alt}
use Rattle.flat_text.specs.declared.expression.Sign.{Sign}
use Rattle.flat_text.specs.declared.expression.Sign.TheVariants as n
use Rattle.flat_text.specs.declared.flat.FlatExport.{FlatExport}
use Rattle.flat_text.specs.declared.name.NameForm.{NameForm}
use Rattle.flat_text.specs.declared.name.NameForm.TheVariants as f
use Rattle.flat_text.specs.declared.name.Place.{Place}
use Rattle.flat_text.specs.declared.name.Place.TheVariants as p
use Rattle.flat_text.specs.declared.types.Applied.{Applied}
use Rattle.flat_text.specs.declared.types.Applied.TheVariants as a
use Rattle.flat_text.specs.Marks.{Blank, Mark, Marks, space, bracketed, bracketed_if, listed, led, parted, block}
use Rattle.flat_text.specs.Marks.{spaced}
use Rattle.flat_text.specs.Names.{form_of, flat_form, flat_name, bare_by, bare_marks, con_by, con_marks, bare_op_by}
use Rattle.flat_text.specs.Names.{bare_op, flat_by, flat_marks, global_by, global_marks, global_op_by, global_op}
use Rattle.flat_text.specs.TypeMarks.{Placed, TypeText, at_atom, below_whole, applied_form, arrow_marks}
use Rattle.flat_text.specs.TypeMarks.{application_marks, applied_marks, type_text, type_marks}
use Rattle.flat_text.specs.PatternMarks.{signed_marks, con_pat_marks, pat_marks, pats_marks}
use Rattle.flat_text.specs.ExpressionMarks.{signed, sign_marks, choice_marks, where_marks, field_marks, con_decl_marks}
use Rattle.flat_text.specs.ExpressionMarks.{op_marks, exp_marks, exps_marks, decl_marks, decls_marks, rhs_marks}
use Rattle.flat_text.specs.ExpressionMarks.{choices_marks, guard_marks, guards_marks, alt_marks, alts_marks}
use Rattle.flat_text.specs.ExpressionMarks.{apply_marks, lambda_marks, let_marks, if_marks, case_marks, annot_marks}
use Rattle.flat_text.specs.ModuleMarks.{cons_marks, export_marks}
use Rattle.flat_lines.proofs.CutLemmas.{is_one_line, begins_well}

abbrev pub One : Marks → Type 0
One ms = is_one_line ms ≡ true

abbrev pub Ones : List Marks → Type 0
Ones parts = all_of (map is_one_line parts) ≡ true

pub one_append : (xs ys : Marks) → One xs → One ys → One (xs ++ ys)
one_append [] ys e h = h
one_append (Mark.blank Blank.gap ∷ xs) ys e h = one_append xs ys e h
one_append (Mark.blank Blank.line ∷ xs) ys e h = cc
one_append (Mark.word x ∷ xs) ys e h = one_append xs ys e h

more_ones : (ms : Marks) (parts : List Marks) → One ms → Ones parts → Ones (ms ∷ parts)
more_ones ms parts e h = and_from (is_one_line ms) (all_of (map is_one_line parts)) e h

one_led : (lead by : Marks) (parts : List Marks) → One lead → One by → Ones parts → One (led lead by parts)
one_led lead by [] e h ps = refl
one_led lead by (part ∷ parts) e h ps =
    let both = parted_ones part parts ps in
    one_append lead (part ++ led by by parts) e
    (one_append part (led by by parts) both.0 (one_led by by parts h h both.1))
  where
    parted_ones : (ms : Marks) (rest : List Marks) → Ones (ms ∷ rest) → One ms × Ones rest
    parted_ones ms rest k = split (is_one_line ms) k
      where
        split : (v : Bool) → v && all_of (map is_one_line rest) ≡ true
            → (v ≡ true) × (all_of (map is_one_line rest) ≡ true)
        split true e' = (refl, e')
        split false e' = cc

one_brackets : (ms : Marks) → One ms → One (bracketed ms)
one_brackets ms e = one_append ms (Mark.word t.RightParen ∷ []) e refl

one_listed : (ms : Marks) → One ms → One (listed ms)
one_listed ms e = one_append ms (Mark.word t.RightBracket ∷ []) e refl

one_parted : (parts : List Marks) → Ones parts → One (parted parts)
one_parted parts e = one_led [] (Mark.word t.Comma ∷ space ∷ []) parts refl refl e

one_spaced : (parts : List Marks) → Ones parts → One (spaced parts)
one_spaced parts e = one_led (space ∷ []) (space ∷ []) parts refl refl e

one_block : (parts : List Marks) → Ones parts → One (block parts)
one_block parts e =
    one_append (led [] (Mark.word t.Semicolon ∷ space ∷ []) parts) (Mark.word t.RightBrace ∷ [])
    (one_led [] (Mark.word t.Semicolon ∷ space ∷ []) parts refl refl e) refl

one_if : (v : Bool) (ms : Marks) → One ms → One (bracketed_if v ms)
one_if true ms e = one_brackets ms e
one_if false ms e = e

-- ---- names

bare_one_by : (form : NameForm) (name : List ℕ) → One (bare_by form name)
bare_one_by f.VarSym name = refl
bare_one_by f.ConSym name = refl
bare_one_by f.Var name = refl
bare_one_by f.Con name = refl
bare_one_by f.Colon name = refl
bare_one_by f.Arrow name = refl
bare_one_by f.List name = refl
bare_one_by f.Tuple name = refl

bare_one : (name : List ℕ) → One (bare_marks name)
unfolding bare_marks
bare_one name = bare_one_by (form_of name) name

bare_first_by : (form : NameForm) (name : List ℕ) (rest : Marks) → begins_well (bare_by form name ++ rest) ≡ true
bare_first_by f.VarSym name rest = refl
bare_first_by f.ConSym name rest = refl
bare_first_by f.Var name rest = refl
bare_first_by f.Con name rest = refl
bare_first_by f.Colon name rest = refl
bare_first_by f.Arrow name rest = refl
bare_first_by f.List name rest = refl
bare_first_by f.Tuple name rest = refl

bare_first : (name : List ℕ) (rest : Marks) → begins_well (bare_marks name ++ rest) ≡ true
unfolding bare_marks
bare_first name rest = bare_first_by (form_of name) name rest

con_one_by : (form : NameForm) (name : List ℕ) → One (con_by form name)
con_one_by f.VarSym name = refl
con_one_by f.ConSym name = refl
con_one_by f.Var name = refl
con_one_by f.Con name = refl
con_one_by f.Colon name = refl
con_one_by f.Arrow name = refl
con_one_by f.List name = refl
con_one_by f.Tuple name = refl

con_one : (name : List ℕ) → One (con_marks name)
unfolding con_marks
con_one name = con_one_by (form_of name) name

op_one_by : (form : NameForm) (name : List ℕ) → One (bare_op_by form name)
op_one_by f.VarSym name = refl
op_one_by f.ConSym name = refl
op_one_by f.Var name = refl
op_one_by f.Con name = refl
op_one_by f.Colon name = refl
op_one_by f.Arrow name = refl
op_one_by f.List name = refl
op_one_by f.Tuple name = refl

bare_op_one : (name : List ℕ) → One (bare_op name)
unfolding bare_op
bare_op_one name = op_one_by (form_of name) name

flat_one_by : (form : NameForm) (flat : List ℕ) → One (flat_by form flat)
flat_one_by f.VarSym flat = refl
flat_one_by f.ConSym flat = refl
flat_one_by f.Var flat = refl
flat_one_by f.Con flat = refl
flat_one_by f.Colon flat = refl
flat_one_by f.Arrow flat = refl
flat_one_by f.List flat = refl
flat_one_by f.Tuple flat = refl

flat_one : (name : List ℕ) → One (flat_marks name)
unfolding flat_marks
flat_one name = flat_one_by (flat_form false name) name

commas_one : (count : ℕ) → One (replicate count (Mark.word t.Comma))
commas_one zero = refl
commas_one (suc count) = commas_one count

global_one_by : (form : NameForm) (occ flat : List ℕ) → One (global_by form occ flat)
global_one_by f.Tuple occ flat =
    one_brackets (replicate (length occ - 2) (Mark.word t.Comma)) (commas_one (length occ - 2))
global_one_by f.VarSym occ flat = refl
global_one_by f.ConSym occ flat = refl
global_one_by f.Var occ flat = refl
global_one_by f.Con occ flat = refl
global_one_by f.Colon occ flat = refl
global_one_by f.Arrow occ flat = refl
global_one_by f.List occ flat = refl

global_one : (name : OrigName) → One (global_marks name)
unfolding global_marks
global_one name = global_one_by (form_of name.occ) name.occ (flat_name name)

global_first_by : (form : NameForm) (occ flat : List ℕ) (rest : Marks)
    → begins_well (global_by form occ flat ++ rest) ≡ true
global_first_by f.Tuple occ flat rest = refl
global_first_by f.VarSym occ flat rest = refl
global_first_by f.ConSym occ flat rest = refl
global_first_by f.Var occ flat rest = refl
global_first_by f.Con occ flat rest = refl
global_first_by f.Colon occ flat rest = refl
global_first_by f.Arrow occ flat rest = refl
global_first_by f.List occ flat rest = refl

global_first : (name : OrigName) (rest : Marks) → begins_well (global_marks name ++ rest) ≡ true
unfolding global_marks
global_first name rest = global_first_by (form_of name.occ) name.occ (flat_name name) rest

global_op_one_by : (form : NameForm) (flat : List ℕ) → One (global_op_by form flat)
global_op_one_by f.VarSym flat = refl
global_op_one_by f.ConSym flat = refl
global_op_one_by f.Var flat = refl
global_op_one_by f.Con flat = refl
global_op_one_by f.Colon flat = refl
global_op_one_by f.Arrow flat = refl
global_op_one_by f.List flat = refl
global_op_one_by f.Tuple flat = refl

global_op_one : (name : OrigName) → One (global_op name)
unfolding global_op
global_op_one name = global_op_one_by (form_of name.occ) (flat_name name)

bares_one : (names : List (List ℕ)) → Ones (map bare_marks names)
bares_one [] = refl
bares_one (name ∷ names) = more_ones (bare_marks name) (map bare_marks names) (bare_one name) (bares_one names)

cons_one : (names : List (List ℕ)) → Ones (map con_marks names)
cons_one [] = refl
cons_one (name ∷ names) = more_ones (con_marks name) (map con_marks names) (con_one name) (cons_one names)

-- ---- types

abbrev OneAt : Placed → Type 0
OneAt arg = (place : Place) → is_one_line (arg place) ≡ true

abbrev AllAt : List Placed → Type 0
AllAt [] = Unit {0}
AllAt (arg ∷ args) = OneAt arg × AllAt args

more_at : (args : List Placed) (last : Placed) → AllAt args → OneAt last → AllAt (args ++ last ∷ [])
more_at [] last g it = (it, tt)
more_at (arg ∷ args) last g it = (g.0, more_at args last g.1 it)

arrows_one : (args : List Placed) → AllAt args
    → One (flat_map (λ (arg : Placed). arg p.Operand ++ space ∷ Mark.word t.Arrow ∷ space ∷ []) args)
arrows_one [] g = refl
arrows_one (arg ∷ args) g =
    one_append (arg p.Operand ++ space ∷ Mark.word t.Arrow ∷ space ∷ [])
    (flat_map (λ (x : Placed). x p.Operand ++ space ∷ Mark.word t.Arrow ∷ space ∷ []) args)
    (one_append (arg p.Operand) (space ∷ Mark.word t.Arrow ∷ space ∷ []) (g.0 p.Operand) refl) (arrows_one args g.1)

tuples_one : (args : List Placed) → AllAt args
    → One (flat_map (λ (arg : Placed). arg p.Whole ++ Mark.word t.Comma ∷ space ∷ []) args)
tuples_one [] g = refl
tuples_one (arg ∷ args) g =
    one_append (arg p.Whole ++ Mark.word t.Comma ∷ space ∷ [])
    (flat_map (λ (x : Placed). x p.Whole ++ Mark.word t.Comma ∷ space ∷ []) args)
    (one_append (arg p.Whole) (Mark.word t.Comma ∷ space ∷ []) (g.0 p.Whole) refl) (tuples_one args g.1)

atoms_one : (args : List Placed) → AllAt args → One (flat_map (λ (arg : Placed). space ∷ arg p.Atom) args)
atoms_one [] g = refl
atoms_one (arg ∷ args) g =
    one_append (arg p.Atom) (flat_map (λ (x : Placed). space ∷ x p.Atom) args) (g.0 p.Atom) (atoms_one args g.1)

applied_one : (form : Applied) (name : Marks) (args : List Placed) (last : Placed) → One name → AllAt args → OneAt last
    → (place : Place) → One (applied_marks form name args last place)
applied_one a.List name args last e g it place = one_listed (last p.Whole) (it p.Whole)
applied_one a.Arrow name args last e g it place =
    one_if (below_whole place) (arrow_marks args last) (one_append
    (flat_map (λ (arg : Placed). arg p.Operand ++ space ∷ Mark.word t.Arrow ∷ space ∷ []) args) (last p.Whole)
    (arrows_one args g) (it p.Whole))
applied_one a.Tuple name args last e g it place =
    one_brackets (flat_map (λ (arg : Placed). arg p.Whole ++ Mark.word t.Comma ∷ space ∷ []) args ++ last p.Whole)
    (one_append (flat_map (λ (arg : Placed). arg p.Whole ++ Mark.word t.Comma ∷ space ∷ []) args) (last p.Whole)
    (tuples_one args g) (it p.Whole))
applied_one a.Other name args last e g it place =
    one_if (at_atom place) (application_marks name args last)
    (one_append name (flat_map (λ (arg : Placed). space ∷ arg p.Atom) args ++ space ∷ last p.Atom) e
    (one_append (flat_map (λ (arg : Placed). space ∷ arg p.Atom) args) (space ∷ last p.Atom) (atoms_one args g)
    (it p.Atom)))

record TypeOne (ty : TypeText) : Type 0 where
  name : One ty.name
  args : AllAt ty.args
  text : OneAt ty.text

type_lines : (ty : Written) → TypeOne (type_text ty)
type_lines (WVar name) = record { name = refl; args = tt; text = λ place. refl }
type_lines (WCon name) = record { name = global_one name; args = tt; text = λ place. global_one name }
type_lines (WApp' s (more_of-Written g end_of-Written) z (more_of-Written x end_of-Written)) =
    let fun = type_lines g in
    let last = type_lines x in
    let args = (type_text g).args in
    record {
      name = fun.name;
      args = more_at args (type_text x).text fun.args last.text;
      text = applied_one (applied_form (type_text g).head (length args)) (type_text g).name args (type_text x).text
          fun.name fun.args last.text;
    }

type_one : (ty : Written) (place : Place) → One (type_marks ty place)
unfolding type_marks
type_one ty place = (type_lines ty).text place

-- ---- patterns

signed_one : (negative : Bool) (value : ℕ) → One (signed_marks negative value)
signed_one true value = refl
signed_one false value = refl

signed_first : (negative : Bool) (value : ℕ) (rest : Marks) → begins_well (signed_marks negative value ++ rest) ≡ true
signed_first true value rest = refl
signed_first false value rest = refl

con_pat_one : (name : Marks) (parts : List Marks) → One name → Ones parts → One (con_pat_marks name parts)
con_pat_one name [] e h = e
con_pat_one name (m ∷ parts) e h =
    one_brackets (name ++ spaced (m ∷ parts)) (one_append name (spaced (m ∷ parts)) e (one_spaced (m ∷ parts) h))

mutual
  pat_one : (pat : Pat) → One (pat_marks pat)
  pat_one (PVar name) = bare_one name
  pat_one PWild = refl
  pat_one (PInt negative value) = signed_one negative value
  pat_one (PChr code) = refl
  pat_one (PStr text) = refl
  pat_one (PCon' name s ps) = con_pat_one (global_marks name) (pats_marks ps) (global_one name) (pats_one ps)
  pat_one (PTuple' s ps) = one_brackets (parted (pats_marks ps)) (one_parted (pats_marks ps) (pats_one ps))
  pat_one (PList' s ps) = one_listed (parted (pats_marks ps)) (one_parted (pats_marks ps) (pats_one ps))
  pat_one (PAs' name s (more_of-Pat pat end_of-Pat)) =
      one_append (bare_marks name) (Mark.word t.At ∷ pat_marks pat) (bare_one name) (pat_one pat)
  pat_one (PLazy' s (more_of-Pat pat end_of-Pat)) = one_brackets (Mark.word t.Tilde ∷ pat_marks pat) (pat_one pat)

  pats_one : {m : _} (ps : Row_of-Pat m) → Ones (pats_marks ps)
  pats_one end_of-Pat = refl
  pats_one (more_of-Pat pat ps) = more_ones (pat_marks pat) (pats_marks ps) (pat_one pat) (pats_one ps)

con_pat_first : (name : OrigName) (parts : List Marks) (rest : Marks)
    → begins_well (con_pat_marks (global_marks name) parts ++ rest) ≡ true
con_pat_first name [] rest = global_first name rest
con_pat_first name (m ∷ parts) rest = refl

as_first : (name : List ℕ) (ms rest : Marks) → begins_well ((bare_marks name ++ ms) ++ rest) ≡ true
unfolding bare_marks
as_first name ms rest = by (form_of name)
  where
    by : (form : NameForm) → begins_well ((bare_by form name ++ ms) ++ rest) ≡ true
    by f.VarSym = refl
    by f.ConSym = refl
    by f.Var = refl
    by f.Con = refl
    by f.Colon = refl
    by f.Arrow = refl
    by f.List = refl
    by f.Tuple = refl

pat_first : (pat : Pat) (rest : Marks) → begins_well (pat_marks pat ++ rest) ≡ true
pat_first (PVar name) rest = bare_first name rest
pat_first PWild rest = refl
pat_first (PInt negative value) rest = signed_first negative value rest
pat_first (PChr code) rest = refl
pat_first (PStr text) rest = refl
pat_first (PCon' name s ps) rest = con_pat_first name (pats_marks ps) rest
pat_first (PTuple' s ps) rest = refl
pat_first (PList' s ps) rest = refl
pat_first (PAs' name s (more_of-Pat pat end_of-Pat)) rest = as_first name (Mark.word t.At ∷ pat_marks pat) rest
pat_first (PLazy' s (more_of-Pat pat end_of-Pat)) rest = refl

list_pats : (ps : List Pat) → Ones (map pat_marks ps)
list_pats [] = refl
list_pats (pat ∷ ps) = more_ones (pat_marks pat) (map pat_marks ps) (pat_one pat) (list_pats ps)

-- ---- expressions and declarations

op_one : (o : Exp) → One (op_marks o)
op_one (Local name) = bare_op_one name
op_one (Global name) = global_op_one name
op_one (Int value) = refl
op_one (Chr code) = refl
op_one (Str text) = refl
op_one (Apply' s g z es) = refl
op_one (Lambda' ps s g) = refl
op_one (Let' s ds z g) = refl
op_one (If' s a y b z c) = refl
op_one (Case' s g z as') = refl
op_one (Tuple' s es) = refl
op_one (ListOf' s es) = refl
op_one (RightSection' s o z a) = refl
op_one (Annot' s g ty) = refl

fields_one : (fields : List FieldDecl) → Ones (map field_marks fields)
fields_one [] = refl
fields_one (field ∷ fields) =
    more_ones (field_marks field) (map field_marks fields) (by field.strict field.ty) (fields_one fields)
  where
    by : (strict : Bool) (ty : Written) → One (field_marks (record { strict = strict; ty = ty }))
    by true ty = type_one ty p.Atom
    by false ty = type_one ty p.Atom

con_decls_one : (cons : List ConDecl) → Ones (map con_decl_marks cons)
con_decls_one [] = refl
con_decls_one (con ∷ cons) =
    more_ones (con_decl_marks con) (map con_decl_marks cons)
    (one_append (con_marks con.occ) (spaced (map field_marks con.fields)) (con_one con.occ)
    (one_spaced (map field_marks con.fields) (fields_one con.fields))) (con_decls_one cons)

one_sign : (sign : Sign) (ms : Marks) → One ms → One (sign_marks sign ++ ms)
one_sign n.Equals ms e = e
one_sign n.Arrow ms e = e

one_choice : (sign : Sign) (parts : List Marks) (ms : Marks) → Ones parts → One ms → One (choice_marks sign parts ms)
one_choice sign parts ms e h =
    one_append (led (signed t.Bar) (Mark.word t.Comma ∷ space ∷ []) parts) (sign_marks sign ++ ms)
    (one_led (signed t.Bar) (Mark.word t.Comma ∷ space ∷ []) parts refl refl e) (one_sign sign ms h)

one_where : (parts : List Marks) → Ones parts → One (where_marks parts)
one_where [] e = refl
one_where (m ∷ parts) e = one_block (m ∷ parts) e

mutual
  exp_one : (x : Exp) (place : Place) → One (exp_marks x place)
  exp_one (Local name) place = bare_one name
  exp_one (Global name) place = global_one name
  exp_one (Int value) place = refl
  exp_one (Chr code) place = refl
  exp_one (Str text) place = refl
  exp_one (Apply' s (more_of-Exp x end_of-Exp) z es) place =
      one_if (at_atom place) (apply_marks (exp_marks x p.Atom) (exps_marks es p.Atom))
      (one_append (exp_marks x p.Atom) (spaced (exps_marks es p.Atom)) (exp_one x p.Atom)
      (one_spaced (exps_marks es p.Atom) (exps_one es p.Atom)))
  exp_one (Lambda' ps s (more_of-Exp x end_of-Exp)) place =
      one_if (at_atom place) (lambda_marks (map pat_marks ps) (exp_marks x p.Whole))
      (one_append (led [] (space ∷ []) (map pat_marks ps)) (signed t.Arrow ++ exp_marks x p.Whole)
      (one_led [] (space ∷ []) (map pat_marks ps) refl refl (list_pats ps)) (exp_one x p.Whole))
  exp_one (Let' s ds z (more_of-Exp x end_of-Exp)) place =
      one_if (at_atom place) (let_marks (decls_marks ds) (exp_marks x p.Whole))
      (one_append (block (decls_marks ds)) (space ∷ Mark.word (t.Word w.In) ∷ space ∷ exp_marks x p.Whole)
      (one_block (decls_marks ds) (decls_one ds)) (exp_one x p.Whole))
  exp_one (If' s (more_of-Exp a end_of-Exp) y (more_of-Exp b end_of-Exp) z (more_of-Exp c end_of-Exp)) place =
      one_if (at_atom place) (if_marks (exp_marks a p.Whole) (exp_marks b p.Whole) (exp_marks c p.Whole))
      (one_append (exp_marks a p.Whole) (space ∷ Mark.word (t.Word w.Then) ∷ space
      ∷ (exp_marks b p.Whole ++ space ∷ Mark.word (t.Word w.Else) ∷ space ∷ exp_marks c p.Whole)) (exp_one a p.Whole)
      (one_append (exp_marks b p.Whole) (space ∷ Mark.word (t.Word w.Else) ∷ space ∷ exp_marks c p.Whole)
      (exp_one b p.Whole) (exp_one c p.Whole)))
  exp_one (Case' s (more_of-Exp x end_of-Exp) z as') place =
      one_if (at_atom place) (case_marks (exp_marks x p.Whole) (alts_marks as'))
      (one_append (exp_marks x p.Whole) (space ∷ Mark.word (t.Word w.Of) ∷ space ∷ block (alts_marks as'))
      (exp_one x p.Whole) (one_block (alts_marks as') (alts_one as')))
  exp_one (Tuple' s es) place =
      one_brackets (parted (exps_marks es p.Whole)) (one_parted (exps_marks es p.Whole) (exps_one es p.Whole))
  exp_one (ListOf' s es) place =
      one_listed (parted (exps_marks es p.Whole)) (one_parted (exps_marks es p.Whole) (exps_one es p.Whole))
  exp_one (RightSection' s (more_of-Exp o end_of-Exp) z (more_of-Exp a end_of-Exp)) place =
      one_brackets (op_marks o ++ space ∷ exp_marks a p.Atom)
      (one_append (op_marks o) (space ∷ exp_marks a p.Atom) (op_one o) (exp_one a p.Atom))
  exp_one (Annot' s (more_of-Exp x end_of-Exp) ty) place =
      one_if (at_atom place) (annot_marks (exp_marks x p.Atom) (type_marks ty p.Whole))
      (one_append (exp_marks x p.Atom) (signed t.DoubleColon ++ type_marks ty p.Whole) (exp_one x p.Atom)
      (type_one ty p.Whole))

  exps_one : {m : _} (es : Row_of-Exp m) (place : Place) → Ones (exps_marks es place)
  exps_one end_of-Exp place = refl
  exps_one (more_of-Exp x es) place =
      more_ones (exp_marks x place) (exps_marks es place) (exp_one x place) (exps_one es place)

  pub decl_one : (d : Decl) → One (decl_marks d)
  decl_one (DataDecl occ is_new params cons) =
      one_append (con_marks occ) (spaced (map bare_marks params)
      ++ led (signed t.Equals) (signed t.Bar) (map con_decl_marks cons)) (con_one occ)
      (one_append (spaced (map bare_marks params)) (led (signed t.Equals) (signed t.Bar) (map con_decl_marks cons))
      (one_spaced (map bare_marks params) (bares_one params))
      (one_led (signed t.Equals) (signed t.Bar) (map con_decl_marks cons) refl refl (con_decls_one cons)))
  decl_one (SynonymDecl occ params body) =
      one_append (con_marks occ) (spaced (map bare_marks params) ++ (signed t.Equals ++ type_marks body p.Whole))
      (con_one occ) (one_append (spaced (map bare_marks params)) (signed t.Equals ++ type_marks body p.Whole)
      (one_spaced (map bare_marks params) (bares_one params)) (type_one body p.Whole))
  decl_one (TypeSig occ ty) =
      one_append (bare_marks occ) (signed t.DoubleColon ++ type_marks ty p.Whole) (bare_one occ) (type_one ty p.Whole)
  decl_one (FixityOf occ fixity) = bare_op_one occ
  decl_one (Clause occ ps rhs) =
      one_append (bare_marks occ) (spaced (map pat_marks ps) ++ rhs_marks n.Equals rhs) (bare_one occ)
      (one_append (spaced (map pat_marks ps)) (rhs_marks n.Equals rhs) (one_spaced (map pat_marks ps) (list_pats ps))
      (rhs_one n.Equals rhs))
  decl_one (PatBind pat rhs) =
      one_append (pat_marks pat) (rhs_marks n.Equals rhs) (pat_one pat) (rhs_one n.Equals rhs)

  decls_one : {m : _} (ds : Row_of-Decl m) → Ones (decls_marks ds)
  decls_one end_of-Decl = refl
  decls_one (more_of-Decl d ds) = more_ones (decl_marks d) (decls_marks ds) (decl_one d) (decls_one ds)

  rhs_one : (sign : Sign) (rhs : Rhs) → One (rhs_marks sign rhs)
  rhs_one sign (Rhs' s cs z ds) =
      one_append (choices_marks sign cs) (where_marks (decls_marks ds)) (choices_one sign cs)
      (one_where (decls_marks ds) (decls_one ds))

  choices_one : {m : _} (sign : Sign) (cs : Row_of-Choice m) → One (choices_marks sign cs)
  choices_one sign end_of-Choice = refl
  choices_one sign (more_of-Choice s gs x cs) =
      one_append (choice_marks sign (guards_marks gs) (exp_marks x p.Whole)) (choices_marks sign cs)
      (one_choice sign (guards_marks gs) (exp_marks x p.Whole) (guards_one gs) (exp_one x p.Whole))
      (choices_one sign cs)

  guard_one : (g : Guard) → One (guard_marks g)
  guard_one (Test x) = exp_one x p.Atom
  guard_one (Bind pat x) =
      one_append (pat_marks pat) (signed t.LeftArrow ++ exp_marks x p.Atom) (pat_one pat) (exp_one x p.Atom)

  guards_one : {m : _} (gs : Row_of-Guard m) → Ones (guards_marks gs)
  guards_one end_of-Guard = refl
  guards_one (more_of-Guard g gs) = more_ones (guard_marks g) (guards_marks gs) (guard_one g) (guards_one gs)

  alt_one : (a : Alt) → One (alt_marks a)
  alt_one (Alt' pat rhs) = one_append (pat_marks pat) (rhs_marks n.Arrow rhs) (pat_one pat) (rhs_one n.Arrow rhs)

  alts_one : {m : _} (as' : Row_of-Alt m) → Ones (alts_marks as')
  alts_one end_of-Alt = refl
  alts_one (more_of-Alt a as') = more_ones (alt_marks a) (alts_marks as') (alt_one a) (alts_one as')

pub decl_first : (d : Decl) (rest : Marks) → begins_well (decl_marks d ++ rest) ≡ true
decl_first (DataDecl occ is_new params cons) rest = refl
decl_first (SynonymDecl occ params body) rest = refl
decl_first (TypeSig occ ty) rest = as_first occ (signed t.DoubleColon ++ type_marks ty p.Whole) rest
decl_first (FixityOf occ fixity) rest = refl
decl_first (Clause occ ps rhs) rest = as_first occ (spaced (map pat_marks ps) ++ rhs_marks n.Equals rhs) rest
decl_first (PatBind pat rhs) rest =
    ap begins_well (append_assoc (pat_marks pat) (rhs_marks n.Equals rhs) rest)
    ∙ pat_first pat (rhs_marks n.Equals rhs ++ rest)

-- ---- exports

export_one : (export : FlatExport) → One (export_marks export)
export_one export = one_append (flat_marks export.name) (cons_marks export.cons) (flat_one export.name) (by export.cons)
  where
    by : (cons : List (List ℕ)) → One (cons_marks cons)
    by [] = refl
    by (con ∷ cons) =
        one_brackets (parted (map con_marks (con ∷ cons)))
        (one_parted (map con_marks (con ∷ cons)) (cons_one (con ∷ cons)))

exports_one : (exports : List FlatExport) → Ones (map export_marks exports)
exports_one [] = refl
exports_one (export ∷ exports) =
    more_ones (export_marks export) (map export_marks exports) (export_one export) (exports_one exports)

pub export_list_one : (exports : List FlatExport) → One (bracketed (parted (map export_marks exports)))
export_list_one exports =
    one_brackets (parted (map export_marks exports)) (one_parted (map export_marks exports) (exports_one exports))
