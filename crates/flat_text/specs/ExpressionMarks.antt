-- Expressions, right sides and declarations in the flat text (Haskell 2010 Report, sections 3 and 4).
use Rattle.std.specs.Prelude.{ℕ, Bool, true, false, List, [], ◌∷◌, ◌++◌, map, codes}
use Rattle.bp_base.specs.declared.entity.Assoc.{Assoc}
use Rattle.bp_base.specs.declared.entity.Assoc.TheVariants as s
use Rattle.bp_base.specs.declared.entity.Fixity.{Fixity}
use Rattle.hs_tokens.specs.declared.terminal.Terminal.{Terminal}
use Rattle.hs_tokens.specs.declared.terminal.Terminal.TheVariants as t
use Rattle.hs_tokens.specs.declared.word.Word.{Word}
use Rattle.hs_tokens.specs.declared.word.Word.TheVariants as w
use Rattle.hs_core.specs.declared.tree.Written.{Written}
use Rattle.hs_core.specs.declared.tree.ConDecl.{ConDecl}
use Rattle.hs_core.specs.declared.tree.FieldDecl.{FieldDecl}
use Rattle.hs_core.specs.declared.tree.Decl.{Decl}
use Rattle.hs_core.specs.declared.tree.Decl.TheVariants.{DataDecl, SynonymDecl, TypeSig, FixityOf, Clause, PatBind}
use Rattle.hs_core.specs.declared.tree.Exp.{Exp}
use Rattle.hs_core.specs.declared.tree.Exp.TheVariants.{Local, Global, Int, Chr, Str, Apply', Lambda'}
use Rattle.hs_core.specs.declared.tree.Exp.TheVariants.{Let', If', Case', Tuple'}
use Rattle.hs_core.specs.declared.tree.Exp.TheVariants.{List' as ListOf', RightSection', Annot'}
use Rattle.hs_core.specs.declared.tree.Rhs.{Rhs, Rhs'}
use Rattle.hs_core.specs.declared.tree.Choice.{Choice}
use Rattle.hs_core.specs.declared.tree.Guard.{Guard}
use Rattle.hs_core.specs.declared.tree.Guard.TheVariants.{Test, Bind}
use Rattle.hs_core.specs.declared.tree.Alt.{Alt, Alt'}
use Rattle.hs_core.specs.declared.tree.Decl.TheBlock.{Row_of-Choice, end_of-Choice, more_of-Choice, Row_of-Decl}
use Rattle.hs_core.specs.declared.tree.Decl.TheBlock.{end_of-Decl, more_of-Decl, Row_of-Guard, end_of-Guard}
use Rattle.hs_core.specs.declared.tree.Decl.TheBlock.{more_of-Guard, Row_of-Exp, end_of-Exp, more_of-Exp, Row_of-Alt}
use Rattle.hs_core.specs.declared.tree.Decl.TheBlock.{end_of-Alt, more_of-Alt}
use Rattle.flat_text.specs.declared.expression.Sign.{Sign}
use Rattle.flat_text.specs.declared.expression.Sign.TheVariants as n
use Rattle.flat_text.specs.declared.name.Place.{Place}
use Rattle.flat_text.specs.declared.name.Place.TheVariants as p
use Rattle.flat_text.specs.Marks.{Mark, Marks, space, keyword, bracketed, bracketed_if, listed, led, parted, block}
use Rattle.flat_text.specs.Marks.{spaced}
use Rattle.flat_text.specs.Names.{bare_marks, con_marks, bare_op, global_marks, global_op}
use Rattle.flat_text.specs.TypeMarks.{at_atom, type_marks}
use Rattle.flat_text.specs.PatternMarks.{integer_mark, char_mark, string_mark, pat_marks}

-- a sign with spaces
abbrev pub signed : Terminal → Marks
signed sign = space ∷ Mark.word sign ∷ space ∷ []

-- The forms of expressions, without their brackets: `a a a`, `\p p -> e`, `let {d; d} in e`, `if e then e else e`,
-- `case e of {alt; alt}`, `a :: t` and `(op a)`.
abbrev pub apply_marks : Marks → List Marks → Marks
apply_marks fun args = fun ++ spaced args

abbrev pub lambda_marks : List Marks → Marks → Marks
lambda_marks pats body = Mark.word t.Backslash ∷ (led [] (space ∷ []) pats ++ (signed t.Arrow ++ body))

abbrev pub let_marks : List Marks → Marks → Marks
let_marks decls body = keyword w.Let ∷ space ∷ (block decls ++ space ∷ keyword w.In ∷ space ∷ body)

abbrev pub if_marks : Marks → Marks → Marks → Marks
if_marks test one other =
    keyword w.If ∷ space ∷ (test ++ space ∷ keyword w.Then ∷ space ∷ (one ++ space ∷ keyword w.Else ∷ space ∷ other))

abbrev pub case_marks : Marks → List Marks → Marks
case_marks of' alts = keyword w.Case ∷ space ∷ (of' ++ space ∷ keyword w.Of ∷ space ∷ block alts)

abbrev pub annot_marks : Marks → Marks → Marks
annot_marks exp ty = exp ++ (signed t.DoubleColon ++ ty)

abbrev pub section_marks : Marks → Marks → Marks
section_marks op arg = bracketed (op ++ space ∷ arg)

-- the sign of a right side: ` = ` in a declaration, ` -> ` in an alternative
abbrev pub sign_marks : Sign → Marks
sign_marks n.Equals = signed t.Equals
sign_marks n.Arrow = signed t.Arrow

-- ` = e`, and ` | g, g = e` behind guards
abbrev pub choice_marks : Sign → List Marks → Marks → Marks
choice_marks sign guards exp =
    led (signed t.Bar) (Mark.word t.Comma ∷ space ∷ []) guards ++ (sign_marks sign ++ exp)

-- ` where {d; d}`
abbrev pub where_marks : List Marks → Marks
where_marks [] = []
where_marks (decl ∷ decls) = space ∷ keyword w.Where ∷ space ∷ block (decl ∷ decls)

-- a field, an atomic type, with `!` where it is strict; a constructor with its fields
abbrev pub field_marks : FieldDecl → Marks
field_marks field = strictness field.strict ++ type_marks field.ty p.Atom
  where
    strictness : Bool → Marks
    strictness true = Mark.word (t.VarSym (codes "!")) ∷ []
    strictness false = []

abbrev pub con_decl_marks : ConDecl → Marks
con_decl_marks con = con_marks con.occ ++ spaced (map field_marks con.fields)

abbrev pub data_word : Bool → Word
data_word true = w.Newtype
data_word false = w.Data

-- `data T a b = C t t | D`
abbrev pub data_marks : List ℕ → Bool → List (List ℕ) → List ConDecl → Marks
data_marks occ is_new params cons =
    keyword (data_word is_new) ∷ space ∷ (con_marks occ ++ (spaced (map bare_marks params)
    ++ led (signed t.Equals) (signed t.Bar) (map con_decl_marks cons)))

-- `type T a = t`
abbrev pub synonym_marks : List ℕ → List (List ℕ) → Written → Marks
synonym_marks occ params body =
    keyword w.Type ∷ space ∷ (con_marks occ ++ (spaced (map bare_marks params)
    ++ (signed t.Equals ++ type_marks body p.Whole)))

-- `x :: t`
abbrev pub type_sig_marks : List ℕ → Written → Marks
type_sig_marks occ ty = bare_marks occ ++ (signed t.DoubleColon ++ type_marks ty p.Whole)

abbrev pub fixity_word : Assoc → Word
fixity_word s.Left = w.Infixl
fixity_word s.Right = w.Infixr
fixity_word s.Neither = w.Infix

-- `infixr 5 +++`
abbrev pub fixity_marks : List ℕ → Fixity → Marks
fixity_marks occ fixity = keyword (fixity_word fixity.assoc) ∷ space ∷ integer_mark fixity.level ∷ space ∷ bare_op occ

-- an operator that is a name; no other expression stands there
abbrev pub op_marks : Exp → Marks
op_marks (Local name) = bare_op name
op_marks (Global name) = global_op name
op_marks _ = []

-- An expression at a place: names, literals, tuples, lists and sections are atoms, every other form has brackets where
-- an atom stands. The sign of a right side is `=` in declarations and `->` in alternatives.
abbrev mutual
  pub exp_marks : Exp → Place → Marks
  exp_marks (Local name) place = bare_marks name
  exp_marks (Global name) place = global_marks name
  exp_marks (Int value) place = integer_mark value ∷ []
  exp_marks (Chr code) place = char_mark code ∷ []
  exp_marks (Str text) place = string_mark text ∷ []
  exp_marks (Apply' s (more_of-Exp e end_of-Exp) z es) place =
      bracketed_if (at_atom place) (apply_marks (exp_marks e p.Atom) (exps_marks es p.Atom))
  exp_marks (Lambda' ps s (more_of-Exp e end_of-Exp)) place =
      bracketed_if (at_atom place) (lambda_marks (map pat_marks ps) (exp_marks e p.Whole))
  exp_marks (Let' s ds z (more_of-Exp e end_of-Exp)) place =
      bracketed_if (at_atom place) (let_marks (decls_marks ds) (exp_marks e p.Whole))
  exp_marks (If' s (more_of-Exp a end_of-Exp) y (more_of-Exp b end_of-Exp) z (more_of-Exp c end_of-Exp)) place =
      bracketed_if (at_atom place) (if_marks (exp_marks a p.Whole) (exp_marks b p.Whole) (exp_marks c p.Whole))
  exp_marks (Case' s (more_of-Exp e end_of-Exp) z as') place =
      bracketed_if (at_atom place) (case_marks (exp_marks e p.Whole) (alts_marks as'))
  exp_marks (Tuple' s es) place = bracketed (parted (exps_marks es p.Whole))
  exp_marks (ListOf' s es) place = listed (parted (exps_marks es p.Whole))
  exp_marks (RightSection' s (more_of-Exp o end_of-Exp) z (more_of-Exp a end_of-Exp)) place =
      section_marks (op_marks o) (exp_marks a p.Atom)
  exp_marks (Annot' s (more_of-Exp e end_of-Exp) ty) place =
      bracketed_if (at_atom place) (annot_marks (exp_marks e p.Atom) (type_marks ty p.Whole))

  pub exps_marks : {m : _} → Row_of-Exp m → Place → List Marks
  exps_marks end_of-Exp place = []
  exps_marks (more_of-Exp e es) place = exp_marks e place ∷ exps_marks es place

  pub decl_marks : Decl → Marks
  decl_marks (DataDecl occ is_new params cons) = data_marks occ is_new params cons
  decl_marks (SynonymDecl occ params body) = synonym_marks occ params body
  decl_marks (TypeSig occ ty) = type_sig_marks occ ty
  decl_marks (FixityOf occ fixity) = fixity_marks occ fixity
  decl_marks (Clause occ pats rhs) = bare_marks occ ++ (spaced (map pat_marks pats) ++ rhs_marks n.Equals rhs)
  decl_marks (PatBind pat rhs) = pat_marks pat ++ rhs_marks n.Equals rhs

  pub decls_marks : {m : _} → Row_of-Decl m → List Marks
  decls_marks end_of-Decl = []
  decls_marks (more_of-Decl d ds) = decl_marks d ∷ decls_marks ds

  pub rhs_marks : Sign → Rhs → Marks
  rhs_marks sign (Rhs' s cs z ds) = choices_marks sign cs ++ where_marks (decls_marks ds)

  pub choices_marks : {m : _} → Sign → Row_of-Choice m → Marks
  choices_marks sign end_of-Choice = []
  choices_marks sign (more_of-Choice s gs e cs) =
      choice_marks sign (guards_marks gs) (exp_marks e p.Whole) ++ choices_marks sign cs

  pub guard_marks : Guard → Marks
  guard_marks (Test e) = exp_marks e p.Atom
  guard_marks (Bind pat e) = pat_marks pat ++ (signed t.LeftArrow ++ exp_marks e p.Atom)

  pub guards_marks : {m : _} → Row_of-Guard m → List Marks
  guards_marks end_of-Guard = []
  guards_marks (more_of-Guard g gs) = guard_marks g ∷ guards_marks gs

  pub alt_marks : Alt → Marks
  alt_marks (Alt' pat rhs) = pat_marks pat ++ rhs_marks n.Arrow rhs

  pub alts_marks : {m : _} → Row_of-Alt m → List Marks
  alts_marks end_of-Alt = []
  alts_marks (more_of-Alt a as') = alt_marks a ∷ alts_marks as'

-- a choice of its parts
abbrev pub guarded_marks : Sign → Choice → Marks
guarded_marks sign choice = choice_marks sign (map guard_marks choice.guards) (exp_marks choice.exp p.Whole)
