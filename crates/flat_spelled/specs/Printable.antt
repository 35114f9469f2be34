-- Which trees have a text of the grammar: what a name stands for fits its place, and a tuple has at most 15 parts.
use Rattle.std.specs.Prelude.{ℕ, ◌-◌, Bool, true, false, ◌&&◌, nat_lt, nat_le, length}
use Rattle.bp_base.specs.declared.ty.OrigName.{OrigName}
use Rattle.hs_core.specs.declared.tree.Written.{Written}
use Rattle.hs_core.specs.declared.tree.Written.TheVariants.{WVar, WCon, WApp'}
use Rattle.hs_core.specs.declared.tree.Written.TheBlock.{end_of-Written, more_of-Written}
use Rattle.hs_core.specs.declared.tree.Pat.{Pat}
use Rattle.hs_core.specs.declared.tree.Pat.TheVariants.{PCon', PTuple'}
use Rattle.hs_core.specs.declared.tree.Pat.TheVariants.{PList', PAs', PLazy'}
use Rattle.hs_core.specs.declared.tree.Pat.TheBlock.{Row_of-Pat, end_of-Pat, more_of-Pat}
use Rattle.flat_text.specs.declared.name.NameForm.{NameForm}
use Rattle.flat_text.specs.declared.name.NameForm.TheVariants as f
use Rattle.flat_text.specs.Names.{form_of}
use Rattle.flat_text.specs.PatternMarks.{pats_marks}
use Rattle.std.specs.Prelude.{not, nat_lt, List, [], ◌∷◌, map}
use Rattle.std.specs.Str.{bytes_eq}
use Rattle.hs_forms.specs.Limits.{all_of}
use Rattle.hs_tokens.specs.Terminals.{minus}
use Rattle.hs_modules.specs.Words.{has_dot, begins_with_colon}
use Rattle.hs_core.specs.declared.tree.Decl.{Decl}
use Rattle.hs_core.specs.declared.tree.Decl.TheVariants.{TypeSig, FixityOf, Clause, PatBind}
use Rattle.hs_core.specs.declared.tree.Exp.{Exp}
use Rattle.hs_core.specs.declared.tree.Exp.TheVariants.{Local, Global, Apply', Lambda'}
use Rattle.hs_core.specs.declared.tree.Exp.TheVariants.{Let', If', Case', Tuple'}
use Rattle.hs_core.specs.declared.tree.Exp.TheVariants.{List' as ListOf', RightSection', Annot'}
use Rattle.hs_core.specs.declared.tree.Rhs.{Rhs, Rhs'}
use Rattle.hs_core.specs.declared.tree.Guard.{Guard}
use Rattle.hs_core.specs.declared.tree.Guard.TheVariants.{Test, Bind}
use Rattle.hs_core.specs.declared.tree.Alt.{Alt, Alt'}
use Rattle.hs_core.specs.declared.tree.Decl.TheBlock.{Row_of-Choice, end_of-Choice, more_of-Choice, Row_of-Decl}
use Rattle.hs_core.specs.declared.tree.Decl.TheBlock.{end_of-Decl, more_of-Decl, Row_of-Guard, end_of-Guard}
use Rattle.hs_core.specs.declared.tree.Decl.TheBlock.{more_of-Guard, Row_of-Exp, end_of-Exp, more_of-Exp, Row_of-Alt}
use Rattle.hs_core.specs.declared.tree.Decl.TheBlock.{end_of-Alt, more_of-Alt}
use Rattle.flat_text.specs.declared.name.Place.TheVariants as p
use Rattle.flat_text.specs.ExpressionMarks.{exps_marks, guards_marks}

-- a constructor's name, of which a tuple's has at most 14 commas
abbrev pub constructs : NameForm → ℕ → Bool
constructs f.Con commas = true
constructs f.ConSym commas = true
constructs f.Colon commas = true
constructs f.List commas = true
constructs f.Tuple commas = nat_lt commas 15
constructs _ commas = false

abbrev pub is_constructor : OrigName → Bool
is_constructor name = constructs (form_of name.occ) (length name.occ - 2)

-- a type's name
abbrev pub names_type : NameForm → ℕ → Bool
names_type f.Con commas = true
names_type f.Arrow commas = true
names_type f.List commas = true
names_type f.Tuple commas = nat_lt commas 15
names_type _ commas = false

abbrev pub is_type_name : OrigName → Bool
is_type_name name = names_type (form_of name.occ) (length name.occ - 2)

abbrev pub is_printable_type : Written → Bool
is_printable_type (WVar name) = true
is_printable_type (WCon name) = is_type_name name
is_printable_type (WApp' s (more_of-Written g end_of-Written) z (more_of-Written x end_of-Written)) =
    is_printable_type g && is_printable_type x

abbrev mutual
  pub is_printable_pat : Pat → Bool
  is_printable_pat (PCon' name s ps) = is_constructor name && are_printable_pats ps
  is_printable_pat (PTuple' s ps) = nat_le (length (pats_marks ps)) 15 && are_printable_pats ps
  is_printable_pat (PList' s ps) = are_printable_pats ps
  is_printable_pat (PAs' name s (more_of-Pat inner end_of-Pat)) = is_printable_pat inner
  is_printable_pat (PLazy' s (more_of-Pat inner end_of-Pat)) = is_printable_pat inner
  is_printable_pat _ = true

  pub are_printable_pats : {m : _} → Row_of-Pat m → Bool
  are_printable_pats end_of-Pat = true
  are_printable_pats (more_of-Pat pat ps) = is_printable_pat pat && are_printable_pats ps

-- ---- expressions

-- a value's name
abbrev pub names_value : NameForm → ℕ → Bool
names_value f.Arrow commas = false
names_value f.Tuple commas = nat_lt commas 15
names_value _ commas = true

-- an operator that is a name, of a section
abbrev pub local_operates : NameForm → List ℕ → Bool
local_operates f.VarSym name = not (bytes_eq name minus)
local_operates _ name = true

abbrev pub global_operates : NameForm → Bool
global_operates f.Arrow = false
global_operates f.List = false
global_operates f.Tuple = false
global_operates _ = true

abbrev pub is_printable_op : Exp → Bool
is_printable_op (Local name) = local_operates (form_of name) name
is_printable_op (Global name) = global_operates (form_of name.occ)
is_printable_op _ = false

abbrev pub is_some : {A : Type 0} → List A → Bool
is_some [] = false
is_some (x ∷ xs) = true

-- whether each choice has guards
abbrev pub guard_flags : {m : _} → Row_of-Choice m → List Bool
guard_flags end_of-Choice = []
guard_flags (more_of-Choice s gs e cs) = is_some (guards_marks gs) ∷ guard_flags cs

-- A right side has one choice without guards, or only choices with guards.
abbrev pub is_shape : List Bool → Bool
is_shape [] = false
is_shape (false ∷ []) = true
is_shape (false ∷ next ∷ flags) = false
is_shape (true ∷ flags) = all_of flags

-- an operator whose fixity is declared is not qualified
abbrev pub declares_op : NameForm → List ℕ → Bool
declares_op f.Con name = not (has_dot name)
declares_op f.ConSym name = begins_with_colon name
declares_op _ name = true

abbrev mutual
  pub is_printable_exp : Exp → Bool
  is_printable_exp (Global name) = names_value (form_of name.occ) (length name.occ - 2)
  is_printable_exp (Apply' s (more_of-Exp e end_of-Exp) z es) = is_printable_exp e && are_printable_exps es
  is_printable_exp (Lambda' ps s (more_of-Exp e end_of-Exp)) =
      is_some ps && (all_of (map is_printable_pat ps) && is_printable_exp e)
  is_printable_exp (Let' s ds z (more_of-Exp e end_of-Exp)) = are_printable_decls ds && is_printable_exp e
  is_printable_exp (If' s (more_of-Exp a end_of-Exp) y (more_of-Exp b end_of-Exp) z (more_of-Exp c end_of-Exp)) =
      is_printable_exp a && (is_printable_exp b && is_printable_exp c)
  is_printable_exp (Case' s (more_of-Exp e end_of-Exp) z as') = is_printable_exp e && are_printable_alts as'
  is_printable_exp (Tuple' s es) = nat_le (length (exps_marks es p.Whole)) 15 && are_printable_exps es
  is_printable_exp (ListOf' s es) = are_printable_exps es
  is_printable_exp (RightSection' s (more_of-Exp o end_of-Exp) z (more_of-Exp a end_of-Exp)) =
      is_printable_op o && is_printable_exp a
  is_printable_exp (Annot' s (more_of-Exp e end_of-Exp) ty) = is_printable_exp e && is_printable_type ty
  is_printable_exp _ = true

  pub are_printable_exps : {m : _} → Row_of-Exp m → Bool
  are_printable_exps end_of-Exp = true
  are_printable_exps (more_of-Exp e es) = is_printable_exp e && are_printable_exps es

  pub is_printable_decl : Decl → Bool
  is_printable_decl (TypeSig occ ty) = is_printable_type ty
  is_printable_decl (FixityOf occ fixity) = nat_le fixity.level 9 && declares_op (form_of occ) occ
  is_printable_decl (Clause occ ps rhs) = all_of (map is_printable_pat ps) && is_printable_rhs rhs
  is_printable_decl (PatBind pat rhs) = is_printable_pat pat && is_printable_rhs rhs
  is_printable_decl _ = false

  pub are_printable_decls : {m : _} → Row_of-Decl m → Bool
  are_printable_decls end_of-Decl = true
  are_printable_decls (more_of-Decl d ds) = is_printable_decl d && are_printable_decls ds

  pub is_printable_rhs : Rhs → Bool
  is_printable_rhs (Rhs' s cs z ds) = is_shape (guard_flags cs) && (are_printable_choices cs && are_printable_decls ds)

  pub are_printable_choices : {m : _} → Row_of-Choice m → Bool
  are_printable_choices end_of-Choice = true
  are_printable_choices (more_of-Choice s gs e cs) =
      are_printable_guards gs && (is_printable_exp e && are_printable_choices cs)

  pub is_printable_guard : Guard → Bool
  is_printable_guard (Test e) = is_printable_exp e
  is_printable_guard (Bind pat e) = is_printable_pat pat && is_printable_exp e

  pub are_printable_guards : {m : _} → Row_of-Guard m → Bool
  are_printable_guards end_of-Guard = true
  are_printable_guards (more_of-Guard g gs) = is_printable_guard g && are_printable_guards gs

  pub is_printable_alt : Alt → Bool
  is_printable_alt (Alt' pat rhs) = is_printable_pat pat && is_printable_rhs rhs

  pub are_printable_alts : {m : _} → Row_of-Alt m → Bool
  are_printable_alts end_of-Alt = true
  are_printable_alts (more_of-Alt a as') = is_printable_alt a && are_printable_alts as'
