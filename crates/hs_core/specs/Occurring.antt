-- Which original names occur in a tree, from left to right.
use Rattle.std.specs.Prelude.{List, [], ◌∷◌, ◌++◌}
use Rattle.std.specs.List.{flat_map}
use Rattle.bp_base.specs.declared.ty.OrigName.{OrigName}
use Rattle.bp_base.specs.declared.ty.Ty.{Ty}
use Rattle.bp_base.specs.declared.ty.Ty.TheVariants.{Var, Con, App'}
use Rattle.bp_base.specs.declared.ty.Ty.TheBlock.{end_of-Ty, more_of-Ty}
use Rattle.hs_core.specs.declared.tree.Written.{Written}
use Rattle.hs_core.specs.declared.tree.Written.TheVariants.{WVar, WCon, WApp'}
use Rattle.hs_core.specs.declared.tree.Written.TheBlock.{end_of-Written, more_of-Written}
use Rattle.hs_core.specs.declared.tree.Pat.{Pat}
use Rattle.hs_core.specs.declared.tree.Pat.TheVariants.{PCon', PTuple', PList', PAs', PLazy'}
use Rattle.hs_core.specs.declared.tree.Pat.TheBlock.{Row_of-Pat, end_of-Pat, more_of-Pat}
use Rattle.hs_core.specs.declared.tree.Decl.{Decl}
use Rattle.hs_core.specs.declared.tree.Decl.TheVariants.{DataDecl, SynonymDecl, TypeSig, FixityOf, Clause, PatBind}
use Rattle.hs_core.specs.declared.tree.Exp.{Exp}
use Rattle.hs_core.specs.declared.tree.Exp.TheVariants.{Local, Global, Int, Chr, Str, Apply', Lambda', Let', If', Case'}
use Rattle.hs_core.specs.declared.tree.Exp.TheVariants.{Tuple', List' as ListOf', RightSection', Annot'}
use Rattle.hs_core.specs.declared.tree.Rhs.{Rhs, Rhs'}
use Rattle.hs_core.specs.declared.tree.Guard.{Guard}
use Rattle.hs_core.specs.declared.tree.Guard.TheVariants.{Test, Bind}
use Rattle.hs_core.specs.declared.tree.Alt.{Alt, Alt'}
use Rattle.hs_core.specs.declared.tree.ConDecl.{ConDecl}
use Rattle.hs_core.specs.declared.tree.FieldDecl.{FieldDecl}
use Rattle.hs_core.specs.declared.tree.Body.{Body}
use Rattle.hs_core.specs.declared.tree.Decl.TheBlock.{Row_of-Choice, end_of-Choice, more_of-Choice, Row_of-Decl}
use Rattle.hs_core.specs.declared.tree.Decl.TheBlock.{end_of-Decl, more_of-Decl, Row_of-Guard, end_of-Guard}
use Rattle.hs_core.specs.declared.tree.Decl.TheBlock.{more_of-Guard, Row_of-Exp, end_of-Exp, more_of-Exp, Row_of-Alt}
use Rattle.hs_core.specs.declared.tree.Decl.TheBlock.{end_of-Alt, more_of-Alt}

abbrev pub names_of_ty : Ty → List OrigName
names_of_ty (Var i) = []
names_of_ty (Con n k) = n ∷ []
names_of_ty (App' s (more_of-Ty f end_of-Ty) z (more_of-Ty a end_of-Ty)) = names_of_ty f ++ names_of_ty a

abbrev pub names_of_written : Written → List OrigName
names_of_written (WVar n) = []
names_of_written (WCon n) = n ∷ []
names_of_written (WApp' s (more_of-Written f end_of-Written) z (more_of-Written a end_of-Written)) =
    names_of_written f ++ names_of_written a

abbrev mutual
  pub names_of_pat : Pat → List OrigName
  names_of_pat (PCon' n s ps) = n ∷ names_of_pats ps
  names_of_pat (PTuple' s ps) = names_of_pats ps
  names_of_pat (PList' s ps) = names_of_pats ps
  names_of_pat (PAs' n s (more_of-Pat p end_of-Pat)) = names_of_pat p
  names_of_pat (PLazy' s (more_of-Pat p end_of-Pat)) = names_of_pat p
  names_of_pat p = []

  pub names_of_pats : {m : _} → Row_of-Pat m → List OrigName
  names_of_pats end_of-Pat = []
  names_of_pats (more_of-Pat p ps) = names_of_pat p ++ names_of_pats ps

abbrev pub names_of_field : FieldDecl → List OrigName
names_of_field f = names_of_written f.ty

abbrev pub names_of_con : ConDecl → List OrigName
names_of_con c = flat_map (λ f. names_of_field f) c.fields

-- locals and declared names are no original names
abbrev mutual
  pub names_of_exp : Exp → List OrigName
  names_of_exp (Local n) = []
  names_of_exp (Global n) = n ∷ []
  names_of_exp (Int v) = []
  names_of_exp (Chr c) = []
  names_of_exp (Str c) = []
  names_of_exp (Apply' s (more_of-Exp e end_of-Exp) z es) = names_of_exp e ++ names_of_exp_row es
  names_of_exp (Lambda' ps s (more_of-Exp e end_of-Exp)) = flat_map (λ p. names_of_pat p) ps ++ names_of_exp e
  names_of_exp (Let' s ds z (more_of-Exp e end_of-Exp)) = names_of_decl_row ds ++ names_of_exp e
  names_of_exp (If' s (more_of-Exp a end_of-Exp) y (more_of-Exp b end_of-Exp) z (more_of-Exp c end_of-Exp)) =
      names_of_exp a ++ (names_of_exp b ++ names_of_exp c)
  names_of_exp (Case' s (more_of-Exp e end_of-Exp) z as') = names_of_exp e ++ names_of_alt_row as'
  names_of_exp (Tuple' s es) = names_of_exp_row es
  names_of_exp (ListOf' s es) = names_of_exp_row es
  names_of_exp (RightSection' s (more_of-Exp a end_of-Exp) z (more_of-Exp b end_of-Exp)) =
      names_of_exp a ++ names_of_exp b
  names_of_exp (Annot' s (more_of-Exp e end_of-Exp) t) = names_of_exp e ++ names_of_written t

  pub names_of_exp_row : {m : _} → Row_of-Exp m → List OrigName
  names_of_exp_row end_of-Exp = []
  names_of_exp_row (more_of-Exp e es) = names_of_exp e ++ names_of_exp_row es

  pub names_of_decl : Decl → List OrigName
  names_of_decl (DataDecl n w ps cs) = flat_map (λ c. names_of_con c) cs
  names_of_decl (SynonymDecl n ps t) = names_of_written t
  names_of_decl (TypeSig n t) = names_of_written t
  names_of_decl (FixityOf n x) = []
  names_of_decl (Clause n ps r) = flat_map (λ p. names_of_pat p) ps ++ names_of_rhs r
  names_of_decl (PatBind p r) = names_of_pat p ++ names_of_rhs r

  pub names_of_decl_row : {m : _} → Row_of-Decl m → List OrigName
  names_of_decl_row end_of-Decl = []
  names_of_decl_row (more_of-Decl d ds) = names_of_decl d ++ names_of_decl_row ds

  pub names_of_rhs : Rhs → List OrigName
  names_of_rhs (Rhs' s cs z ds) = names_of_choice_row cs ++ names_of_decl_row ds

  pub names_of_choice_row : {m : _} → Row_of-Choice m → List OrigName
  names_of_choice_row end_of-Choice = []
  names_of_choice_row (more_of-Choice s gs e cs) = (names_of_guard_row gs ++ names_of_exp e) ++ names_of_choice_row cs

  pub names_of_guard : Guard → List OrigName
  names_of_guard (Test e) = names_of_exp e
  names_of_guard (Bind p e) = names_of_pat p ++ names_of_exp e

  pub names_of_guard_row : {m : _} → Row_of-Guard m → List OrigName
  names_of_guard_row end_of-Guard = []
  names_of_guard_row (more_of-Guard g gs) = names_of_guard g ++ names_of_guard_row gs

  pub names_of_alt : Alt → List OrigName
  names_of_alt (Alt' p r) = names_of_pat p ++ names_of_rhs r

  pub names_of_alt_row : {m : _} → Row_of-Alt m → List OrigName
  names_of_alt_row end_of-Alt = []
  names_of_alt_row (more_of-Alt a as') = names_of_alt a ++ names_of_alt_row as'

abbrev pub names_of_body : Body → List OrigName
names_of_body b = flat_map (λ d. names_of_decl d) b.decls
