-- The types that a declaration writes for values, in the order of the source: those of type signatures and of
-- annotations, at the top and inside (Haskell 2010 Report, sections 4.4.1 and 3.16).
use Rattle.std.specs.Prelude.{List, [], ◌∷◌, ◌++◌}
use Rattle.hs_core.specs.declared.tree.Written.{Written}
use Rattle.hs_core.specs.declared.tree.Exp.{Exp}
use Rattle.hs_core.specs.declared.tree.Exp.TheVariants.{Local, Global, Int, Chr, Str, Apply', Lambda', Let', If', Case'}
use Rattle.hs_core.specs.declared.tree.Exp.TheVariants.{Tuple', List' as ListOf', RightSection', Annot'}
use Rattle.hs_core.specs.declared.tree.Decl.{Decl}
use Rattle.hs_core.specs.declared.tree.Decl.TheVariants.{DataDecl, SynonymDecl, TypeSig, FixityOf, Clause, PatBind}
use Rattle.hs_core.specs.declared.tree.Rhs.{Rhs, Rhs'}
use Rattle.hs_core.specs.declared.tree.Choice.{Choice}
use Rattle.hs_core.specs.declared.tree.Guard.{Guard}
use Rattle.hs_core.specs.declared.tree.Guard.TheVariants.{Test, Bind}
use Rattle.hs_core.specs.declared.tree.Alt.{Alt, Alt'}
use Rattle.hs_core.specs.declared.tree.Decl.TheBlock.{Row_of-Choice, end_of-Choice, more_of-Choice, Row_of-Decl}
use Rattle.hs_core.specs.declared.tree.Decl.TheBlock.{end_of-Decl, more_of-Decl, Row_of-Guard, end_of-Guard}
use Rattle.hs_core.specs.declared.tree.Decl.TheBlock.{more_of-Guard, Row_of-Exp, end_of-Exp, more_of-Exp, Row_of-Alt}
use Rattle.hs_core.specs.declared.tree.Decl.TheBlock.{end_of-Alt, more_of-Alt}

abbrev mutual
  pub types_in_exp : Exp → List Written
  types_in_exp (Local x) = []
  types_in_exp (Global n) = []
  types_in_exp (Int n) = []
  types_in_exp (Chr c) = []
  types_in_exp (Str cs) = []
  types_in_exp (Apply' s (more_of-Exp f end_of-Exp) z es) = types_in_exp f ++ types_in_exp_row es
  types_in_exp (Lambda' ps s (more_of-Exp e end_of-Exp)) = types_in_exp e
  types_in_exp (Let' s ds z (more_of-Exp e end_of-Exp)) = types_in_decl_row ds ++ types_in_exp e
  types_in_exp (If' s (more_of-Exp a end_of-Exp) y (more_of-Exp b end_of-Exp) z (more_of-Exp c end_of-Exp)) =
      types_in_exp a ++ (types_in_exp b ++ types_in_exp c)
  types_in_exp (Case' s (more_of-Exp e end_of-Exp) z as') = types_in_exp e ++ types_in_alt_row as'
  types_in_exp (Tuple' s es) = types_in_exp_row es
  types_in_exp (ListOf' s es) = types_in_exp_row es
  types_in_exp (RightSection' s (more_of-Exp op end_of-Exp) z (more_of-Exp a end_of-Exp)) = types_in_exp op
      ++ types_in_exp a
  types_in_exp (Annot' s (more_of-Exp e end_of-Exp) t) = types_in_exp e ++ t ∷ []

  pub types_in_exp_row : {m : _} → Row_of-Exp m → List Written
  types_in_exp_row end_of-Exp = []
  types_in_exp_row (more_of-Exp e es) = types_in_exp e ++ types_in_exp_row es

  pub types_in_decl : Decl → List Written
  types_in_decl (DataDecl x w ps cs) = []
  types_in_decl (SynonymDecl x ps t) = []
  types_in_decl (TypeSig x t) = t ∷ []
  types_in_decl (FixityOf x f) = []
  types_in_decl (Clause x ps r) = types_in_rhs r
  types_in_decl (PatBind p r) = types_in_rhs r

  pub types_in_decl_row : {m : _} → Row_of-Decl m → List Written
  types_in_decl_row end_of-Decl = []
  types_in_decl_row (more_of-Decl d ds) = types_in_decl d ++ types_in_decl_row ds

  pub types_in_rhs : Rhs → List Written
  types_in_rhs (Rhs' s cs z ds) = types_in_choice_row cs ++ types_in_decl_row ds

  pub types_in_choice_row : {m : _} → Row_of-Choice m → List Written
  types_in_choice_row end_of-Choice = []
  types_in_choice_row (more_of-Choice s gs e cs) = (types_in_guard_row gs ++ types_in_exp e) ++ types_in_choice_row cs

  pub types_in_guard : Guard → List Written
  types_in_guard (Test e) = types_in_exp e
  types_in_guard (Bind p e) = types_in_exp e

  pub types_in_guard_row : {m : _} → Row_of-Guard m → List Written
  types_in_guard_row end_of-Guard = []
  types_in_guard_row (more_of-Guard g gs) = types_in_guard g ++ types_in_guard_row gs

  pub types_in_alt : Alt → List Written
  types_in_alt (Alt' p r) = types_in_rhs r

  pub types_in_alt_row : {m : _} → Row_of-Alt m → List Written
  types_in_alt_row end_of-Alt = []
  types_in_alt_row (more_of-Alt a as') = types_in_alt a ++ types_in_alt_row as'
