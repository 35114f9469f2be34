-- Which literals a printer writes and a lexer reads: integers below 2^63, and characters that there are.
use Rattle.std.specs.Prelude.{ℕ, Bool, true, ◌&&◌, nat_le, List, map}
use Rattle.hs_forms.specs.Limits.{all_of}
use Rattle.hs_core.specs.declared.tree.Pat.{Pat}
use Rattle.hs_core.specs.declared.tree.Pat.TheVariants.{PInt, PChr, PStr, PCon', PTuple', PList', PAs', PLazy'}
use Rattle.hs_core.specs.declared.tree.Pat.TheBlock.{Row_of-Pat, end_of-Pat, more_of-Pat}
use Rattle.hs_core.specs.declared.tree.Decl.{Decl}
use Rattle.hs_core.specs.declared.tree.Decl.TheVariants.{FixityOf, Clause, PatBind}
use Rattle.hs_core.specs.declared.tree.Exp.{Exp}
use Rattle.hs_core.specs.declared.tree.Exp.TheVariants.{Int, Chr, Str, Apply', Lambda', Let', If', Case'}
use Rattle.hs_core.specs.declared.tree.Exp.TheVariants.{Tuple', List' as ListOf', RightSection', Annot'}
use Rattle.hs_core.specs.declared.tree.Rhs.{Rhs, Rhs'}
use Rattle.hs_core.specs.declared.tree.Guard.{Guard}
use Rattle.hs_core.specs.declared.tree.Guard.TheVariants.{Test, Bind}
use Rattle.hs_core.specs.declared.tree.Alt.{Alt, Alt'}
use Rattle.hs_core.specs.declared.tree.Decl.TheBlock.{Row_of-Choice, end_of-Choice, more_of-Choice, Row_of-Decl}
use Rattle.hs_core.specs.declared.tree.Decl.TheBlock.{end_of-Decl, more_of-Decl, Row_of-Guard, end_of-Guard}
use Rattle.hs_core.specs.declared.tree.Decl.TheBlock.{more_of-Guard, Row_of-Exp, end_of-Exp, more_of-Exp, Row_of-Alt}
use Rattle.hs_core.specs.declared.tree.Decl.TheBlock.{end_of-Alt, more_of-Alt}
use Rattle.flat_text.specs.declared.flat.FlatModule.{FlatModule}

abbrev pub is_integer : ℕ → Bool
is_integer value = nat_le value 9223372036854775807

abbrev pub is_code : ℕ → Bool
is_code code = nat_le code 1114111

abbrev pub are_codes : List ℕ → Bool
are_codes text = all_of (map is_code text)

abbrev mutual
  pub has_literals_pat : Pat → Bool
  has_literals_pat (PInt negative value) = is_integer value
  has_literals_pat (PChr code) = is_code code
  has_literals_pat (PStr text) = are_codes text
  has_literals_pat (PCon' name s ps) = have_literals_pats ps
  has_literals_pat (PTuple' s ps) = have_literals_pats ps
  has_literals_pat (PList' s ps) = have_literals_pats ps
  has_literals_pat (PAs' name s (more_of-Pat pat end_of-Pat)) = has_literals_pat pat
  has_literals_pat (PLazy' s (more_of-Pat pat end_of-Pat)) = has_literals_pat pat
  has_literals_pat _ = true

  pub have_literals_pats : {m : _} → Row_of-Pat m → Bool
  have_literals_pats end_of-Pat = true
  have_literals_pats (more_of-Pat pat ps) = has_literals_pat pat && have_literals_pats ps

abbrev mutual
  pub has_literals_exp : Exp → Bool
  has_literals_exp (Int value) = is_integer value
  has_literals_exp (Chr code) = is_code code
  has_literals_exp (Str text) = are_codes text
  has_literals_exp (Apply' s (more_of-Exp x end_of-Exp) z es) = has_literals_exp x && have_literals_exps es
  has_literals_exp (Lambda' ps s (more_of-Exp x end_of-Exp)) =
      all_of (map has_literals_pat ps) && has_literals_exp x
  has_literals_exp (Let' s ds z (more_of-Exp x end_of-Exp)) = have_literals_decls ds && has_literals_exp x
  has_literals_exp (If' s (more_of-Exp a end_of-Exp) y (more_of-Exp b end_of-Exp) z (more_of-Exp c end_of-Exp)) =
      has_literals_exp a && (has_literals_exp b && has_literals_exp c)
  has_literals_exp (Case' s (more_of-Exp x end_of-Exp) z as') = has_literals_exp x && have_literals_alts as'
  has_literals_exp (Tuple' s es) = have_literals_exps es
  has_literals_exp (ListOf' s es) = have_literals_exps es
  has_literals_exp (RightSection' s (more_of-Exp o end_of-Exp) z (more_of-Exp a end_of-Exp)) = has_literals_exp a
  has_literals_exp (Annot' s (more_of-Exp x end_of-Exp) ty) = has_literals_exp x
  has_literals_exp _ = true

  pub have_literals_exps : {m : _} → Row_of-Exp m → Bool
  have_literals_exps end_of-Exp = true
  have_literals_exps (more_of-Exp x es) = has_literals_exp x && have_literals_exps es

  pub has_literals_decl : Decl → Bool
  has_literals_decl (FixityOf occ fixity) = is_integer fixity.level
  has_literals_decl (Clause occ ps rhs) = all_of (map has_literals_pat ps) && has_literals_rhs rhs
  has_literals_decl (PatBind pat rhs) = has_literals_pat pat && has_literals_rhs rhs
  has_literals_decl _ = true

  pub have_literals_decls : {m : _} → Row_of-Decl m → Bool
  have_literals_decls end_of-Decl = true
  have_literals_decls (more_of-Decl d ds) = has_literals_decl d && have_literals_decls ds

  pub has_literals_rhs : Rhs → Bool
  has_literals_rhs (Rhs' s cs z ds) = have_literals_choices cs && have_literals_decls ds

  pub have_literals_choices : {m : _} → Row_of-Choice m → Bool
  have_literals_choices end_of-Choice = true
  have_literals_choices (more_of-Choice s gs x cs) =
      have_literals_guards gs && (has_literals_exp x && have_literals_choices cs)

  pub has_literals_guard : Guard → Bool
  has_literals_guard (Test x) = has_literals_exp x
  has_literals_guard (Bind pat x) = has_literals_pat pat && has_literals_exp x

  pub have_literals_guards : {m : _} → Row_of-Guard m → Bool
  have_literals_guards end_of-Guard = true
  have_literals_guards (more_of-Guard g gs) = has_literals_guard g && have_literals_guards gs

  pub has_literals_alt : Alt → Bool
  has_literals_alt (Alt' pat rhs) = has_literals_pat pat && has_literals_rhs rhs

  pub have_literals_alts : {m : _} → Row_of-Alt m → Bool
  have_literals_alts end_of-Alt = true
  have_literals_alts (more_of-Alt a as') = has_literals_alt a && have_literals_alts as'

-- Each literal of the module is one that the lexer reads as itself.
abbrev pub has_lawful_literals : FlatModule → Bool
has_lawful_literals m = all_of (map has_literals_decl m.decls)
