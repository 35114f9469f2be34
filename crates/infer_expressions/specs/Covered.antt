-- Which expressions inference covers: those in which neither local declarations nor annotations occur.
use Rattle.std.specs.Prelude.{◌⊎◌, List, [], ◌∷◌}
use Rattle.hs_core.specs.declared.tree.Exp.{Exp}
use Rattle.hs_core.specs.declared.tree.Exp.TheVariants.{Local, Global, Int, Chr, Str, Apply', Lambda', Let', If', Case'}
use Rattle.hs_core.specs.declared.tree.Exp.TheVariants.{Tuple', List' as ListOf', RightSection', Annot'}
use Rattle.hs_core.specs.declared.tree.Rhs.{Rhs, Rhs'}
use Rattle.hs_core.specs.declared.tree.Guard.{Guard}
use Rattle.hs_core.specs.declared.tree.Guard.TheVariants.{Test, Bind}
use Rattle.hs_core.specs.declared.tree.Alt.{Alt, Alt'}
use Rattle.hs_core.specs.declared.tree.Choice.{Choice}
use Rattle.hs_core.specs.declared.tree.Decl.TheBlock.{Row_of-Choice, end_of-Choice, more_of-Choice, Row_of-Decl}
use Rattle.hs_core.specs.declared.tree.Decl.TheBlock.{end_of-Decl, more_of-Decl, Row_of-Guard, end_of-Guard}
use Rattle.hs_core.specs.declared.tree.Decl.TheBlock.{more_of-Guard, Row_of-Exp, end_of-Exp, more_of-Exp, Row_of-Alt}
use Rattle.hs_core.specs.declared.tree.Decl.TheBlock.{end_of-Alt, more_of-Alt}

-- there are declarations
abbrev pub AnyDecl : {m : _} → Row_of-Decl m → Type 0
AnyDecl end_of-Decl = ⊥
AnyDecl (more_of-Decl d ds) = Unit {0}

-- local declarations or an annotation occur in an expression
abbrev mutual
  pub IsUncovered : Exp → Type 0
  IsUncovered (Local x) = ⊥
  IsUncovered (Global n) = ⊥
  IsUncovered (Int n) = ⊥
  IsUncovered (Chr c) = ⊥
  IsUncovered (Str cs) = ⊥
  IsUncovered (Apply' s (more_of-Exp f end_of-Exp) z es) = IsUncovered f ⊎ AnyUncovered es
  IsUncovered (Lambda' ps s (more_of-Exp e end_of-Exp)) = IsUncovered e
  IsUncovered (Let' s ds z (more_of-Exp e end_of-Exp)) = Unit {0}
  IsUncovered (If' s (more_of-Exp a end_of-Exp) y (more_of-Exp b end_of-Exp) z (more_of-Exp c end_of-Exp)) =
      IsUncovered a ⊎ (IsUncovered b ⊎ IsUncovered c)
  IsUncovered (Case' s (more_of-Exp e end_of-Exp) z alts) = IsUncovered e ⊎ AnyAltUncovered alts
  IsUncovered (Tuple' s es) = AnyUncovered es
  IsUncovered (ListOf' s es) = AnyUncovered es
  IsUncovered (RightSection' s (more_of-Exp op end_of-Exp) z (more_of-Exp e end_of-Exp)) =
      IsUncovered op ⊎ IsUncovered e
  IsUncovered (Annot' s (more_of-Exp e end_of-Exp) w) = Unit {0}

  pub AnyUncovered : {m : _} → Row_of-Exp m → Type 0
  AnyUncovered end_of-Exp = ⊥
  AnyUncovered (more_of-Exp e es) = IsUncovered e ⊎ AnyUncovered es

  pub AnyAltUncovered : {m : _} → Row_of-Alt m → Type 0
  AnyAltUncovered end_of-Alt = ⊥
  AnyAltUncovered (more_of-Alt a alts) = IsAltUncovered a ⊎ AnyAltUncovered alts

  pub IsAltUncovered : Alt → Type 0
  IsAltUncovered (Alt' p r) = IsSideUncovered r

  pub IsSideUncovered : Rhs → Type 0
  IsSideUncovered (Rhs' s cs z ds) = AnyDecl ds ⊎ AnyChoiceUncovered cs

  pub AnyChoiceUncovered : {m : _} → Row_of-Choice m → Type 0
  AnyChoiceUncovered end_of-Choice = ⊥
  AnyChoiceUncovered (more_of-Choice s gs e cs) = (AnyGuardUncovered gs ⊎ IsUncovered e) ⊎ AnyChoiceUncovered cs

  pub AnyGuardUncovered : {m : _} → Row_of-Guard m → Type 0
  AnyGuardUncovered end_of-Guard = ⊥
  AnyGuardUncovered (more_of-Guard g gs) = IsGuardUncovered g ⊎ AnyGuardUncovered gs

  pub IsGuardUncovered : Guard → Type 0
  IsGuardUncovered (Test e) = IsUncovered e
  IsGuardUncovered (Bind p e) = IsUncovered e

-- one of these is not covered
abbrev pub SomeUncovered : List Exp → Type 0
SomeUncovered [] = ⊥
SomeUncovered (e ∷ es) = IsUncovered e ⊎ SomeUncovered es

abbrev pub SomeAltUncovered : List Alt → Type 0
SomeAltUncovered [] = ⊥
SomeAltUncovered (a ∷ alts) = IsAltUncovered a ⊎ SomeAltUncovered alts

abbrev pub SomeGuardUncovered : List Guard → Type 0
SomeGuardUncovered [] = ⊥
SomeGuardUncovered (g ∷ guards) = IsGuardUncovered g ⊎ SomeGuardUncovered guards

-- an expression behind guards
abbrev pub IsChoiceUncovered : Choice → Type 0
IsChoiceUncovered c = SomeGuardUncovered c.guards ⊎ IsUncovered c.exp

abbrev pub SomeChoiceUncovered : List Choice → Type 0
SomeChoiceUncovered [] = ⊥
SomeChoiceUncovered (c ∷ choices) = IsChoiceUncovered c ⊎ SomeChoiceUncovered choices
