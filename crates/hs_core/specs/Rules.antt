-- Rules on declarations that are no matter of types: what may not stand twice, and that a type signature has a binding
-- (Haskell
-- 2010 Report, sections 3.3, 3.17.1, 4.4.1 and 4.4.3).
use Rattle.std.specs.Prelude.{ℕ, Bool, false, ◌&&◌, nat_eq, nat_lt, List, [], ◌∷◌, ◌++◌, length, flat_map}
use Rattle.std.specs.Prelude.{if◌then◌else◌}
use Rattle.std.specs.Str.{bytes_eq}
use Rattle.bp_base.specs.Texts.{Text}
use Rattle.bp_base.specs.Lists.{Among, AreDistinct}
use Rattle.hs_core.specs.declared.tree.Written.{Written}
use Rattle.hs_core.specs.declared.tree.Exp.{Exp}
use Rattle.hs_core.specs.declared.tree.Exp.TheVariants.{Local, Global, Int, Chr, Str, Apply', Lambda', Let', If', Case'}
use Rattle.hs_core.specs.declared.tree.Exp.TheVariants.{Tuple', List' as ListOf', RightSection', Annot'}
use Rattle.hs_core.specs.declared.tree.Decl.{Decl}
use Rattle.hs_core.specs.declared.tree.Decl.TheVariants.{DataDecl, SynonymDecl, TypeSig, FixityOf, Clause, PatBind}
use Rattle.hs_core.specs.declared.tree.Rhs.{Rhs, Rhs'}
use Rattle.hs_core.specs.declared.tree.Guard.{Guard}
use Rattle.hs_core.specs.declared.tree.Guard.TheVariants.{Test, Bind}
use Rattle.hs_core.specs.declared.tree.Alt.{Alt, Alt'}
use Rattle.hs_core.specs.declared.tree.Decl.TheBlock.{Row_of-Choice, end_of-Choice, more_of-Choice, Row_of-Decl}
use Rattle.hs_core.specs.declared.tree.Decl.TheBlock.{end_of-Decl, more_of-Decl, Row_of-Guard, end_of-Guard}
use Rattle.hs_core.specs.declared.tree.Decl.TheBlock.{more_of-Guard, Row_of-Exp, end_of-Exp, more_of-Exp, Row_of-Alt}
use Rattle.hs_core.specs.declared.tree.Decl.TheBlock.{end_of-Alt, more_of-Alt}
use Rattle.hs_core.specs.FreeNames.{pattern_names}

-- what a declaration is to these rules
pub data Item : Type 0 where
  clause : (name : Text) (arity : ℕ) → Item
  pattern_of : (names : List Text) → Item
  signature : (name : Text) → Item
  other : Item

abbrev pub item_of : Decl → Item
item_of (DataDecl x w ps cs) = other
item_of (SynonymDecl x ps t) = other
item_of (TypeSig x t) = signature x
item_of (FixityOf x f) = other
item_of (Clause x ps r) = clause x (length ps)
item_of (PatBind p r) = pattern_of (pattern_names p)

abbrev pub items_of : {m : _} → Row_of-Decl m → List Item
items_of end_of-Decl = []
items_of (more_of-Decl d ds) = item_of d ∷ items_of ds

-- The next item is a clause of the same name with as many arguments, and it has some: then both are of one binding.
abbrev pub continues : Text → ℕ → List Item → Bool
continues x n (clause y m ∷ rest) = bytes_eq x y && nat_eq n m && nat_lt 0 n
continues x n items = false

-- the names that bindings bind, once for each binding
abbrev pub items_bound : List Item → List Text
items_bound [] = []
items_bound (clause x n ∷ rest) = if continues x n rest then items_bound rest else x ∷ items_bound rest
items_bound (pattern_of xs ∷ rest) = xs ++ items_bound rest
items_bound (signature x ∷ rest) = items_bound rest
items_bound (other ∷ rest) = items_bound rest

abbrev pub items_signed : List Item → List Text
items_signed [] = []
items_signed (clause x n ∷ rest) = items_signed rest
items_signed (pattern_of xs ∷ rest) = items_signed rest
items_signed (signature x ∷ rest) = x ∷ items_signed rest
items_signed (other ∷ rest) = items_signed rest

abbrev pub AllIn : List Text → List Text → Type 0
AllIn [] ys = Unit {0}
AllIn (x ∷ xs) ys = Among x ys × AllIn xs ys

-- No name is bound by two bindings, none has two type signatures, and each type signature has a binding.
pub record IsGroupOfBindings (items : List Item) : Type 0 where
  pub bound_once : AreDistinct (items_bound items)
  pub signed_once : AreDistinct (items_signed items)
  pub signed_bound : AllIn (items_signed items) (items_bound items)

-- what is asked of each written type inside an expression
abbrev pub WrittenTest : Type 1
WrittenTest = Written → Type 0

-- The rules hold in all local declarations, no variable stands twice in the patterns of a clause, a lambda, an
-- alternative or a
-- guard, and each written type is as it should be.
abbrev mutual
  pub KeepsRules : WrittenTest → Exp → Type 0
  KeepsRules Good (Local x) = Unit {0}
  KeepsRules Good (Global n) = Unit {0}
  KeepsRules Good (Int n) = Unit {0}
  KeepsRules Good (Chr c) = Unit {0}
  KeepsRules Good (Str cs) = Unit {0}
  KeepsRules Good (Apply' s (more_of-Exp f end_of-Exp) z es) = KeepsRules Good f × AllKeepRules Good es
  KeepsRules Good (Lambda' ps s (more_of-Exp e end_of-Exp)) = AreDistinct (flat_map pattern_names ps)
      × KeepsRules Good e
  KeepsRules Good (Let' s ds z (more_of-Exp e end_of-Exp)) = IsGroupOfBindings (items_of ds) × DeclsKeepRules Good ds
      × KeepsRules Good e
  KeepsRules Good (If' s (more_of-Exp a end_of-Exp) y (more_of-Exp b end_of-Exp) z (more_of-Exp c end_of-Exp)) =
      KeepsRules Good a × KeepsRules Good b × KeepsRules Good c
  KeepsRules Good (Case' s (more_of-Exp e end_of-Exp) z as') = KeepsRules Good e × AlternativesKeepRules Good as'
  KeepsRules Good (Tuple' s es) = AllKeepRules Good es
  KeepsRules Good (ListOf' s es) = AllKeepRules Good es
  KeepsRules Good (RightSection' s (more_of-Exp op end_of-Exp) z (more_of-Exp a end_of-Exp)) = KeepsRules Good op
      × KeepsRules Good a
  KeepsRules Good (Annot' s (more_of-Exp e end_of-Exp) t) = KeepsRules Good e × Good t

  pub AllKeepRules : WrittenTest → {m : _} → Row_of-Exp m → Type 0
  AllKeepRules Good end_of-Exp = Unit {0}
  AllKeepRules Good (more_of-Exp e es) = KeepsRules Good e × AllKeepRules Good es

  pub AlternativesKeepRules : WrittenTest → {m : _} → Row_of-Alt m → Type 0
  AlternativesKeepRules Good end_of-Alt = Unit {0}
  AlternativesKeepRules Good (more_of-Alt a as') = AlternativeKeepsRules Good a × AlternativesKeepRules Good as'

  pub AlternativeKeepsRules : WrittenTest → Alt → Type 0
  AlternativeKeepsRules Good (Alt' p r) = AreDistinct (pattern_names p) × RightKeepsRules Good r

  pub RightKeepsRules : WrittenTest → Rhs → Type 0
  RightKeepsRules Good (Rhs' s cs z ds) = IsGroupOfBindings (items_of ds) × DeclsKeepRules Good ds
      × ChoicesKeepRules Good cs

  pub ChoicesKeepRules : WrittenTest → {m : _} → Row_of-Choice m → Type 0
  ChoicesKeepRules Good end_of-Choice = Unit {0}
  ChoicesKeepRules Good (more_of-Choice s gs e cs) = GuardsKeepRules Good gs × KeepsRules Good e
      × ChoicesKeepRules Good cs

  pub GuardsKeepRules : WrittenTest → {m : _} → Row_of-Guard m → Type 0
  GuardsKeepRules Good end_of-Guard = Unit {0}
  GuardsKeepRules Good (more_of-Guard g gs) = GuardKeepsRules Good g × GuardsKeepRules Good gs

  pub GuardKeepsRules : WrittenTest → Guard → Type 0
  GuardKeepsRules Good (Test e) = KeepsRules Good e
  GuardKeepsRules Good (Bind p e) = AreDistinct (pattern_names p) × KeepsRules Good e

  pub DeclsKeepRules : WrittenTest → {m : _} → Row_of-Decl m → Type 0
  DeclsKeepRules Good end_of-Decl = Unit {0}
  DeclsKeepRules Good (more_of-Decl d ds) = DeclKeepsRules Good d × DeclsKeepRules Good ds

  pub DeclKeepsRules : WrittenTest → Decl → Type 0
  DeclKeepsRules Good (DataDecl x w ps cs) = Unit {0}
  DeclKeepsRules Good (SynonymDecl x ps t) = Unit {0}
  DeclKeepsRules Good (TypeSig x t) = Good t
  DeclKeepsRules Good (FixityOf x f) = Unit {0}
  DeclKeepsRules Good (Clause x ps r) = AreDistinct (flat_map pattern_names ps) × RightKeepsRules Good r
  DeclKeepsRules Good (PatBind p r) = RightKeepsRules Good r
