-- What is built for the classes of a table.
use Rattle.std.specs.Prelude.{◌≡◌, ℕ, List, [], ◌∷◌, ◌⊎◌, Option, Some}
use Rattle.bp_base.specs.declared.ident.Ident.{Ident}
use Rattle.bp_base.specs.declared.ident.Ident.TheVariants.{Hole, Module}
use Rattle.bp_base.specs.declared.ident.Unit.{Unit as OfUnit, out-Unit}
use Rattle.bp_base.specs.declared.ident.Ident.TheViews.{roll-Unit}
use Rattle.bp_base.specs.declared.ident.Fill.{Fill}
use Rattle.bp_base.specs.Texts.{Text, Before}
use Rattle.unit_identity.specs.Fill.{filled}
use Rattle.hole_unify.specs.declared.equation.Equation.{Equation}
use Rattle.hole_unify.specs.Table.{Node}
use Rattle.hole_unify.specs.Unifiers.{IsUnifier}
use Rattle.hole_unify.specs.Table.{class_at}
use Rattle.hole_unify.specs.Tables.{In}
use Rattle.hole_unify.specs.Build.{built_at}

-- the fills that are built stand in parallel
pub data Builds (nodes : List Node) (built : List (Option Ident)) : List Fill → List Fill → Type 0 where
  NoFills : Builds nodes built [] []
  MoreFills : (f : Fill) (k : ℕ) (t : Ident) (fs l : List Fill) → class_at f.ident nodes ≡ Some k
      → built_at k built ≡ Some t → Builds nodes built fs l
      → Builds nodes built (f ∷ fs) (record { hole = f.hole; ident = t } ∷ l)

abbrev pub made : OfUnit → List Fill → Text → Ident
made u l m = Module (roll-Unit (record { component = (out-Unit u).component; fills = l })) m

-- the least hole of a class without a module
pub record IsHole (nodes : List Node) (k : ℕ) (t : Ident) : Type 0 where
  pub name : Text
  pub is : t ≡ Hole name
  pub listed : In nodes (Hole name) k
  pub no_module : (u : OfUnit) (m : Text) → In nodes (Module u m) k → ⊥
  pub first : (n : Text) → In nodes (Hole n) k → Before n name → ⊥

-- a module of the class, with what is built for its fills
pub record IsMade (nodes : List Node) (built : List (Option Ident)) (k : ℕ) (t : Ident) : Type 0 where
  pub unit : OfUnit
  pub name : Text
  pub fills : List Fill
  pub listed : In nodes (Module unit name) k
  pub builds : Builds nodes built (out-Unit unit).fills fills
  pub is : t ≡ made unit fills name

abbrev pub IsEntry : List Node → List (Option Ident) → ℕ → Ident → Type 0
IsEntry nodes built k t = IsHole nodes k t ⊎ IsMade nodes built k t

-- each entry is of its class, and every unifier makes of it what it makes of the terms of the class
pub record IsFaithful (es : List Equation) (nodes : List Node) (built : List (Option Ident)) : Type 0 where
  pub entries : (k : ℕ) (t : Ident) → built_at k built ≡ Some t → IsEntry nodes built k t
  pub general : (g : List Fill) → IsUnifier es g → (k : ℕ) (a t : Ident) → built_at k built ≡ Some t → In nodes a k
      → filled t g ≡ filled a g
