-- The classes of identities that equations make one.
use Rattle.std.specs.Prelude.{◌≡◌, ◌≢◌, List, Some}
use Rattle.bp_base.specs.declared.ident.Ident.{Ident}
use Rattle.bp_base.specs.declared.ident.Ident.TheVariants.{Hole, Module}
use Rattle.bp_base.specs.declared.ident.Unit.{Unit as OfUnit, out-Unit}
use Rattle.bp_base.specs.Lists.{Among}
use Rattle.bp_base.specs.Texts.{Text, Before}
use Rattle.unit_identity.specs.Fill.{found}
use Rattle.hole_unify.specs.declared.equation.Equation.{Equation}
use Rattle.hole_unify.specs.declared.equation.Head.{Head}

-- two identities are in one class
pub data Same (es : List Equation) : Ident → Ident → Type 0 where
  Stated : (e : Equation) → Among e es → Same es e.left e.right
  Itself : (a : Ident) → Same es a a
  Turned : (a b : Ident) → Same es a b → Same es b a
  Joined : (a b c : Ident) → Same es a b → Same es b c → Same es a c
  AtHole : (u v : OfUnit) (m h : Text) (i j : Ident) → (out-Unit u).component ≡ (out-Unit v).component
      → Same es (Module u m) (Module v m) → found h (out-Unit u).fills ≡ Some i → found h (out-Unit v).fills ≡ Some j
      → Same es i j

abbrev pub head_of : OfUnit → Text → Head
head_of u m = record { component = (out-Unit u).component; «module» = m }

-- one class has these two different heads
pub record HasHeads (es : List Equation) (one other : Head) : Type 0 where
  pub differ : one ≢ other
  pub class : (u : OfUnit) × (v : OfUnit) × (m : Text) × (n : Text) × Same es (Module u m) (Module v n)
      × (head_of u m ≡ one) × (head_of v n ≡ other)

-- the class of one identity reaches that of another one through fills
pub data Reaches (es : List Equation) : Ident → Ident → Type 0 where
  Next : (a b : Ident) (u : OfUnit) (m h : Text) (i : Ident) → Same es a (Module u m)
      → found h (out-Unit u).fills ≡ Some i → Same es i b → Reaches es a b
  Through : (a b c : Ident) → Reaches es a b → Reaches es b c → Reaches es a c

-- the least hole whose class reaches itself
pub record IsLeastCycle (es : List Equation) (hole : Text) : Type 0 where
  pub cycle : Reaches es (Hole hole) (Hole hole)
  pub least : (n : Text) → Reaches es (Hole n) (Hole n) → Before n hole → ⊥
