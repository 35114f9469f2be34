-- Identities and units as contracts see them: a hole, or a module of a unit, which is a component with a list of fills.
use Rattle.std.proofs.Common.{◌≡◌, Bool, List, [], ◌∷◌, ap, sym, subst, refl, ◌∙◌}
use Rattle.std.specs.Prelude.{IsTrue}
use Rattle.bp_base.specs.Texts.{Text}
use Rattle.bp_base.specs.declared.ident.Ident.{Ident}
use Rattle.bp_base.specs.declared.ident.Ident.TheVariants.{Hole, Module, Module'}
use Rattle.bp_base.specs.declared.ident.Ident.TheBlock.{hidden-the_row-Unit-0, shown-the_row-Fill-1, end_of-Unit}
use Rattle.bp_base.specs.declared.ident.Ident.TheBlock.{more_of-Unit, Row_of-Fill, end_of-Fill, more_of-Fill}
use Rattle.bp_base.specs.declared.ident.Unit.{Unit as OfUnit, Unit', out-Unit}
use Rattle.bp_base.specs.declared.ident.Ident.TheViews.{roll-Unit, roll-out-Unit}
use Rattle.bp_base.specs.declared.ident.Fill.{Fill}
use mathlib.Core.Former.{list_count, this, none_left}
use denote.Hole.Carrier.{hidden, out, shown}

-- a unit is its two fields
pub unit-same : (a b : OfUnit) → (out-Unit a).component ≡ (out-Unit b).component
    → (out-Unit a).fills ≡ (out-Unit b).fills → a ≡ b
unit-same a b c f = sym (roll-out-Unit a) ∙ (λ i. roll-Unit (record { component = c i; fills = f i })) ∙ roll-out-Unit b

pub ruleset unit_sameness = (unit-same)

-- two units of one component are equal where their fills are
pub units-same : (a b : OfUnit) (la lb : List Fill) (r : Bool) → la ≡ (out-Unit a).fills → lb ≡ (out-Unit b).fills
    → (out-Unit a).component ≡ (out-Unit b).component → (IsTrue r → la ≡ lb) × (la ≡ lb → IsTrue r)
    → (IsTrue r → a ≡ b) × (a ≡ b → IsTrue r)
units-same a b la lb r ea eb c s = (
  (λ t. unit-same a b c (sym ea ∙ s.0 t ∙ eb)),
  (λ e. s.1 (ea ∙ ap (λ u. (out-Unit u).fills) e ∙ sym eb)),
)

-- the fills of a row, as a list
abbrev pub fills_of : {m : _} → Row_of-Fill m → List Fill
fills_of end_of-Fill = []
fills_of (more_of-Fill h i r) = record { hole = h; ident = i } ∷ fills_of r

-- they are those of the unit
pub fills_of-list : (c : Text) (s : List (Unit {0})) (r : Row_of-Fill (list_count this s none_left))
    → fills_of r ≡ (out-Unit (Unit' c s r)).fills
unfolding out-Unit out shown-the_row-Fill-1 shown
fills_of-list c [] end_of-Fill = refl
fills_of-list c (x ∷ s) (more_of-Fill h i r) = ap (λ l. record { hole = h; ident = i } ∷ l) (fills_of-list c s r)

pub component-is : (c : Text) (s : List (Unit {0})) (r : Row_of-Fill (list_count this s none_left))
    → (out-Unit (Unit' c s r)).component ≡ c
unfolding out-Unit out
component-is c s r = refl

pub unit-is : (c : Text) (s : List (Unit {0})) (r : Row_of-Fill (list_count this s none_left))
    → roll-Unit (record { component = c; fills = fills_of r }) ≡ Unit' c s r
unfolding out-Unit out
unit-is c s r = ap (λ l. roll-Unit (record { component = c; fills = l })) (fills_of-list c s r)
    ∙ roll-out-Unit (Unit' c s r)

pub Module-is : (s : _) (u : OfUnit) (m : Text) → Module' s (more_of-Unit u end_of-Unit) m ≡ Module u m
unfolding hidden-the_row-Unit-0 hidden
Module-is s u m = refl

-- a hole has one name
pub Hole-name : (m n : Text) → Hole m ≡ Hole n → m ≡ n
Hole-name m n e = cc

pub Hole-not-Module : (n : Text) (u : OfUnit) (m : Text) → Hole n ≡ Module u m → ⊥
unfolding hidden-the_row-Unit-0 hidden
Hole-not-Module n u m e = cc

-- this holds of the identity of each fill
abbrev pub EachFill : (Ident → Type 0) → List Fill → Type 0
EachFill P [] = Unit {0}
EachFill P (f ∷ fs) = P f.ident × EachFill P fs

-- Induction: what holds of each hole, and of a module where it holds of all that fills its unit, holds of each
-- identity.
module _ (P : Ident → Type 0) (hole : (n : Text) → P (Hole n)) (filled : (u : OfUnit) (m : Text)
    → EachFill P (out-Unit u).fills → P (Module u m)) where
  mutual
    pub ident-induction : (i : Ident) → P i
    ident-induction (Hole n) = hole n
    ident-induction (Module' s (more_of-Unit u end_of-Unit) m) =
        subst P (sym (Module-is s u m)) (filled u m (unit-induction u))

    pub unit-induction : (u : OfUnit) → EachFill P (out-Unit u).fills
    unit-induction (Unit' c s r) = subst (EachFill P) (fills_of-list c s r) (row-induction r)

    row-induction : {m : _} (r : Row_of-Fill m) → EachFill P (fills_of r)
    row-induction end_of-Fill = tt
    row-induction (more_of-Fill h i r) = (ident-induction i, row-induction r)
