-- The equations of `has_hole` and `closed` at the types as the code sees them.
use Rattle.std.proofs.Common.{◌≡◌, inl, inr, ℕ, Bool, true, ◌||◌, ◌&&◌, List, [], ◌∷◌, refl, ap, sym, ◌∙◌}
use Rattle.std.proofs.lemmas.Bool.{or_cases, or_left, or_right}
use Rattle.bp_base.specs.declared.ident.Ident.{Ident}
use Rattle.bp_base.specs.declared.ident.Ident.TheVariants.{Module}
use Rattle.bp_base.specs.declared.ident.Unit.{Unit as OfUnit, Unit', out-Unit}
use Rattle.bp_base.specs.declared.ident.Fill.{Fill}
use Rattle.bp_base.specs.declared.ident.Ident.TheBlock.{hidden-the_row-Unit-0, shown-the_row-Fill-1, Row_of-Fill}
use Rattle.bp_base.specs.declared.ident.Ident.TheBlock.{end_of-Fill, more_of-Fill}
use Rattle.bp_base.specs.Holes.{has_hole, unit_has_hole, row_has_hole, closed, unit_closed, row_closed, fills_have_hole}
use Rattle.bp_base.specs.Holes.{fills_closed, EachHole}
use Rattle.bp_base.proofs.IdentLemmas.{EachFill}
use denote.Hole.Carrier.{hidden, out, shown}
use mathlib.Core.Former.{list_count, this, none_left}

pub has_hole-Module : (h : List ℕ) (u : OfUnit) (m : List ℕ) → has_hole h (Module u m) ≡ unit_has_hole h u
unfolding hidden-the_row-Unit-0 hidden
has_hole-Module h u m = refl

has_hole-row : (h c : List ℕ) (s : List (Unit {0})) (r : Row_of-Fill (list_count this s none_left))
    → row_has_hole h r ≡ fills_have_hole h ((out-Unit (Unit' c s r)).fills)
unfolding out-Unit out shown-the_row-Fill-1 shown
has_hole-row h c [] end_of-Fill = refl
has_hole-row h c (x ∷ s) (more_of-Fill n i r) = ap (λ b. has_hole h i || b) (has_hole-row h c s r)

pub unit_has_hole-out : (h : List ℕ) (u : OfUnit) → unit_has_hole h u ≡ fills_have_hole h (out-Unit u).fills
unit_has_hole-out h (Unit' c s r) = has_hole-row h c s r

pub closed-Module : (u : OfUnit) (m : List ℕ) → closed (Module u m) ≡ unit_closed u
unfolding hidden-the_row-Unit-0 hidden
closed-Module u m = refl

closed-row : (c : List ℕ) (s : List (Unit {0})) (r : Row_of-Fill (list_count this s none_left))
    → row_closed r ≡ fills_closed ((out-Unit (Unit' c s r)).fills)
unfolding out-Unit out shown-the_row-Fill-1 shown
closed-row c [] end_of-Fill = refl
closed-row c (x ∷ s) (more_of-Fill n i r) = ap (λ b. closed i && b) (closed-row c s r)

pub unit_closed-out : (u : OfUnit) → unit_closed u ≡ fills_closed (out-Unit u).fills
unit_closed-out (Unit' c s r) = closed-row c s r

pub ruleset hole_equations = (has_hole-Module, unit_has_hole-out, closed-Module, unit_closed-out)

-- what a recursive call says of the whole identity
pub closed-said : (i : Ident) (u v : OfUnit) (m : List ℕ) (r : Bool) → i ≡ Module u m → v ≡ u → r ≡ unit_closed v
    → r ≡ closed i
closed-said i u v m r e w p = p ∙ ap unit_closed w ∙ sym (ap closed e ∙ closed-Module u m)

pub has_hole-said : (h : List ℕ) (i : Ident) (u v : OfUnit) (m : List ℕ) (r : Bool) → i ≡ Module u m → v ≡ u
    → r ≡ unit_has_hole h v → r ≡ has_hole h i
has_hole-said h i u v m r e w p = p ∙ ap (unit_has_hole h) w ∙ sym (ap (has_hole h) e ∙ has_hole-Module h u m)

-- what holds of each hole that occurs in a module holds of each hole that occurs in its fills
pub EachHole-fills : (P : List ℕ → Type 0) (u : OfUnit) (m : List ℕ) → EachHole P (Module u m)
    → EachFill (EachHole P) (out-Unit u).fills
EachHole-fills P u m h = go (out-Unit u).fills (λ n e. h n (has_hole-Module n u m ∙ (unit_has_hole-out n u ∙ e)))
  where
    go : (fs : List Fill) → ((n : List ℕ) → fills_have_hole n fs ≡ true → P n) → EachFill (EachHole P) fs
    go [] k = tt
    go (f ∷ fs) k = (
      (λ n e. k n (or_left (has_hole n f.ident) (fills_have_hole n fs) e)),
      go fs (λ n e. k n (or_right (has_hole n f.ident) (fills_have_hole n fs) e)),
    )

-- and the other way round
pub fills-EachHole : (P : List ℕ → Type 0) (u : OfUnit) (m : List ℕ) → EachFill (EachHole P) (out-Unit u).fills
    → EachHole P (Module u m)
fills-EachHole P u m h = λ n e. go (out-Unit u).fills h n (sym (unit_has_hole-out n u)
    ∙ (sym (has_hole-Module n u m) ∙ e))
  where
    go : (fs : List Fill) → EachFill (EachHole P) fs → (n : List ℕ) → fills_have_hole n fs ≡ true → P n
    go [] k n e = cc
    go (f ∷ fs) k n e = elim (or_cases (has_hole n f.ident) (fills_have_hole n fs) e) [
      | inl x ↦ k.0 n x
      | inr x ↦
          go fs k.1 n x
    ]

-- what fills every hole, for the law of linkings
pub ruleset hole_laws = (EachHole-fills, fills-EachHole)
