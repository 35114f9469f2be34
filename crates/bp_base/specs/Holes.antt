-- Holes in identities.
use Rattle.std.specs.Prelude.{◌≡◌, ℕ, Bool, true, false, ◌||◌, ◌&&◌, List, [], ◌∷◌}
use Rattle.std.specs.Str.{bytes_eq}
use Rattle.bp_base.specs.declared.ident.Ident.{Ident}
use Rattle.bp_base.specs.declared.ident.Ident.TheVariants.{Hole, Module'}
use Rattle.bp_base.specs.declared.ident.Unit.{Unit as OfUnit, Unit'}
use Rattle.bp_base.specs.declared.ident.Fill.{Fill}
use Rattle.bp_base.specs.declared.ident.Ident.TheBlock.{end_of-Unit, more_of-Unit, Row_of-Fill, end_of-Fill}
use Rattle.bp_base.specs.declared.ident.Ident.TheBlock.{more_of-Fill}

-- whether a hole occurs in an identity
abbrev mutual
  pub has_hole : List ℕ → Ident → Bool
  has_hole h (Hole n) = bytes_eq n h
  has_hole h (Module' s (more_of-Unit u end_of-Unit) m) = unit_has_hole h u

  pub unit_has_hole : List ℕ → OfUnit → Bool
  unit_has_hole h (Unit' c s r) = row_has_hole h r

  pub row_has_hole : List ℕ → {m : _} → Row_of-Fill m → Bool
  row_has_hole h end_of-Fill = false
  row_has_hole h (more_of-Fill n i r) = has_hole h i || row_has_hole h r

-- whether an identity has no hole at all
abbrev mutual
  pub closed : Ident → Bool
  closed (Hole n) = false
  closed (Module' s (more_of-Unit u end_of-Unit) m) = unit_closed u

  pub unit_closed : OfUnit → Bool
  unit_closed (Unit' c s r) = row_closed r

  pub row_closed : {m : _} → Row_of-Fill m → Bool
  row_closed end_of-Fill = true
  row_closed (more_of-Fill n i r) = closed i && row_closed r

-- the same of a list of fills
abbrev pub fills_have_hole : List ℕ → List Fill → Bool
fills_have_hole h [] = false
fills_have_hole h (f ∷ fs) = has_hole h f.ident || fills_have_hole h fs

abbrev pub fills_closed : List Fill → Bool
fills_closed [] = true
fills_closed (f ∷ fs) = closed f.ident && fills_closed fs

-- this holds of each hole that occurs
abbrev pub EachHole : (List ℕ → Type 0) → Ident → Type 0
EachHole P i = (h : List ℕ) → has_hole h i ≡ true → P h
