-- Filling holes of identities.
use Rattle.std.specs.Prelude.{◌≡◌, ℕ, List, [], ◌∷◌, Option, Some, None, IsSome, unwrap_or, if◌then◌else◌}
use Rattle.std.specs.Str.{bytes_eq}
use Rattle.bp_base.specs.declared.ident.Ident.{Ident}
use Rattle.bp_base.specs.declared.ident.Ident.TheVariants.{Hole, Module, Module'}
use Rattle.bp_base.specs.declared.ident.Unit.{Unit as OfUnit, Unit'}
use Rattle.bp_base.specs.declared.ident.Ident.TheViews.{roll-Unit}
use Rattle.bp_base.specs.declared.ident.Fill.{Fill}
use Rattle.bp_base.specs.declared.ident.Ident.TheBlock.{end_of-Unit, more_of-Unit, Row_of-Fill, end_of-Fill}
use Rattle.bp_base.specs.declared.ident.Ident.TheBlock.{more_of-Fill}

-- what the fills have for a hole
abbrev pub found : List ℕ → List Fill → Option Ident
found n [] = None
found n (f ∷ fs) = if bytes_eq f.hole n then Some f.ident else found n fs

-- what the fills put at a hole: the hole itself where they have nothing for it
abbrev pub at_hole : List ℕ → List Fill → Ident
at_hole n fs = unwrap_or (found n fs) (Hole n)

abbrev mutual
  pub filled : Ident → List Fill → Ident
  filled (Hole n) fs = at_hole n fs
  filled (Module' s (more_of-Unit u end_of-Unit) m) fs = Module (filled_unit u fs) m

  pub filled_unit : OfUnit → List Fill → OfUnit
  filled_unit (Unit' c s r) fs = roll-Unit (record { component = c; fills = filled_row r fs })

  pub filled_row : {m : _} → Row_of-Fill m → List Fill → List Fill
  filled_row end_of-Fill fs = []
  filled_row (more_of-Fill h i r) fs = record { hole = h; ident = filled i fs } ∷ filled_row r fs

abbrev pub composed : List Fill → List Fill → List Fill
composed [] g = []
composed (f ∷ fs) g = record { hole = f.hole; ident = filled f.ident g } ∷ composed fs g

-- the fills have something for each hole that occurs
abbrev mutual
  pub IsFilled : Ident → List Fill → Type 0
  IsFilled (Hole n) fs = IsSome (found n fs)
  IsFilled (Module' s (more_of-Unit u end_of-Unit) m) fs = IsFilledUnit u fs

  pub IsFilledUnit : OfUnit → List Fill → Type 0
  IsFilledUnit (Unit' c s r) fs = IsFilledRow r fs

  pub IsFilledRow : {m : _} → Row_of-Fill m → List Fill → Type 0
  IsFilledRow end_of-Fill fs = Unit {0}
  IsFilledRow (more_of-Fill h i r) fs = IsFilled i fs × IsFilledRow r fs

abbrev pub Composes : Type 0
Composes = (i : Ident) (f g : List Fill) → IsFilled i f → filled (filled i f) g ≡ filled i (composed f g)
