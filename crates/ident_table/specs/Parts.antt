-- An identity and the identities below it.
use Rattle.std.specs.Prelude.{List, [], ◌∷◌, ◌++◌}
use Rattle.bp_base.specs.declared.ident.Ident.{Ident}
use Rattle.bp_base.specs.declared.ident.Ident.TheVariants.{Hole, Module, Module'}
use Rattle.bp_base.specs.declared.ident.Unit.{Unit as OfUnit, Unit'}
use Rattle.bp_base.specs.declared.ident.Fill.{Fill}
use Rattle.bp_base.specs.declared.ident.Ident.TheBlock.{end_of-Unit, more_of-Unit, Row_of-Fill, end_of-Fill}
use Rattle.bp_base.specs.declared.ident.Ident.TheBlock.{more_of-Fill}

-- an identity, and those below it
abbrev mutual
  pub terms_of : Ident → List Ident
  terms_of (Hole n) = Hole n ∷ []
  terms_of (Module' s (more_of-Unit u end_of-Unit) m) = Module u m ∷ terms_below u

  pub terms_below : OfUnit → List Ident
  terms_below (Unit' c s r) = terms_of_row r

  pub terms_of_row : {m : _} → Row_of-Fill m → List Ident
  terms_of_row end_of-Fill = []
  terms_of_row (more_of-Fill h i r) = terms_of i ++ terms_of_row r

abbrev pub terms_in_fills : List Fill → List Ident
terms_in_fills [] = []
terms_in_fills (f ∷ fs) = terms_of f.ident ++ terms_in_fills fs
