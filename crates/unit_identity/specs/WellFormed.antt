-- Well formed identities: each name has its form, and the holes of each unit rise strictly in byte order.
use Rattle.std.specs.Prelude.{Bool, true, ◌&&◌, List, [], ◌∷◌, map}
use Rattle.std.specs.Ordering.{nat_cmp, is_lt}
use Rattle.std.specs.Cmp.Lexicographic.{slice_cmp}
use Rattle.bp_base.specs.Texts.{Text}
use Rattle.bp_base.specs.Names.{is_component_name, is_module_name}
use Rattle.bp_base.specs.declared.ident.Ident.{Ident}
use Rattle.bp_base.specs.declared.ident.Ident.TheVariants.{Hole, Module'}
use Rattle.bp_base.specs.declared.ident.Unit.{Unit as OfUnit, Unit'}
use Rattle.bp_base.specs.declared.ident.Fill.{Fill}
use Rattle.bp_base.specs.declared.ident.Ident.TheBlock.{end_of-Unit, more_of-Unit, Row_of-Fill, end_of-Fill}
use Rattle.bp_base.specs.declared.ident.Ident.TheBlock.{more_of-Fill}

-- each text stands before the next one, the first of them behind n
abbrev pub rising_after : Text → List Text → Bool
rising_after n [] = true
rising_after n (m ∷ ms) = is_lt (slice_cmp nat_cmp n m) && rising_after m ms

abbrev pub rising : List Text → Bool
rising [] = true
rising (n ∷ ns) = rising_after n ns

-- the holes of a row of fills
abbrev pub row_holes : {m : _} → Row_of-Fill m → List Text
row_holes end_of-Fill = []
row_holes (more_of-Fill h i r) = h ∷ row_holes r

abbrev mutual
  pub well_formed : Ident → Bool
  well_formed (Hole n) = is_module_name n
  well_formed (Module' s (more_of-Unit u end_of-Unit) m) = well_formed_unit u && is_module_name m

  pub well_formed_unit : OfUnit → Bool
  well_formed_unit (Unit' c s r) = is_component_name c && well_formed_row r && rising (row_holes r)

  -- each fill of a row has a module name as its hole, and a well formed identity
  pub well_formed_row : {m : _} → Row_of-Fill m → Bool
  well_formed_row end_of-Fill = true
  well_formed_row (more_of-Fill h i r) = is_module_name h && well_formed i && well_formed_row r

-- the same of a list of fills
abbrev pub well_formed_fills : List Fill → Bool
well_formed_fills [] = true
well_formed_fills (f ∷ fs) = is_module_name f.hole && well_formed f.ident && well_formed_fills fs

abbrev pub holes_of : List Fill → List Text
holes_of fills = map (λ f. f.hole) fills
