-- The equations of `well_formed` at the types as the code sees them, and what it says of names.
use Rattle.std.proofs.Common.{◌≡◌, ◌&&◌, List, [], ◌∷◌, refl, ap}
use Rattle.bp_base.specs.Texts.{Text}
use Rattle.bp_base.specs.Names.{is_component_name, is_module_name}
use Rattle.bp_base.specs.declared.ident.Ident.TheVariants.{Module}
use Rattle.bp_base.specs.declared.ident.Unit.{Unit as OfUnit, Unit', out-Unit}
use Rattle.bp_base.specs.declared.ident.Ident.TheBlock.{hidden-the_row-Unit-0, shown-the_row-Fill-1, Row_of-Fill}
use Rattle.bp_base.specs.declared.ident.Ident.TheBlock.{end_of-Fill, more_of-Fill}
use Rattle.unit_identity.specs.WellFormed.{well_formed, well_formed_unit, well_formed_row, well_formed_fills, row_holes}
use Rattle.unit_identity.specs.WellFormed.{rising, holes_of}
use denote.Hole.Carrier.{hidden, out, shown}
use mathlib.Core.Former.{list_count, this, none_left}

pub well_formed-Module : (u : OfUnit) (m : Text) → well_formed (Module u m) ≡ (well_formed_unit u && is_module_name m)
unfolding hidden-the_row-Unit-0 hidden
well_formed-Module u m = refl

well_formed-row : (c : Text)
    (s : List (Unit {0})) (r : Row_of-Fill (list_count this s none_left))
    → well_formed_row r ≡ well_formed_fills (out-Unit (Unit' c s r)).fills
unfolding out-Unit out shown-the_row-Fill-1 shown
well_formed-row c [] end_of-Fill = refl
well_formed-row c (x ∷ s) (more_of-Fill h i r) = ap (λ b. is_module_name h && well_formed i && b)
    (well_formed-row c s r)

holes-row : (c : Text)
    (s : List (Unit {0})) (r : Row_of-Fill (list_count this s none_left))
    → row_holes r ≡ holes_of (out-Unit (Unit' c s r)).fills
unfolding out-Unit out shown-the_row-Fill-1 shown
holes-row c [] end_of-Fill = refl
holes-row c (x ∷ s) (more_of-Fill h i r) = ap (λ l. h ∷ l) (holes-row c s r)

pub well_formed_unit-out : (u : OfUnit) → well_formed_unit u ≡
    (is_component_name (out-Unit u).component && well_formed_fills (out-Unit u).fills && rising
    (holes_of (out-Unit u).fills))
unfolding out-Unit out
well_formed_unit-out (Unit' c s r) = λ k. is_component_name c && well_formed-row c s r k && rising (holes-row c s r k)

pub ruleset well_formed_equations = (well_formed-Module, well_formed_unit-out)
