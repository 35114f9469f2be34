-- The equations of `filled` at the types as `src/` sees them.
use Rattle.std.proofs.Common.{◌≡◌, ℕ, Bool, true, false, cond, List, [], ◌∷◌, refl, ap, ◌∙◌, rules}
use Rattle.std.specs.Prelude.{Some, IsSome, unwrap_or}
use Rattle.std.specs.Str.{bytes_eq}
use Rattle.bp_base.proofs.IdentLemmas.{unit-same}
use Rattle.bp_base.specs.declared.ident.Ident.{Ident}
use Rattle.bp_base.specs.declared.ident.Ident.TheVariants.{Hole, Module, Module'}
use Rattle.bp_base.specs.declared.ident.Unit.{Unit as OfUnit, Unit', out-Unit}
use Rattle.bp_base.specs.declared.ident.Ident.TheBlock.{hidden-the_row-Unit-0, shown-the_row-Fill-1, end_of-Unit}
use Rattle.bp_base.specs.declared.ident.Ident.TheBlock.{more_of-Unit, Row_of-Fill, end_of-Fill, more_of-Fill}
use Rattle.bp_base.specs.declared.ident.Ident.TheViews.{roll-Unit, the_lemmas}
use Rattle.bp_base.specs.declared.ident.Fill.{Fill}
use Rattle.unit_identity.specs.Fill.{filled, filled_unit, filled_row, composed, at_hole, found, IsFilled, IsFilledUnit}
use Rattle.unit_identity.specs.Fill.{IsFilledRow}
use denote.Hole.Carrier.{hidden, out, shown}
use mathlib.Core.Former.{list_count, this, none_left}

pub filled-Module : (u : OfUnit) (m : List ℕ) (fs : List Fill) → filled (Module u m) fs ≡ Module (filled_unit u fs) m
unfolding hidden-the_row-Unit-0 hidden
filled-Module u m fs = refl

filled-row : (c : List ℕ) (s : List (Unit {0})) (r : Row_of-Fill (list_count this s none_left)) (fs : List Fill)
    → filled_row r fs ≡ composed ((out-Unit (Unit' c s r)).fills) fs
unfolding out-Unit out shown-the_row-Fill-1 shown
filled-row c [] end_of-Fill fs = refl
filled-row c (x ∷ s) (more_of-Fill h i r) fs = ap (λ l. record { hole = h; ident = filled i fs } ∷ l)
    (filled-row c s r fs)

pub filled_unit-out : (u : OfUnit) (fs : List Fill)
    → filled_unit u fs ≡ roll-Unit (record {
      component = (out-Unit u).component;
      fills = composed (out-Unit u).fills fs;
    })
unfolding out-Unit out
filled_unit-out (Unit' c s r) fs = ap (λ l. roll-Unit (record { component = c; fills = l })) (filled-row c s r fs)

pub filled_unit-roll : (c : List ℕ) (l : List Fill)
    (fs : List Fill) → filled_unit (roll-Unit (record { component = c; fills = l })) fs ≡ roll-Unit
    (record { component = c; fills = composed l fs })
filled_unit-roll c l fs = filled_unit-out (roll-Unit (record { component = c; fills = l })) fs
    ∙ search (rules, the_lemmas)

at_hole-composed : (n : List ℕ) (f g : List Fill) → IsSome (found n f)
    → filled (at_hole n f) g ≡ at_hole n (composed f g)
at_hole-composed n [] g h = cc
at_hole-composed n (x ∷ f) g h = by (bytes_eq x.hole n) h (at_hole-composed n f g)
  where
    by : (b : Bool) → IsSome (cond b (Some x.ident) (found n f))
        → (IsSome (found n f) → filled (at_hole n f) g ≡ at_hole n (composed f g))
        → filled (unwrap_or (cond b (Some x.ident) (found n f)) (Hole n)) g ≡ unwrap_or
        (cond b (Some (filled x.ident g)) (found n (composed f g))) (Hole n)
    by true h k = refl
    by false h k = k h

mutual
  pub filled-filled : (i : Ident) (f g : List Fill) → IsFilled i f → filled (filled i f) g ≡ filled i (composed f g)
  filled-filled (Hole n) f g h = at_hole-composed n f g h
  filled-filled (Module' s (more_of-Unit u end_of-Unit) m) f g h = filled-Module (filled_unit u f) m g
      ∙ ap (λ v. Module v m) (filled_unit-filled_unit u f g h)

  pub filled_unit-filled_unit : (u : OfUnit) (f g : List Fill) → IsFilledUnit u f
      → filled_unit (filled_unit u f) g ≡ filled_unit u (composed f g)
  filled_unit-filled_unit (Unit' c s r) f g h = filled_unit-roll c (filled_row r f) g
      ∙ ap (λ l. roll-Unit (record { component = c; fills = l })) (filled_row-filled_row r f g h)

  filled_row-filled_row : {m : _} (r : Row_of-Fill m) (f g : List Fill) → IsFilledRow r f
      → composed (filled_row r f) g ≡ filled_row r (composed f g)
  filled_row-filled_row end_of-Fill f g h = refl
  filled_row-filled_row (more_of-Fill n i r) f g h =
      λ k. record { hole = n; ident = filled-filled i f g h.0 k } ∷ filled_row-filled_row r f g h.1 k

pub ruleset unit_equations = (filled_unit-out, filled-Module)

pub ruleset unit_sameness = (unit-same)
