-- Equations of the definitions on terms.
use Rattle.std.proofs.Common.{◌≡◌, ℕ, true, List, [], ◌∷◌, ◌++◌, refl, ap, sym, ◌∙◌}
use Rattle.std.proofs.lemmas.Bool.{and_parts, and_from}
use Rattle.ident_table.proofs.NumberingLemmas.{terms_below-out, terms_of-Module}
use Rattle.bp_base.specs.declared.ident.Ident.{Ident}
use Rattle.bp_base.specs.declared.ident.Ident.TheVariants.{Hole, Module, Module'}
use Rattle.bp_base.specs.declared.ident.Unit.{Unit as OfUnit, Unit', out-Unit}
use Rattle.bp_base.specs.declared.ident.Ident.TheBlock.{hidden-the_row-Unit-0, shown-the_row-Fill-1, end_of-Unit}
use Rattle.bp_base.specs.declared.ident.Ident.TheBlock.{more_of-Unit, Row_of-Fill, end_of-Fill, more_of-Fill}
use Rattle.bp_base.proofs.IdentLemmas.{unit-same, Module-is, fills_of-list, fills_of, component-is}
use Rattle.bp_base.proofs.TextLemmas.{same_texts, texts_same}
use Rattle.ident_table.specs.Parts.{terms_of, terms_of_row, terms_in_fills}
use Rattle.hole_unify.specs.Table.{is_module, is_same, is_same_unit, is_same_row}
use mathlib.Core.Former.{list_count, this, none_left}
use denote.Hole.Carrier.{hidden, out, shown}

terms-row : (c : List ℕ)
    (s : List (Unit {0})) (r : Row_of-Fill (list_count this s none_left))
    → terms_of_row r ≡ terms_in_fills (out-Unit (Unit' c s r)).fills
unfolding out-Unit out shown-the_row-Fill-1 shown
terms-row c [] end_of-Fill = refl
terms-row c (x ∷ s) (more_of-Fill h i r) = ap (λ l. terms_of i ++ l) (terms-row c s r)

pub ruleset term_equations = (terms_of-Module, terms_below-out)

pub is_module-Module : (u : OfUnit) (m : List ℕ) → is_module (Module u m) ≡ true
unfolding hidden-the_row-Unit-0 hidden
is_module-Module u m = refl

pub ruleset module_equations = (is_module-Module)

-- ---- `is_same` decides

mutual
  pub same_terms : (a b : Ident) → is_same a b ≡ true → a ≡ b
  same_terms (Hole n) (Hole m) e = ap Hole (same_texts n m e)
  same_terms (Hole n) (Module' s r m) e = cc
  same_terms (Module' s r m) (Hole n) e = cc
  same_terms (Module' s (more_of-Unit u end_of-Unit) m) (Module' t (more_of-Unit v end_of-Unit) n) e =
      let p = and_parts _ _ e in
      let names = same_texts m n p.0 in
      let units = same_units u v p.1 in
      Module-is s u m ∙ (λ i. Module (units i) (names i)) ∙ sym (Module-is t v n)

  same_units : (u v : OfUnit) → is_same_unit u v ≡ true → u ≡ v
  same_units (Unit' c s r) (Unit' d t q) e =
      let p = and_parts _ _ e in
      unit-same (Unit' c s r) (Unit' d t q)
      (component-is c s r ∙ same_texts c d p.0 ∙ sym (component-is d t q))
      (sym (fills_of-list c s r) ∙ same_rows r q p.1 ∙ fills_of-list d t q)

  same_rows : {m n : _} (r : Row_of-Fill m) (q : Row_of-Fill n) → is_same_row r q ≡ true → fills_of r ≡ fills_of q
  same_rows end_of-Fill end_of-Fill e = refl
  same_rows end_of-Fill (more_of-Fill h i r) e = cc
  same_rows (more_of-Fill h i r) end_of-Fill e = cc
  same_rows (more_of-Fill h i r) (more_of-Fill k j q) e =
      let p = and_parts _ _ e in
      let o = and_parts _ _ p.0 in
      let holes = same_texts h k o.0 in
      let idents = same_terms i j o.1 in
      let rest = same_rows r q p.1 in
      λ w. record { hole = holes w; ident = idents w } ∷ rest w

mutual
  pub terms_same : (a : Ident) → is_same a a ≡ true
  terms_same (Hole n) = texts_same n
  terms_same (Module' s (more_of-Unit u end_of-Unit) m) = and_from _ _ (texts_same m) (units_same u)

  units_same : (u : OfUnit) → is_same_unit u u ≡ true
  units_same (Unit' c s r) = and_from _ _ (texts_same c) (rows_same r)

  rows_same : {m : _} (r : Row_of-Fill m) → is_same_row r r ≡ true
  rows_same end_of-Fill = refl
  rows_same (more_of-Fill h i r) = and_from _ _ (and_from _ _ (texts_same h) (terms_same i)) (rows_same r)
