-- The tests of equality of spaces, identities and original names decide it.
use Rattle.std.proofs.Common.{◌≡◌, refl, sym, ap, ap₂, ◌∙◌, true, true≢false, ◌&&◌, List, [], ◌∷◌}
use Rattle.std.specs.Prelude.{Decides}
use Rattle.std.specs.Str.{bytes_eq}
use Rattle.std.proofs.lemmas.Bool.{and_parts}
use Rattle.std.proofs.lemmas.Slice.Eq.{bytes_eq-Decides}
use Rattle.bp_base.proofs.TextLemmas.{texts_same, same_texts}
use Rattle.bp_base.specs.Texts.{Text}
use Rattle.bp_base.specs.declared.ident.Ident.{Ident}
use Rattle.bp_base.specs.declared.ident.Ident.TheVariants.{Hole, Module'}
use Rattle.bp_base.specs.declared.ident.Unit.{Unit as OfUnit, Unit'}
use Rattle.bp_base.specs.declared.ident.Ident.TheBlock.{end_of-Unit, more_of-Unit, Row_of-Fill}
use Rattle.bp_base.specs.declared.ident.Ident.TheBlock.{end_of-Fill, more_of-Fill}
use Rattle.bp_base.specs.declared.ident.Fill.{Fill}
use Rattle.bp_base.specs.declared.ty.OrigName.{OrigName}
use Rattle.bp_base.specs.declared.ty.Space.{Space}
use Rattle.bp_base.specs.declared.ty.Space.TheVariants.{Types, Values}
use Rattle.bp_base.proofs.IdentLemmas.{unit-same, component-is, fills_of, fills_of-list}
use Rattle.hs_core.specs.Sameness.{same_space, same_identity, same_units, same_filling, same_original}
use mathlib.Core.Former.{list_count, this, none_left}

space_itself : (s : Space) → same_space s s ≡ true
space_itself Types = refl
space_itself Values = refl

pub space_same : (s t : Space) → same_space s t ≡ true → s ≡ t
space_same Types Types e = refl
space_same Types Values e = absurd (true≢false (sym e))
space_same Values Types e = absurd (true≢false (sym e))
space_same Values Values e = refl

mutual
  identity_itself : (i : Ident) → same_identity i i ≡ true
  identity_itself (Hole h) = texts_same h
  identity_itself (Module' s (more_of-Unit u end_of-Unit) m) = ap₂ ◌&&◌ (texts_same m) (unit_itself u)

  unit_itself : (u : OfUnit) → same_units u u ≡ true
  unit_itself (Unit' c s r) = ap₂ ◌&&◌ (texts_same c) (filling_itself r)

  filling_itself : {m : _} (r : Row_of-Fill m) → same_filling r r ≡ true
  filling_itself end_of-Fill = refl
  filling_itself (more_of-Fill h i r) = ap₂ ◌&&◌ (texts_same h) (ap₂ ◌&&◌ (identity_itself i) (filling_itself r))

unit_from : (c d : Text) (s z : List (Unit {0})) (r : Row_of-Fill (list_count this s none_left))
    (q : Row_of-Fill (list_count this z none_left)) → c ≡ d → fills_of r ≡ fills_of q → Unit' c s r ≡ Unit' d z q
unit_from c d s z r q e f =
    unit-same (Unit' c s r) (Unit' d z q) (component-is c s r ∙ e ∙ sym (component-is d z q))
    (sym (fills_of-list c s r) ∙ f ∙ fills_of-list d z q)

mutual
  identity_same : (i j : Ident) → same_identity i j ≡ true → i ≡ j
  identity_same (Hole h) (Hole g) e = ap Hole (same_texts h g e)
  identity_same (Hole h) (Module' z (more_of-Unit v end_of-Unit) n) e = absurd (true≢false (sym e))
  identity_same (Module' s (more_of-Unit u end_of-Unit) m) (Hole g) e = absurd (true≢false (sym e))
  identity_same (Module' s (more_of-Unit u end_of-Unit) m) (Module' z (more_of-Unit v end_of-Unit) n) e =
      let parts = and_parts (bytes_eq m n) (same_units u v) e in
      ap₂ (λ x y. Module' s (more_of-Unit x end_of-Unit) y) (units_same u v parts.1) (same_texts m n parts.0)

  units_same : (u v : OfUnit) → same_units u v ≡ true → u ≡ v
  units_same (Unit' c s r) (Unit' d z q) e =
      let parts = and_parts (bytes_eq c d) (same_filling r q) e in
      unit_from c d s z r q (same_texts c d parts.0) (filling_same r q parts.1)

  filling_same : {m n : _} (r : Row_of-Fill m) (q : Row_of-Fill n) → same_filling r q ≡ true → fills_of r ≡ fills_of q
  filling_same end_of-Fill end_of-Fill e = refl
  filling_same end_of-Fill (more_of-Fill g j q) e = absurd (true≢false (sym e))
  filling_same (more_of-Fill h i r) end_of-Fill e = absurd (true≢false (sym e))
  filling_same (more_of-Fill h i r) (more_of-Fill g j q) e =
      let parts = and_parts (bytes_eq h g) (same_identity i j && same_filling r q) e in
      let rest = and_parts (same_identity i j) (same_filling r q) parts.1 in
      ap₂ (λ x y. x ∷ y)
      (ap₂ (λ x y. record { hole = x; ident = y }) (same_texts h g parts.0) (identity_same i j rest.0))
      (filling_same r q rest.1)

-- a name is itself, and what the test calls one is one
pub original_itself : (n : OrigName) → same_original n n ≡ true
original_itself n = ap₂ ◌&&◌ (texts_same n.occ) (ap₂ ◌&&◌ (space_itself n.space) (identity_itself n.at))

pub original_same : (n m : OrigName) → same_original n m ≡ true → n ≡ m
original_same n m e =
    let parts = and_parts (bytes_eq n.occ m.occ) (same_space n.space m.space && same_identity n.at m.at) e in
    let rest = and_parts (same_space n.space m.space) (same_identity n.at m.at) parts.1 in
    λ i. record {
      at = identity_same n.at m.at rest.1 i;
      space = space_same n.space m.space rest.0 i;
      occ = same_texts n.occ m.occ parts.0 i;
    }
