-- That the fills have something for each hole, said by the holes that occur.
use Rattle.std.proofs.Common.{◌≡◌, true, List, [], ◌∷◌, subst, sym}
use Rattle.std.specs.Prelude.{IsSome}
use Rattle.bp_base.specs.Texts.{Text}
use Rattle.bp_base.proofs.TextLemmas.{same_texts, texts_same}
use Rattle.bp_base.specs.Holes.{EachHole}
use Rattle.bp_base.proofs.HoleLemmas.{EachHole-fills, fills-EachHole}
use Rattle.bp_base.proofs.IdentLemmas.{EachFill, ident-induction, fills_of, fills_of-list}
use Rattle.bp_base.specs.declared.ident.Ident.{Ident}
use Rattle.bp_base.specs.declared.ident.Ident.TheVariants.{Hole, Module}
use Rattle.bp_base.specs.declared.ident.Unit.{Unit as OfUnit, Unit', out-Unit}
use Rattle.bp_base.specs.declared.ident.Ident.TheBlock.{hidden-the_row-Unit-0, Row_of-Fill, end_of-Fill, more_of-Fill}
use Rattle.bp_base.specs.declared.ident.Fill.{Fill}
use Rattle.unit_identity.specs.Fill.{found, IsFilled, IsFilledUnit, IsFilledRow}
use denote.Hole.Carrier.{hidden}

-- the fills `fs` have something for a hole of this name
abbrev pub HasFill : List Fill → Text → Type 0
HasFill fs h = IsSome (found h fs)

module _ (fs : List Fill) where
  row-each : {m : _} (r : Row_of-Fill m) → IsFilledRow r fs → EachFill (λ i. IsFilled i fs) (fills_of r)
  row-each end_of-Fill h = tt
  row-each (more_of-Fill n i r) h = (h.0, row-each r h.1)

  each-row : {m : _} (r : Row_of-Fill m) → EachFill (λ i. IsFilled i fs) (fills_of r) → IsFilledRow r fs
  each-row end_of-Fill h = tt
  each-row (more_of-Fill n i r) h = (h.0, each-row r h.1)

  module-each : (u : OfUnit) (m : Text) → IsFilled (Module u m) fs → EachFill (λ i. IsFilled i fs) (out-Unit u).fills
  unfolding hidden-the_row-Unit-0 hidden
  module-each (Unit' c s r) m h = subst (EachFill (λ i. IsFilled i fs)) (fills_of-list c s r) (row-each r h)

  each-module : (u : OfUnit) (m : Text) → EachFill (λ i. IsFilled i fs) (out-Unit u).fills → IsFilled (Module u m) fs
  unfolding hidden-the_row-Unit-0 hidden
  each-module (Unit' c s r) m h =
      each-row r (subst (EachFill (λ i. IsFilled i fs)) (sym (fills_of-list c s r)) h)

  abbrev Both : Ident → Type 0
  Both i = (IsFilled i fs → EachHole (HasFill fs) i) × (EachHole (HasFill fs) i → IsFilled i fs)

  at-hole : (n : Text) → Both (Hole n)
  at-hole n = (
    (λ some h e. subst (HasFill fs) (same_texts n h e) some),
    (λ each. each n (texts_same n)),
  )

  parts : (gs : List Fill)
      → EachFill Both gs
      → (EachFill (λ i. IsFilled i fs) gs → EachFill (EachHole (HasFill fs)) gs)
      × (EachFill (EachHole (HasFill fs)) gs → EachFill (λ i. IsFilled i fs) gs)
  parts [] both = ((λ h. tt), (λ h. tt))
  parts (g ∷ gs) both = let rest = parts gs both.1 in (
    (λ h. (both.0.0 h.0, rest.0 h.1)),
    (λ h. (both.0.1 h.0, rest.1 h.1)),
  )

  at-module : (u : OfUnit)
      (m : Text) → EachFill Both (out-Unit u).fills → Both (Module u m)
  at-module u m both = let rest = parts (out-Unit u).fills both in (
    (λ h. fills-EachHole (HasFill fs) u m (rest.0 (module-each u m h))),
    (λ h. each-module u m (rest.1 (EachHole-fills (HasFill fs) u m h))),
  )

  -- the fills have something for each hole that occurs where, and only where, they fill the identity
  pub filled-holes : (i : Ident) → IsFilled i fs → EachHole (HasFill fs) i
  filled-holes i = (ident-induction Both at-hole at-module i).0

  pub holes-filled : (i : Ident) → EachHole (HasFill fs) i → IsFilled i fs
  holes-filled i = (ident-induction Both at-hole at-module i).1

-- what fills every hole, for callers that know the holes that occur
pub ruleset filled_laws = (filled-holes, holes-filled)
