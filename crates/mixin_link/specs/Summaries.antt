-- Summaries of components, and the condition on them.
use Rattle.std.specs.Prelude.{◌≡◌, Bool, true, ◌&&◌, Option, Some, None, List, [], ◌∷◌, map, if◌then◌else◌}
use Rattle.std.specs.List.{flat_map}
use Rattle.std.specs.Str.{bytes_eq}
use Rattle.bp_base.specs.declared.ident.Ident.{Ident}
use Rattle.bp_base.specs.declared.ident.Ident.TheVariants.{Hole, Module}
use Rattle.bp_base.specs.declared.ident.Ident.TheViews.{roll-Unit}
use Rattle.bp_base.specs.declared.ident.Unit.{Unit as OfUnit, out-Unit}
use Rattle.bp_base.specs.declared.ident.Fill.{Fill}
use Rattle.bp_base.specs.declared.linking.Provision.{Provision}
use Rattle.bp_base.specs.Holes.{EachHole, closed}
use Rattle.bp_base.specs.Lists.{Among}
use Rattle.bp_base.specs.Texts.{Text, Rise}
use Rattle.unit_identity.specs.Fill.{filled}
use Rattle.hole_unify.specs.declared.equation.Equation.{Equation}
use Rattle.hole_unify.specs.Causes.{units_of, holes_of}
use Rattle.mixin_link.specs.declared.summary.Summary.{Summary}

-- the summary of a component
abbrev pub found_summary : Text → List Summary → Option Summary
found_summary dep [] = None
found_summary dep (s ∷ ss) = if bytes_eq s.component dep then Some s else found_summary dep ss

-- the own unit of a component fills each of its holes by the hole itself
abbrev pub own_fills : List Text → List Fill
own_fills [] = []
own_fills (h ∷ hs) = record { hole = h; ident = Hole h } ∷ own_fills hs

abbrev pub own_unit : Text → List Text → OfUnit
own_unit c holes = roll-Unit (record { component = c; fills = own_fills holes })

-- a module of the own unit
abbrev pub own_ident : Summary → Ident
own_ident s = Module (own_unit s.component s.holes) s.component

-- a module of the own unit, and what is provided
abbrev pub idents_of : Summary → List Ident
idents_of s = own_ident s ∷ map (λ p. p.ident) s.provisions

-- the own units, and the units that occur in what is provided
abbrev pub units_shown : List Summary → List OfUnit
units_shown ss = flat_map units_of (flat_map idents_of ss)

-- What a component provides has no other holes than it lists. In all summaries units of one component have the same
-- holes, those that its own summary lists, and they rise strictly.
pub record AreLawful (ss : List Summary) : Type 0 where
  pub held : (s : Summary) → Among s ss → (p : Provision) → Among p s.provisions
      → EachHole (λ h. Among h s.holes) p.ident
  pub alike : (u v : OfUnit) → Among u (units_shown ss) → Among v (units_shown ss)
      → (out-Unit u).component ≡ (out-Unit v).component → holes_of u ≡ holes_of v
  pub rising : (u : OfUnit) → Among u (units_shown ss) → Rise (holes_of u)

-- ---- the test of the condition

-- a module of a unit without holes
abbrev pub closed_at : Text → Ident
closed_at h = Module (roll-Unit (record { component = h; fills = [] })) h

-- fills of these holes without holes
abbrev pub closing : List Text → List Fill
closing [] = []
closing (h ∷ hs) = record { hole = h; ident = closed_at h } ∷ closing hs

-- no hole is left where these are filled
abbrev pub all_held : List Text → List Provision → Bool
all_held holes [] = true
all_held holes (p ∷ ps) = closed (filled p.ident (closing holes)) && all_held holes ps

abbrev pub summaries_held : List Summary → Bool
summaries_held [] = true
summaries_held (s ∷ ss) = all_held s.holes s.provisions && summaries_held ss

abbrev pub itself : Ident → Equation
itself i = record { label = []; left = i; right = i }

abbrev pub summary_equations : Summary → List Equation
summary_equations s = itself (own_ident s) ∷ map (λ p. itself p.ident) s.provisions
