-- Linkings: identities for required names (Kilpatrick and others, POPL 2014; Yang's thesis, 2017).
use Rattle.std.specs.Prelude.{◌≡◌, true, List, [], ◌∷◌}
use Rattle.bp_base.specs.declared.ident.Ident.{Ident}
use Rattle.bp_base.specs.declared.ident.Ident.TheVariants.{Hole}
use Rattle.bp_base.specs.declared.ident.Fill.{Fill}
use Rattle.bp_base.specs.declared.linking.Rename.{Rename}
use Rattle.bp_base.specs.declared.linking.Provision.{Provision}
use Rattle.bp_base.specs.Holes.{has_hole}
use Rattle.bp_base.specs.Lists.{Among}
use Rattle.bp_base.specs.Texts.{Text, Before}
use Rattle.unit_identity.specs.Fill.{filled}
use Rattle.mixin_link.specs.declared.open.OpenInclude.{OpenInclude}

-- the fills of an include: each hole has the identity of its linkage name
abbrev pub fills_under : (Text → Ident) → List Rename → List Fill
fills_under s [] = []
fills_under s (r ∷ rs) = record { hole = r.from; ident = s r.to } ∷ fills_under s rs

-- A linking: each provision of an include at a required name has that name's identity. `p[A=<X>]/M` provided at the
-- required name N asks for `p[A=s X]/M ≡ s N`.
pub record IsLinking (required : List Text) (is : List OpenInclude) (s : Text → Ident) : Type 0 where
  pub meets : (i : OpenInclude) → Among i is → (p : Provision) → Among p i.provides → Among p.name required
      → filled p.ident (fills_under s i.needs) ≡ s p.name

-- The principal linking: every other one is it filled, each hole left in it is a required name that is assigned itself,
-- and
-- names that are assigned one hole are assigned the least of them.
pub record IsPrincipal (required : List Text) (is : List OpenInclude) (s : Text → Ident) : Type 0 where
  pub links : IsLinking required is s
  pub general : (g : Text → Ident) → IsLinking required is g
      → (f : List Fill) × ((n : Text) → Among n required → filled (s n) f ≡ g n)
  pub left : (n h : Text) → Among n required → has_hole h (s n) ≡ true → Among h required × (s h ≡ Hole h)
  pub least : (n m : Text) → Among n required → s n ≡ Hole m → Before n m → ⊥
