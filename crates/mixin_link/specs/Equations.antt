-- The equations of a linking.
use Rattle.std.specs.Prelude.{List, [], ◌∷◌, ◌++◌, map}
use Rattle.std.specs.List.{flat_map}
use Rattle.bp_base.specs.declared.ident.Ident.{Ident}
use Rattle.bp_base.specs.declared.ident.Ident.TheVariants.{Hole}
use Rattle.bp_base.specs.declared.ident.Fill.{Fill}
use Rattle.bp_base.specs.declared.linking.Rename.{Rename}
use Rattle.bp_base.specs.declared.linking.Provision.{Provision}
use Rattle.bp_base.specs.Holes.{EachHole}
use Rattle.bp_base.specs.Lists.{Among}
use Rattle.bp_base.specs.Texts.{Text}
use Rattle.unit_identity.specs.Fill.{filled}
use Rattle.hole_unify.specs.declared.equation.Equation.{Equation}
use Rattle.mixin_names.specs.Names.{provisions_of}
use Rattle.mixin_link.specs.declared.open.OpenInclude.{OpenInclude}
use Rattle.mixin_link.specs.Linkings.{fills_under}

-- the name of a provision has the provision's identity in the unit with these fills
abbrev pub equation_in : List Fill → Provision → Equation
equation_in fills p = record { label = p.name; left = Hole p.name; right = filled p.ident fills }

-- in an include's open unit the holes are the linkage names
abbrev pub equation : List Rename → Provision → Equation
equation needs p = equation_in (fills_under Hole needs) p

-- the equations of one name: by include, and at one include in the order of its provisions
abbrev pub equations_at : Text → List OpenInclude → List Equation
equations_at name [] = []
equations_at name (i ∷ is) = map (equation i.needs) (provisions_of i.provides name) ++ equations_at name is

-- the equations by required name
abbrev pub equations_of : List Text → List OpenInclude → List Equation
equations_of required is = flat_map (λ n. equations_at n is) required

-- fills that put at each name what an assignment does
abbrev pub fills_for : (Text → Ident) → List Text → List Fill
fills_for s [] = []
fills_for s (n ∷ ns) = record { hole = n; ident = s n } ∷ fills_for s ns

-- what includes need is required, and the holes of what they provide are their own
pub record AreOpen (required : List Text) (is : List OpenInclude) : Type 0 where
  pub needed : (i : OpenInclude) → Among i is → (r : Rename) → Among r i.needs → Among r.to required
  pub held : (i : OpenInclude) → Among i is → (p : Provision) → Among p i.provides
      → EachHole (λ h. Among h (map (λ r. r.from) i.needs)) p.ident
