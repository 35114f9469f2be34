-- Whether two spaces, identities and original names are one: tests.
use Rattle.std.specs.Prelude.{Bool, true, false, ◌&&◌}
use Rattle.std.specs.Str.{bytes_eq}
use Rattle.bp_base.specs.declared.ident.Ident.{Ident}
use Rattle.bp_base.specs.declared.ident.Ident.TheVariants.{Hole, Module'}
use Rattle.bp_base.specs.declared.ident.Unit.{Unit as OfUnit, Unit'}
use Rattle.bp_base.specs.declared.ident.Ident.TheBlock.{end_of-Unit, more_of-Unit, Row_of-Fill, end_of-Fill}
use Rattle.bp_base.specs.declared.ident.Ident.TheBlock.{more_of-Fill}
use Rattle.bp_base.specs.declared.ty.OrigName.{OrigName}
use Rattle.bp_base.specs.declared.ty.Space.{Space}
use Rattle.bp_base.specs.declared.ty.Space.TheVariants.{Types, Values}

-- whether two spaces are one
abbrev pub same_space : Space → Space → Bool
same_space Types Types = true
same_space Values Values = true
same_space s t = false

-- whether two identities are one: the same hole, or one module of units with the same component and the same fills
abbrev mutual
  pub same_identity : Ident → Ident → Bool
  same_identity (Hole h) (Hole g) = bytes_eq h g
  same_identity (Module' s (more_of-Unit u end_of-Unit) m)
      (Module' z (more_of-Unit v end_of-Unit) n) = bytes_eq m n && same_units u v
  same_identity i j = false

  pub same_units : OfUnit → OfUnit → Bool
  same_units (Unit' c s r) (Unit' d z q) = bytes_eq c d && same_filling r q

  pub same_filling : {m n : _} → Row_of-Fill m → Row_of-Fill n → Bool
  same_filling end_of-Fill end_of-Fill = true
  same_filling (more_of-Fill h i r) (more_of-Fill g j q) = bytes_eq h g && (same_identity i j && same_filling r q)
  same_filling r q = false

-- whether two original names are one
abbrev pub same_original : OrigName → OrigName → Bool
same_original a b = bytes_eq a.occ b.occ && (same_space a.space b.space && same_identity a.at b.at)
