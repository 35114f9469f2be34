-- Names with a syntax of their own (`gtycon` and `gcon` of the Haskell 2010 Report, sections 4.1.2 and 3.2).
use Rattle.std.specs.Prelude.{◌-◌, Bool, true, false, ◌&&◌, nat_le, [], ◌∷◌, ◌++◌, replicate, codes}
use Rattle.bp_base.specs.Texts.{Text}
use Rattle.bp_base.specs.declared.ident.Ident.{Ident}
use Rattle.bp_base.specs.declared.ident.Ident.TheVariants.{Module}
use Rattle.bp_base.specs.declared.ident.Unit.{Unit as OfUnit}
use Rattle.bp_base.specs.declared.ident.Ident.TheViews.{roll-Unit}
use Rattle.bp_base.specs.declared.ty.Space.{Space}
use Rattle.bp_base.specs.declared.ty.Space.TheVariants.{Types, Values}
use Rattle.bp_base.specs.declared.ty.OrigName.{OrigName}
use Rattle.bp_base.specs.declared.special.Special.{Special}
use Rattle.bp_base.specs.declared.special.Special.TheVariants as s

-- the text of a special name: a tuple's has a comma fewer than it has parts
abbrev pub special_text : Special → Text
special_text s.Arrow = codes "->"
special_text s.List = codes "[]"
special_text s.Unit = codes "()"
special_text (s.Tuple parts) = 40 ∷ (replicate (parts - 1) 44 ++ 41 ∷ [])
special_text s.Cons = codes ":"

-- which of them are types, and which are values
abbrev pub is_special : Space → Special → Bool
is_special Types s.Arrow = true
is_special Values s.Arrow = false
is_special space s.List = true
is_special space s.Unit = true
is_special space (s.Tuple parts) = nat_le 2 parts && nat_le parts 15
is_special Types s.Cons = false
is_special Values s.Cons = true

-- the component `base` has no holes
abbrev pub base_unit : OfUnit
base_unit = roll-Unit (record { component = codes "base"; fills = [] })

-- the module `Prelude` of the component `base`
abbrev pub base_prelude : Ident
base_prelude = Module base_unit (codes "Prelude")

-- special names stand at that module
abbrev pub special_name : Space → Special → OrigName
special_name space special = record { at = base_prelude; space = space; occ = special_text special }
