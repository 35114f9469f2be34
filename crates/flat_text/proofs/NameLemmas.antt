-- The equations of flat names, at the types as `src/` sees them.
use Rattle.std.proofs.Common.{◌≡◌, refl}
use Rattle.bp_base.specs.Texts.{Text}
use Rattle.bp_base.specs.declared.ident.Ident.TheVariants.{Module}
use Rattle.bp_base.specs.declared.ident.Ident.TheBlock.{hidden-the_row-Unit-0}
use Rattle.bp_base.specs.declared.ident.Unit.{Unit as OfUnit, out-Unit}
use Rattle.flat_text.specs.Names.{place_of, unit_place}
use denote.Hole.Carrier.{hidden}

pub at_module : (u : OfUnit) (m : Text) → place_of (Module u m) ≡ unit_place (out-Unit u).component m
unfolding hidden-the_row-Unit-0 hidden
at_module u m = refl
