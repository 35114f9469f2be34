-- The equations of renaming names and types, at the types as `src/` sees them.
use Rattle.std.proofs.Common.{◌≡◌, refl, ap, sym, ◌∙◌}
use Rattle.bp_base.specs.Texts.{Text}
use Rattle.bp_base.specs.declared.ident.Ident.TheVariants.{Module}
use Rattle.bp_base.specs.declared.ident.Unit.{Unit as OfUnit}
use Rattle.bp_base.specs.declared.ident.Ident.TheBlock.{hidden-the_row-Unit-0}
use Rattle.bp_base.specs.declared.ty.OrigName.{OrigName}
use Rattle.bp_base.specs.declared.ty.Space.{Space}
use Rattle.bp_base.specs.declared.ty.Ty.{Ty}
use Rattle.bp_base.specs.declared.ty.Ty.TheVariants.{App}
use Rattle.bp_base.specs.declared.ty.Ty.TheBlock.{hidden-the_row-Ty-0}
use Rattle.bp_base.specs.declared.linking.Renaming.{Renaming}
use Rattle.unit_identity.specs.Fill.{filled_unit}
use Rattle.hs_core.specs.declared.tree.Written.{Written}
use Rattle.hs_core.specs.declared.tree.Written.TheVariants.{WApp}
use Rattle.hs_core.specs.declared.tree.Written.TheBlock.{hidden-the_row-Written-0}
use Rattle.hs_core.specs.Rename.{renamed_at, renamed_name, renamed_ty, renamed_written}
use denote.Hole.Carrier.{hidden}

-- a name of a module of a unit
pub at-Module : (u : OfUnit) (m : Text) (space : Space) (occ : Text) (by : Renaming)
    → renamed_at (Module u m) space occ by ≡ record { at = Module (filled_unit u by.fills) m; space = space; occ = occ }
unfolding hidden-the_row-Unit-0 hidden
at-Module u m space occ by = refl

pub at-App : (f a : Ty) (by : Renaming) → renamed_ty (App f a) by ≡ App (renamed_ty f by) (renamed_ty a by)
unfolding hidden-the_row-Ty-0 hidden
at-App f a by = refl

pub at-WApp : (f a : Written) (by : Renaming) → renamed_written (WApp f a) by ≡ WApp (renamed_written f by)
    (renamed_written a by)
unfolding hidden-the_row-Written-0 hidden
at-WApp f a by = refl

pub ruleset name_equations = (at-Module)

pub ruleset type_equations = (at-App, at-WApp)

-- what was made of the parts of a name and of a type

pub made-App : (x a b a' b' : Ty) (by : Renaming) → x ≡ App a b → a' ≡ renamed_ty a by → b' ≡ renamed_ty b by
    → App a' b' ≡ renamed_ty x by
made-App x a b a' b' by is p q = (λ i. App (p i) (q i)) ∙ sym (ap (λ y. renamed_ty y by) is ∙ at-App a b by)

pub made-WApp : (x a b a' b' : Written) (by : Renaming) → x ≡ WApp a b → a' ≡ renamed_written a by
    → b' ≡ renamed_written b by → WApp a' b' ≡ renamed_written x by
made-WApp x a b a' b' by is p q = (λ i. WApp (p i) (q i)) ∙ sym (ap (λ y. renamed_written y by) is ∙ at-WApp a b by)
