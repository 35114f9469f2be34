-- What is proved of renaming: renaming twice is renaming by the composition, and renaming by nothing changes nothing.
use Rattle.std.specs.Prelude.{◌≡◌, List, [], IsSome}
use Rattle.bp_base.specs.Lists.{Among}
use Rattle.bp_base.specs.Texts.{Text}
use Rattle.bp_base.specs.declared.ident.Ident.TheVariants.{Hole}
use Rattle.bp_base.specs.declared.ty.OrigName.{OrigName}
use Rattle.bp_base.specs.declared.ty.Ty.{Ty}
use Rattle.bp_base.specs.declared.linking.Renaming.{Renaming}
use Rattle.unit_identity.specs.Fill.{IsFilled}
use Rattle.hs_core.specs.declared.tree.Body.{Body}
use Rattle.hs_core.specs.Rename.{shown_for, renamed_name, renamed_ty, renamed_body, composed_renaming}
use Rattle.hs_core.specs.Occurring.{names_of_ty, names_of_body}

-- The renaming fills each hole that occurs in the name, and shows it where it is a name at a hole.
pub record IsCovered (n : OrigName) (by : Renaming) : Type 0 where
  pub filled : IsFilled n.at by.fills
  pub shown : (h : Text) → n.at ≡ Hole h → IsSome (shown_for h n.space n.occ by.shown)

-- It does so for each of these names.
pub record Covers (by : Renaming) (names : List OrigName) : Type 0 where
  pub each : (n : OrigName) → Among n names → IsCovered n by

abbrev pub NameRenamingComposes : Type 0
NameRenamingComposes = (n : OrigName) (f g : Renaming) → IsCovered n f
    → renamed_name (renamed_name n f) g ≡ renamed_name n (composed_renaming f g)

abbrev pub TypeRenamingComposes : Type 0
TypeRenamingComposes = (t : Ty) (f g : Renaming) → Covers f (names_of_ty t)
    → renamed_ty (renamed_ty t f) g ≡ renamed_ty t (composed_renaming f g)

abbrev pub BodyRenamingComposes : Type 0
BodyRenamingComposes = (b : Body) (f g : Renaming) → Covers f (names_of_body b)
    → renamed_body (renamed_body b f) g ≡ renamed_body b (composed_renaming f g)

-- the renaming that fills nothing and shows nothing
abbrev pub nothing : Renaming
nothing = record { fills = []; shown = [] }

abbrev pub NothingRenames : Type 0
NothingRenames = (b : Body) → renamed_body b nothing ≡ b
