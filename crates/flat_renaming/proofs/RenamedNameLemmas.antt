-- A renamed name keeps its occurrence.
use Rattle.std.proofs.Common.{◌≡◌, Bool, true, false, cond, List, [], ◌∷◌, refl}
use Rattle.std.specs.Prelude.{◌&&◌, Some, unwrap_or}
use Rattle.std.specs.Str.{bytes_eq}
use Rattle.std.proofs.lemmas.Bool.{and_parts}
use Rattle.bp_base.specs.Texts.{Text}
use Rattle.bp_base.specs.declared.ident.Ident.{Ident}
use Rattle.bp_base.specs.declared.ident.Ident.TheVariants.{Hole, Module'}
use Rattle.bp_base.specs.declared.ident.Ident.TheBlock.{end_of-Unit, more_of-Unit}
use Rattle.bp_base.specs.declared.ty.OrigName.{OrigName}
use Rattle.bp_base.specs.declared.ty.Space.{Space}
use Rattle.bp_base.specs.declared.linking.Renaming.{Renaming}
use Rattle.bp_base.specs.declared.linking.Shown.{Shown}
use Rattle.bp_base.proofs.TextLemmas.{same_texts}
use Rattle.hs_core.specs.Sameness.{same_space}
use Rattle.hs_core.specs.Rename.{is_for, shown_for, renamed_at, renamed_name}

abbrev hole_name : Text → Space → Text → OrigName
hole_name h space occ = record { at = Hole h; space = space; occ = occ }

shown_keeps : (h : Text)
    (space : Space) (occ : Text) (all : List Shown)
    → (unwrap_or (shown_for h space occ all) (hole_name h space occ)).occ ≡ occ
shown_keeps h space occ [] = refl
shown_keeps h space occ (s ∷ all) = by (is_for h space occ s) refl (shown_keeps h space occ all)
  where
    found : is_for h space occ s ≡ true → s.name.occ ≡ occ
    found e =
        let two = and_parts (bytes_eq s.hole h) (same_space s.name.space space && bytes_eq s.name.occ occ) e in
        let parts = and_parts (same_space s.name.space space) (bytes_eq s.name.occ occ) two.1 in
        same_texts s.name.occ occ parts.1

    by : (b : Bool) → is_for h space occ s ≡ b
        → (unwrap_or (shown_for h space occ all) (hole_name h space occ)).occ ≡ occ
        → (unwrap_or (cond b (Some s.name) (shown_for h space occ all)) (hole_name h space occ)).occ ≡ occ
    by true e k = found e
    by false e k = k

at_keeps : (i : Ident) (space : Space) (occ : Text) (by : Renaming) → (renamed_at i space occ by).occ ≡ occ
at_keeps (Hole h) space occ by = shown_keeps h space occ by.shown
at_keeps (Module' s (more_of-Unit u end_of-Unit) m) space occ by = refl

pub occ_keeps : (n : OrigName) (by : Renaming) → (renamed_name n by).occ ≡ n.occ
occ_keeps n by = at_keeps n.at n.space n.occ by
