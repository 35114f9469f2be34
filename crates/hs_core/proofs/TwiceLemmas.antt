-- Renaming twice is renaming by the composition: names and types.
use Rattle.std.proofs.Common.{◌≡◌, Bool, true, false, cond, List, [], ◌∷◌, ◌++◌, refl, ap, ◌∙◌, inl, inr}
use Rattle.std.specs.Prelude.{◌&&◌, Some, IsSome, unwrap_or, map}
use Rattle.std.specs.List.{flat_map}
use Rattle.std.specs.Str.{bytes_eq}
use Rattle.bp_base.specs.Texts.{Text}
use Rattle.bp_base.specs.declared.ident.Ident.{Ident}
use Rattle.bp_base.specs.declared.ident.Ident.TheVariants.{Hole, Module, Module'}
use Rattle.bp_base.specs.declared.ident.Ident.TheBlock.{end_of-Unit, more_of-Unit}
use Rattle.bp_base.specs.declared.ty.OrigName.{OrigName}
use Rattle.bp_base.specs.declared.ty.Space.{Space}
use Rattle.bp_base.specs.declared.ty.Ty.{Ty}
use Rattle.bp_base.specs.declared.ty.Ty.TheVariants.{Var, Con, App, App'}
use Rattle.bp_base.specs.declared.ty.Ty.TheBlock.{end_of-Ty, more_of-Ty}
use Rattle.bp_base.specs.declared.linking.Renaming.{Renaming}
use Rattle.bp_base.specs.declared.linking.Shown.{Shown}
use Rattle.bp_base.proofs.SetLemmas.{among-left, among-right}
use Rattle.bp_base.proofs.TextLemmas.{same_texts}
use Rattle.unit_identity.specs.Fill.{filled_unit, IsFilled}
use Rattle.unit_identity.proofs.FillLemmas.{filled_unit-filled_unit}
use Rattle.hs_core.specs.declared.tree.Written.{Written}
use Rattle.hs_core.specs.declared.tree.Written.TheVariants.{WVar, WCon, WApp, WApp'}
use Rattle.hs_core.specs.declared.tree.Written.TheBlock.{end_of-Written, more_of-Written}
use Rattle.std.proofs.lemmas.Bool.{and_parts}
use Rattle.hs_core.specs.Sameness.{same_space}
use Rattle.hs_core.proofs.SamenessLemmas.{space_same}
use Rattle.hs_core.specs.Rename.{is_for, shown_for, renamed_at, renamed_name, renamed_ty, renamed_written}
use Rattle.hs_core.specs.Rename.{composed_shown, composed_renaming}
use Rattle.hs_core.specs.Occurring.{names_of_ty, names_of_written}
use Rattle.hs_core.specs.RenameLaws.{IsCovered, Covers}
use Rattle.hs_core.proofs.NameLemmas.{at-Module, at-App, at-WApp}

-- ---- which names are covered

pub covers-left : (by : Renaming) (xs ys : List OrigName) → Covers by (xs ++ ys) → Covers by xs
covers-left by xs ys c = record { each = λ n m. c.each n (among-left n xs ys m) }

pub covers-right : (by : Renaming) (xs ys : List OrigName) → Covers by (xs ++ ys) → Covers by ys
covers-right by xs ys c = record { each = λ n m. c.each n (among-right n xs ys m) }

pub covers-head : (by : Renaming) (n : OrigName) (ns : List OrigName) → Covers by (n ∷ ns) → IsCovered n by
covers-head by n ns c = c.each n (inl refl)

pub covers-tail : (by : Renaming) (n : OrigName) (ns : List OrigName) → Covers by (n ∷ ns) → Covers by ns
covers-tail by n ns c = record { each = λ o m. c.each o (inr m) }

-- ---- a renamed name keeps its space and its occurrence

abbrev Keeps : Space → Text → OrigName → Type 0
Keeps space occ n = (n.space ≡ space) × (n.occ ≡ occ)

shown-keeps : (h : Text) (space : Space) (occ : Text) (all : List Shown)
    → Keeps space occ (unwrap_or (shown_for h space occ all) (record { at = Hole h; space = space; occ = occ }))
shown-keeps h space occ [] = (refl, refl)
shown-keeps h space occ (s ∷ all) = by (is_for h space occ s) refl (shown-keeps h space occ all)
  where
    found : is_for h space occ s ≡ true → Keeps space occ s.name
    found e = let two = and_parts (bytes_eq s.hole h) (same_space s.name.space space && bytes_eq s.name.occ occ) e in
        let parts = and_parts (same_space s.name.space space) (bytes_eq s.name.occ occ) two.1 in
        (space_same s.name.space space parts.0, same_texts s.name.occ occ parts.1)

    by : (b : Bool) → is_for h space occ s ≡ b → Keeps space occ
        (unwrap_or (shown_for h space occ all) (record { at = Hole h; space = space; occ = occ }))
        → Keeps space occ (unwrap_or (cond b (Some s.name) (shown_for h space occ all))
        (record { at = Hole h; space = space; occ = occ }))
    by true e k = found e
    by false e k = k

at-keeps : (i : Ident) (space : Space) (occ : Text) (by : Renaming) → Keeps space occ (renamed_at i space occ by)
at-keeps (Hole h) space occ by = shown-keeps h space occ by.shown
at-keeps (Module' s (more_of-Unit u end_of-Unit) m) space occ by = (refl, refl)

is_for-renamed : (h : Text) (space : Space) (occ : Text) (s : Shown) (by : Renaming)
    → is_for h space occ (record { hole = s.hole; name = renamed_name s.name by }) ≡ is_for h space occ s
is_for-renamed h space occ s by =
    let k = at-keeps s.name.at s.name.space s.name.occ by in
    λ i. bytes_eq s.hole h && (same_space (k.0 i) space && bytes_eq (k.1 i) occ)

-- ---- names

shown-twice : (h : Text) (space : Space) (occ : Text) (all : List Shown) (g : Renaming)
    → IsSome (shown_for h space occ all) → renamed_name
    (unwrap_or (shown_for h space occ all) (record { at = Hole h; space = space; occ = occ })) g ≡ unwrap_or
    (shown_for h space occ (composed_shown all g)) (record { at = Hole h; space = space; occ = occ })
shown-twice h space occ [] g x = cc
shown-twice h space occ (s ∷ all) g x = by (is_for h space occ s)
    (is_for h space occ (record { hole = s.hole; name = renamed_name s.name g })) (is_for-renamed h space occ s g) x
    (shown-twice h space occ all g)
  where
    it : OrigName
    it = record { at = Hole h; space = space; occ = occ }

    by : (b c : Bool) → c ≡ b → IsSome (cond b (Some s.name) (shown_for h space occ all))
        → (IsSome (shown_for h space occ all) → renamed_name (unwrap_or (shown_for h space occ all) it) g ≡ unwrap_or
        (shown_for h space occ (composed_shown all g)) it)
        → renamed_name (unwrap_or (cond b (Some s.name) (shown_for h space occ all)) it) g ≡ unwrap_or
        (cond c (Some (renamed_name s.name g)) (shown_for h space occ (composed_shown all g))) it
    by true true e x k = refl
    by false false e x k = k x
    by true false e x k = cc
    by false true e x k = cc

at-twice : (i : Ident) (space : Space) (occ : Text) (f g : Renaming) → IsFilled i f.fills
    → ((h : Text) → i ≡ Hole h → IsSome (shown_for h space occ f.shown))
    → renamed_name (renamed_at i space occ f) g ≡ renamed_at i space occ (composed_renaming f g)
at-twice (Hole h) space occ f g fills shows = shown-twice h space occ f.shown g (shows h refl)
at-twice (Module' s (more_of-Unit u end_of-Unit) m) space occ f g fills shows =
    at-Module (filled_unit u f.fills) m space occ g
    ∙ ap (λ v. record { at = Module v m; space = space; occ = occ }) (filled_unit-filled_unit u f.fills g.fills fills)

pub name-twice : (n : OrigName) (f g : Renaming) → IsCovered n f
    → renamed_name (renamed_name n f) g ≡ renamed_name n (composed_renaming f g)
name-twice n f g c = at-twice n.at n.space n.occ f g c.filled c.shown

-- ---- types

pub ty-twice : (t : Ty) (f g : Renaming) → Covers f (names_of_ty t)
    → renamed_ty (renamed_ty t f) g ≡ renamed_ty t (composed_renaming f g)
ty-twice (Var i) f g c = refl
ty-twice (Con n k) f g c = ap (λ m. Con m k) (name-twice n f g (covers-head f n [] c))
ty-twice (App' s (more_of-Ty a end_of-Ty) z (more_of-Ty b end_of-Ty)) f g c =
    at-App (renamed_ty a f) (renamed_ty b f) g ∙ (λ i. App
    (ty-twice a f g (covers-left f (names_of_ty a) (names_of_ty b) c) i)
    (ty-twice b f g (covers-right f (names_of_ty a) (names_of_ty b) c) i))

pub written-twice : (t : Written) (f g : Renaming) → Covers f (names_of_written t)
    → renamed_written (renamed_written t f) g ≡ renamed_written t (composed_renaming f g)
written-twice (WVar n) f g c = refl
written-twice (WCon n) f g c = ap WCon (name-twice n f g (covers-head f n [] c))
written-twice (WApp' s (more_of-Written a end_of-Written) z (more_of-Written b end_of-Written)) f g c =
    at-WApp (renamed_written a f) (renamed_written b f) g
    ∙ (λ i. WApp (written-twice a f g (covers-left f (names_of_written a) (names_of_written b) c) i)
    (written-twice b f g (covers-right f (names_of_written a) (names_of_written b) c) i))

-- ---- lists

pub list-twice : {A : Type 0} (names : A → List OrigName) (change : A → Renaming → A) (f g : Renaming)
    → ((x : A) → Covers f (names x) → change (change x f) g ≡ change x (composed_renaming f g)) → (l : List A)
    → Covers f (flat_map names l) → map (λ x. change x g) (map (λ x. change x f) l) ≡ map
    (λ x. change x (composed_renaming f g)) l
list-twice names change f g e [] c = refl
list-twice names change f g e (x ∷ l) c = λ i. e x (covers-left f (names x) (flat_map names l) c) i
    ∷ list-twice names change f g e l (covers-right f (names x) (flat_map names l) c) i
