-- The first renaming of a name, from a table.
use Rattle.std.proofs.Common.{◌≡◌, refl, sym, ap, ◌∙◌, ℕ, ◌+◌, ◌<◌, suc, Bool, true, false, cond, List, ◌∷◌, length}
use Rattle.std.proofs.Common.{drop, get_or, Option, Some, None, is_some, unwrap_or, add-one, drop-cons}
use Rattle.std.specs.HashMap.{HashMap, get}
use Rattle.std.specs.Str.{bytes_eq}
use Rattle.bp_base.specs.Texts.{Text}
use Rattle.bp_base.specs.declared.linking.Rename.{Rename}
use Rattle.bp_base.proofs.TextLemmas.{same_texts}
use Rattle.mixin_names.specs.Names.{linkage_name}

keeps : (r : Rename) (rs : List Rename) (m : Option Text) (q : Text) (b : Bool) → bytes_eq r.from q ≡ b
    → (b ≡ true → is_some m ≡ true)
    → unwrap_or m (linkage_name (r ∷ rs) q) ≡ unwrap_or m (linkage_name rs q)
keeps r rs (Some w) q b e h = refl
keeps r rs None q true e h = let k = h refl in absurd (cc)
keeps r rs None q false e h = rw e refl

adds : (r : Rename) (rs : List Rename) (m n : Option Text) (q : Text) (b : Bool) → bytes_eq r.from q ≡ b
    → n ≡ cond b (Some r.to) m → (b ≡ true → is_some m ≡ false)
    → unwrap_or m (linkage_name (r ∷ rs) q) ≡ unwrap_or n (linkage_name rs q)
adds r rs (Some w) n q true e u h = let k = h refl in absurd (cc)
adds r rs None n q true e u h = rw (u, e) refl
adds r rs m n q false e u h = rw (u, e) refl

same_here : {S : Type 0} (table : HashMap Text Text S) (name q : Text) (b : Bool)
    → is_some (get bytes_eq table name) ≡ b → bytes_eq name q ≡ true
    → is_some (get bytes_eq table q) ≡ b
same_here table name q b h e = ap (λ (x : Text). is_some (get bytes_eq table x)) (sym (same_texts name q e)) ∙ h

cut_at : (needs : List Rename) (i : ℕ) (r : Rename) → i < length needs → r ≡ get_or needs i r
    → drop i needs ≡ r ∷ drop (i + 1) needs
cut_at needs i r h e = rw add-one (drop-cons needs i r h ∙ ap (λ (x : Rename). x ∷ drop (suc i) needs) (sym e))

-- one more renaming, of a name that the table has
pub known_at : {S : Type 0} (table : HashMap Text Text S) (needs : List Rename) (i : ℕ) (r : Rename) (q total : Text)
    → i < length needs → r ≡ get_or needs i r
    → is_some (get bytes_eq table r.from) ≡ true → unwrap_or (get bytes_eq table q)
    (linkage_name (drop i needs) q) ≡ total
    → unwrap_or (get bytes_eq table q) (linkage_name (drop (i + 1) needs) q) ≡ total
known_at table needs i r q total h e s t =
    let step = keeps r (drop (i + 1) needs) (get bytes_eq table q) q (bytes_eq r.from q) refl
    (λ b. same_here table r.from q true s b) in
    sym step ∙ sym (ap (λ (ls : List Rename). unwrap_or (get bytes_eq table q) (linkage_name ls q))
    (cut_at needs i r h e)) ∙ t

-- one more renaming, of another name, from copies of its names
pub new_at : {S : Type 0} (table next : HashMap Text Text S) (needs : List Rename) (i : ℕ) (r : Rename)
    (from to q total : Text) → i < length needs → r ≡ get_or needs i r
    → from ≡ r.from → to ≡ r.to → is_some (get bytes_eq table r.from) ≡ false
    → get bytes_eq next q ≡ cond (bytes_eq from q) (Some to) (get bytes_eq table q)
    → unwrap_or (get bytes_eq table q) (linkage_name (drop i needs) q) ≡ total
    → unwrap_or (get bytes_eq next q) (linkage_name (drop (i + 1) needs) q) ≡ total
new_at table next needs i r from to q total h e f g s u t =
    let one : get bytes_eq next q ≡ cond (bytes_eq r.from q) (Some r.to) (get bytes_eq table q) = rw (f, g) at u in
    let step = adds r (drop (i + 1) needs) (get bytes_eq table q) (get bytes_eq next q) q (bytes_eq r.from q) refl one
    (λ b. same_here table r.from q false s b) in
    sym step ∙ sym (ap (λ (ls : List Rename). unwrap_or (get bytes_eq table q) (linkage_name ls q))
    (cut_at needs i r h e)) ∙ t
