-- Exports put in order by a map.
use Rattle.std.proofs.Common.{◌≡◌, refl, sym, ap, ◌∙◌, Bool, true, false, List, [], ◌∷◌, ◌++◌, ℕ}
use Rattle.std.specs.Prelude.{not}
use Rattle.std.specs.BTreeMap.{insert_entry}
use Rattle.std.specs.Map.{values_of}
use Rattle.std.specs.Ordering.{bool_cmp, nat_cmp, match_ordering, ordering_then}
use Rattle.std.specs.Cmp.Lexicographic.{slice_cmp}
use Rattle.std.specs.declared.cmp.Ordering.{Ordering}
use Rattle.std.specs.declared.cmp.Ordering.TheVariants.{Less, Equal, Greater}
use Rattle.bp_base.proofs.TextLemmas.{tied_texts}
use Rattle.bp_base.specs.declared.entity.Export.{Export}
use Rattle.hs_scopes.specs.Meanings.{name_of, is_types}
use Rattle.import_resolve.specs.Exports.{export_order, inserted, inserted_by, sorted, space_order, then_by}
use Rattle.export_resolve.specs.Sorting.{key_of, put_in, tagged}

-- in an order of keys that is that of the exports
abbrev pub IsOrderOf : (Bool × List ℕ → Bool × List ℕ → Ordering) → Type 0
IsOrderOf cmp = (a b : Export) → cmp (key_of a) (key_of b) ≡ export_order a b

tied_spaces : (x y : Bool) (o : Ordering) → then_by (space_order x y) o ≡ Equal → (x ≡ y) × (o ≡ Equal)
tied_spaces true true o e = (refl, e)
tied_spaces false false o e = (refl, e)
tied_spaces true false o e = absurd (cc)
tied_spaces false true o e = absurd (cc)

keyed : (x y : Bool) (o : Ordering) → ordering_then (bool_cmp (not x) (not y)) o ≡ then_by (space_order x y) o
keyed true true o = refl
keyed true false o = refl
keyed false true o = refl
keyed false false o = refl

-- the order of pairs is that of the exports
pub pairs_order : (a b : Export) → ordering_then (bool_cmp (not (is_types (name_of a.entity).space))
    (not (is_types (name_of b.entity).space))) (slice_cmp nat_cmp a.occ b.occ) ≡ export_order a b
pairs_order a b = keyed (is_types (name_of a.entity).space) (is_types (name_of b.entity).space) (slice_cmp nat_cmp a.occ b.occ)

-- exports that stand at one place have one key
one_key : (a b : Export) → export_order a b ≡ Equal → key_of b ≡ key_of a
one_key a b e =
    let s = tied_spaces (is_types (name_of a.entity).space) (is_types (name_of b.entity).space)
    (slice_cmp nat_cmp a.occ b.occ) e in
    let t : a.occ ≡ b.occ = tied_texts a.occ b.occ s.1 in
    ap (λ (x : Bool). (let k : Bool × List ℕ = (not x, b.occ) in k)) (sym s.0)
    ∙ ap (λ (x : List ℕ). (let k : Bool × List ℕ = (not (is_types (name_of a.entity).space), x) in k)) (sym t)

by_order : (cmp : Bool × List ℕ → Bool × List ℕ → Ordering) (a b : Export) (rest inner : List Export) (o : Ordering)
    → export_order a b ≡ o → insert_entry cmp (tagged rest) (key_of a) a ≡ tagged inner
    → match_ordering o ((key_of a, a) ∷ tagged (b ∷ rest)) ((key_of b, a) ∷ tagged rest)
    ((key_of b, b) ∷ insert_entry cmp (tagged rest) (key_of a) a)
    ≡ tagged (inserted_by o a b rest inner)
by_order cmp a b rest inner Less e ih = refl
by_order cmp a b rest inner Equal e ih =
    ap (λ (k : Bool × List ℕ). (let x : (Bool × List ℕ) × Export = (k, a) in x) ∷ tagged rest) (one_key a b e)
by_order cmp a b rest inner Greater e ih = ap (λ es. (key_of b, b) ∷ es) ih

-- an export is put into the map at its place
pub put_one : (cmp : Bool × List ℕ → Bool × List ℕ → Ordering) → IsOrderOf cmp → (a : Export) (es : List Export)
    → insert_entry cmp (tagged es) (key_of a) a ≡ tagged (inserted a es)
put_one cmp h a [] = refl
put_one cmp h a (b ∷ rest) =
    rw (h a b) (by_order cmp a b rest (inserted a rest) (export_order a b) refl (put_one cmp h a rest))

-- the same of what an insertion leaves
pub put_by : (cmp : Bool × List ℕ → Bool × List ℕ → Ordering) → IsOrderOf cmp → (a : Export) (key : Bool × List ℕ)
    (old new : List ((Bool × List ℕ) × Export)) → key ≡ key_of a → new ≡ insert_entry cmp old key a → (into : List Export)
    → old ≡ tagged into → new ≡ tagged (inserted a into)
put_by cmp h a key old new k n into o =
    n ∙ (ap (λ es. insert_entry cmp es key a) o ∙ (ap (λ (x : Bool × List ℕ). insert_entry cmp (tagged into) x a) k
    ∙ put_one cmp h a into))

-- the last goes in first
pub put_last : (es : List Export) (e : Export) (into : List Export) → put_in (es ++ e ∷ []) into ≡ put_in es (inserted e into)
put_last [] e into = refl
put_last (d ∷ es) e into = ap (inserted d) (put_last es e into)

pub put_all : (es : List Export) → put_in es [] ≡ sorted es
put_all [] = refl
put_all (e ∷ es) = ap (inserted e) (put_all es)

pub values_tagged : (es : List Export) → values_of (tagged es) ≡ es
values_tagged [] = refl
values_tagged (e ∷ es) = ap (λ rest. e ∷ rest) (values_tagged es)
