-- What is found of an export list is what it offers.
use Rattle.std.proofs.Common.{◌≡◌, refl, sym, ap, subst, ◌∙◌, inl, inr, Bool, true, false, List, [], ◌∷◌, ◌++◌, map, append-nil, true≢false}
use Rattle.std.specs.Prelude.{◌&&◌, ◌||◌, Result, Ok, Err, if◌then◌else◌}
use Rattle.std.specs.List.{flat_map, list_any}
use Rattle.std.specs.Str.{bytes_eq}
use Rattle.bp_base.specs.Texts.{Text}
use Rattle.bp_base.proofs.TextLemmas.{same_texts, texts_same}
use Rattle.bp_base.specs.declared.ty.Space.TheVariants.{Types, Values}
use Rattle.bp_base.specs.declared.ty.OrigName.{OrigName}
use Rattle.bp_base.specs.declared.entity.Con.{Con}
use Rattle.bp_base.specs.declared.entity.Entity.{Entity}
use Rattle.bp_base.specs.declared.entity.Entity.TheVariants.{Abstract, DataType, Synonym, Value}
use Rattle.bp_base.specs.declared.entity.Export.{Export}
use Rattle.bp_checks.specs.Check.{Check, ◌>>=◌, each, given}
use Rattle.hs_core.specs.Sameness.{same_original}
use Rattle.hs_core.proofs.SamenessLemmas.{original_itself, original_same}
use Rattle.hs_modules.specs.declared.module.CNameTree.{CNameTree}
use Rattle.hs_modules.specs.declared.module.SubsTree.{SubsTree}
use Rattle.hs_modules.specs.declared.module.SubsTree.TheVariants as s
use Rattle.hs_modules.specs.declared.module.ExportTree.{ExportTree}
use Rattle.hs_modules.specs.declared.module.ExportTree.TheVariants as x
use Rattle.hs_modules.specs.declared.module.Module.{Module}
use Rattle.hs_modules.specs.declared.module.Module.TheVariants as m
use Rattle.hs_scopes.specs.Words.{is_empty}
use Rattle.hs_scopes.specs.declared.scope.ScopeItem.{ScopeItem}
use Rattle.hs_scopes.specs.Meanings.{meaning_of, name_of}
use Rattle.import_resolve.specs.declared.thing.Thing.{Thing}
use Rattle.import_resolve.specs.ImportLists.{sub_name}
use Rattle.import_resolve.specs.Scopes.{ScopeFault, next}
use Rattle.import_resolve.specs.Exports.{HasItem, IsBoth, IsConItem, SamePlain, asked, both_names, con_names}
use Rattle.import_resolve.specs.Exports.{con_there, con_thing, cons_there, export_gives, is_qualifier, main_name, offered}
use Rattle.import_resolve.specs.Exports.{qvar_name, subs_there, thing_named, thing_of, things}
use Rattle.export_resolve.specs.Named.{items_named, owners_named}
use Rattle.export_resolve.specs.Seen.{seen}
use Rattle.export_resolve.specs.Found.{all_owned, both_found, con_found, con_or, cons_of, export_found, is_both}
use Rattle.export_resolve.specs.Found.{is_owned, module_or, offered_found, same_meaning, same_plain}
use Rattle.export_resolve.specs.Found.{subs_found, thing_found, type_with}
use Rattle.export_resolve.proofs.JoinLemmas.{AfterDone, Flat, Meets, Single, flats, met_then, singles}
use Rattle.export_resolve.proofs.OwnedLemmas.{HasOwn, chosen_mapped, owned_there, there_owned, those_chosen}
use Rattle.export_resolve.proofs.ThingLemmas.{thing_met}

-- ---- constructors in scope

abbrev con_key : ScopeItem → Text
con_key i = i.con

abbrev con_owner : ScopeItem → OrigName
con_owner i = name_of i.entity

as_item : (n : OrigName) (c : Text) (items : List ScopeItem) → HasOwn con_key con_owner n c items
    → HasItem (IsConItem n c) items
as_item n c [] h = h
as_item n c (i ∷ is) (inl h) = inl h
as_item n c (i ∷ is) (inr h) = inr (as_item n c is h)

from_item : (n : OrigName) (c : Text) (items : List ScopeItem) → HasItem (IsConItem n c) items
    → HasOwn con_key con_owner n c items
from_item n c [] h = h
from_item n c (i ∷ is) (inl h) = inl h
from_item n c (i ∷ is) (inr h) = inr (from_item n c is h)

con_seen : (n : OrigName) (c : Text) (items : List ScopeItem) → is_owned (owners_named items) n c ≡ true
    → HasItem (IsConItem n c) items
con_seen n c items h = as_item n c items (owned_there con_key con_owner n c items h)

con_unseen : (n : OrigName) (c : Text) (items : List ScopeItem) → is_owned (owners_named items) n c ≡ false
    → HasItem (IsConItem n c) items → ⊥
con_unseen n c items h p =
    true≢false (sym (there_owned con_key con_owner n c items (from_item n c items p)) ∙ h)

names_are : (e : Entity) → map (λ (c : Con). c.occ) (cons_of e) ≡ con_names e
names_are (Abstract n k) = refl
names_are (DataType n k p w cs) = refl
names_are (Synonym n k p t) = refl
names_are (Value n t f) = refl

cons_met : (items : List ScopeItem) (e : Entity) → (cons_there items e).passes (all_owned (owners_named items) e)
cons_met items e =
    let those = those_chosen (λ c. HasItem (IsConItem (name_of e) c) items) (is_owned (owners_named items) (name_of e))
    (con_thing e) (λ c h. con_seen (name_of e) c items h) (λ c h. con_unseen (name_of e) c items h) (con_names e) in
    let mapped = chosen_mapped (λ (c : Con). c.occ) (is_owned (owners_named items) (name_of e)) (con_thing e) (cons_of e) in (
      those.0,
      those.1,
      mapped
          ∙ ap (λ (ns : List Text). flat_map (λ c. if is_owned (owners_named items) (name_of e) c then con_thing e c ∷ [] else []) ns)
          (names_are e) ∙ those.2,
    )

con_by : (items : List ScopeItem) (e : Entity) (c : CNameTree) (t : Bool)
    → is_owned (owners_named items) (name_of e) (sub_name c) ≡ t
    → Single (λ (z : CNameTree). con_there items e (sub_name z)) (λ z. con_or (is_owned (owners_named items) (name_of e) (sub_name z)) e (sub_name z)) c (con_or t e (sub_name c))
con_by items e c true h = (con_thing e (sub_name c), (con_seen (name_of e) (sub_name c) items h, refl), refl)
con_by items e c false h = (con_unseen (name_of e) (sub_name c) items h, refl)

all_met : {A B : Type 0} (s : A → Check B ScopeFault) (f : A → Result (List B) ScopeFault) (as' : List A)
    (r : Result (List B) ScopeFault) → AfterDone s f [] as' r → Meets (each as' (λ done a. s a)) r
all_met s f as' (Ok bs) h = h
all_met s f as' (Err e) h = h

subs_met : (m : Module) (items : List ScopeItem) (e : Entity) (subs : SubsTree)
    → Meets (subs_there items e subs) (subs_found (seen m items) e subs)
subs_met m items e s.All = cons_met items e
subs_met m items e (s.Only names) =
    all_met (λ c. con_there items e (sub_name c)) (con_found (seen m items) e) names _
    (singles (λ c. con_there items e (sub_name c)) (con_found (seen m items) e)
    (λ c. con_by items e c (is_owned (owners_named items) (name_of e) (sub_name c)) refl) [] names)

-- ---- `module X`

plain_by : (i j : ScopeItem) (js : List ScopeItem) (a q t : Bool) → bytes_eq j.occ i.occ ≡ a → is_empty j.qualifier ≡ q
    → same_meaning i j ≡ t → (list_any (same_plain i) (items_named js i.occ) ≡ true → HasItem (SamePlain i) js)
    → list_any (same_plain i) ((if a then j ∷ [] else []) ++ items_named js i.occ) ≡ true → HasItem (SamePlain i) (j ∷ js)
plain_by i j js true true true ea eq et ih h =
    inl (nothing j.qualifier eq, same_texts j.occ i.occ ea, sym (original_same (meaning_of i) (meaning_of j) et))
  where
    nothing : (q : Text) → is_empty q ≡ true → q ≡ []
    nothing [] e = refl
    nothing (b ∷ bs) e = absurd (cc)
plain_by i j js true true false ea eq et ih h = inr (ih (rw (eq, et) at h))
plain_by i j js true false t ea eq et ih h = inr (ih (rw eq at h))
plain_by i j js false q t ea eq et ih h = inr (ih h)

plain_there : (i : ScopeItem) (js : List ScopeItem) → list_any (same_plain i) (items_named js i.occ) ≡ true
    → HasItem (SamePlain i) js
plain_there i [] h = absurd (cc)
plain_there i (j ∷ js) h =
    plain_by i j js (bytes_eq j.occ i.occ) (is_empty j.qualifier) (same_meaning i j) refl refl refl (plain_there i js) h

same_there : (i j : ScopeItem) → meaning_of j ≡ meaning_of i → same_meaning i j ≡ true
same_there i j e = subst (λ (n : OrigName). same_original (meaning_of i) n ≡ true) (sym e) (original_itself (meaning_of i))

plain_here : (i j : ScopeItem) (js : List ScopeItem) → SamePlain i j
    → list_any (same_plain i) (j ∷ items_named js i.occ) ≡ true
plain_here i j js p = rw (p.0, same_there i j p.2) refl

behind_plain : (i j : ScopeItem) (js : List ScopeItem) (t : Bool) → list_any (same_plain i) js ≡ true
    → list_any (same_plain i) ((if t then j ∷ [] else []) ++ js) ≡ true
behind_plain i j js true h = or_true (same_plain i j) (list_any (same_plain i) js) h
  where
    or_true : (a b : Bool) → b ≡ true → (a || b) ≡ true
    or_true true b e = refl
    or_true false b e = e
behind_plain i j js false h = h

there_plain : (i : ScopeItem) (js : List ScopeItem) → HasItem (SamePlain i) js
    → list_any (same_plain i) (items_named js i.occ) ≡ true
there_plain i [] h = absurd h
there_plain i (j ∷ js) (inl p) =
    let e : bytes_eq j.occ i.occ ≡ true = rw p.1 (texts_same i.occ) in rw e (plain_here i j js p)
there_plain i (j ∷ js) (inr p) = behind_plain i j (items_named js i.occ) (bytes_eq j.occ i.occ) (there_plain i js p)

both_yes : (m : Module) (items : List ScopeItem) (name : Text) (i : ScopeItem) (a b : Bool) → bytes_eq i.qualifier name ≡ a
    → list_any (same_plain i) (items_named items i.occ) ≡ b → (a && b) ≡ true → IsBoth items name i
both_yes m items name i true true ea eb h = (same_texts i.qualifier name ea, plain_there i items eb)
both_yes m items name i true false ea eb h = absurd (cc)
both_yes m items name i false b ea eb h = absurd (cc)

both_no : (m : Module) (items : List ScopeItem) (name : Text) (i : ScopeItem) → is_both (seen m items) name i ≡ false
    → IsBoth items name i → ⊥
both_no m items name i h p =
    let e : bytes_eq i.qualifier name ≡ true = rw p.0 (texts_same name) in
    let f : list_any (same_plain i) (items_named items i.occ) ≡ true = there_plain i items p.1 in
    let g : is_both (seen m items) name i ≡ true = rw (e, f) refl in
    true≢false (sym g ∙ h)

both_met : (m : Module) (items : List ScopeItem) (name : Text)
    → (both_names items name).passes (both_found (seen m items) items name)
both_met m items name = those_chosen (IsBoth items name) (is_both (seen m items) name) thing_of
    (λ i h. both_yes m items name i (bytes_eq i.qualifier name) (list_any (same_plain i) (items_named items i.occ)) refl refl h)
    (λ i h. both_no m items name i h) items

module_met : (m : Module) (items : List ScopeItem) (name : Text) (t : Bool)
    → Meets (asked t name (ScopeFault.NotInScope name) >>= λ n. both_names items name)
    (module_or t (both_found (seen m items) items name) name)
module_met m items name true = (name, refl, both_met m items name)
module_met m items name false = inl refl

-- ---- items and lists

export_met : (m : Module) (items : List ScopeItem) (e : ExportTree)
    → Meets (export_gives m items e) (export_found (seen m items) items e)
export_met m items (x.Var n) =
    met_then (thing_named items Values (qvar_name n)) (λ t. given (t ∷ [])) (thing_found (seen m items) Values (qvar_name n))
    (λ t. Ok (t ∷ [])) (thing_met m items Values (qvar_name n)) (λ t. refl)
export_met m items (x.Type n) =
    met_then (thing_named items Types n) (λ t. given (t ∷ [])) (thing_found (seen m items) Types n)
    (λ t. Ok (t ∷ [])) (thing_met m items Types n) (λ t. refl)
export_met m items (x.TypeWith n subs) =
    met_then (thing_named items Types n) (λ t. subs_there items t.entity subs >>= λ cs. given (t ∷ cs))
    (thing_found (seen m items) Types n) (type_with (seen m items) subs) (thing_met m items Types n)
    (λ t. met_then (subs_there items t.entity subs) (λ cs. given (t ∷ cs)) (subs_found (seen m items) t.entity subs)
    (λ cs. Ok (t ∷ cs)) (subs_met m items t.entity subs) (λ cs. refl))
export_met m items (x.Module n) = module_met m items n (is_qualifier m n)

-- parts that are put together
abbrev pub Offers : Check (List (List Thing)) ScopeFault → Result (List Thing) ScopeFault → Type 0
Offers check (Ok ts) = (parts : List (List Thing)) × check.passes parts × (flat_map (λ us. us) parts ≡ ts)
Offers check (Err e) = check.fails e

main_by : (items : List ScopeItem) (r : Result Thing ScopeFault) → Meets (thing_named items Values main_name) r
    → Offers (thing_named items Values main_name >>= λ t. given ((t ∷ []) ∷ [])) (next r (λ t. Ok (t ∷ [])))
main_by items (Ok t) p = ((t ∷ []) ∷ [], (t, p, refl), refl)
main_by items (Err e) p = inl p

listed_by : (m : Module) (items : List ScopeItem) (es : List ExportTree) (r : Result (List Thing) ScopeFault)
    → Flat (export_gives m items) (export_found (seen m items) items) [] es r
    → Offers (each es (λ done e. export_gives m items e)) r
listed_by m items es (Ok ts) h = h
listed_by m items es (Err e) h = h

pub offered_met : (m : Module) (own : List Export) (items : List ScopeItem)
    → Offers (offered m own items) (offered_found (seen m items) m own items)
offered_met (m.Headless b) own items =
    main_by items (thing_found (seen (m.Headless b) items) Values main_name) (thing_met (m.Headless b) items Values main_name)
offered_met (m.Named n b) own items = (things own ∷ [], refl, append-nil (things own))
offered_met (m.Exporting n es b) own items =
    listed_by (m.Exporting n es b) items es.exports _
    (flats (export_gives (m.Exporting n es b) items) (export_found (seen (m.Exporting n es b) items) items)
    (export_met (m.Exporting n es b) items) [] es.exports)
offered_met (m.Signature n b) own items = (things own ∷ [], refl, append-nil (things own))
