-- The own modules and signatures of a component: no name stands twice among them.
use Rattle.std.proofs.Common.{◌≡◌, inl, inr, refl, sym, ap, ◌∙◌, subst, ℕ, Bool, true, false, cond, List, [], ◌∷◌}
use Rattle.std.proofs.Common.{◌++◌, map, Option}
use Rattle.std.specs.List.{flat_map}
use Rattle.std.proofs.lemmas.Bool.{eqb-true}
use Rattle.bp_base.specs.Lists.{Among, AreDistinct, is_among}
use Rattle.bp_base.specs.Texts.{Text}
use Rattle.bp_base.proofs.SetLemmas.{among-left, among-right, among-either, distinct-left, distinct-right}
use Rattle.bp_base.proofs.SetLemmas.{distinct-cross, distinct-join}
use Rattle.cabal_stanzas.specs.declared.table.ComponentField.{ComponentField}
use Rattle.cabal_stanzas.specs.declared.table.ComponentField.TheVariants.{ExposedModules, OtherModules, Signatures}
use Rattle.cabal_stanzas.specs.Table.{field_number, is_field}
use Rattle.cabal_component.specs.declared.given.Given.{Given}
use Rattle.cabal_component.specs.declared.given.Value.{Value}
use Rattle.cabal_component.specs.declared.package.Listing.{Listing}
use Rattle.cabal_component.specs.Given.{value_at, modules_in, modules_at}
use Rattle.cabal_component.specs.Package.{place, placed_in, twice_after}
use Rattle.cabal_lawful.proofs.ApartLemmas.{IsFresh, fresh_nil, fresh_more}

abbrev pub listed : List Listing → List Text
listed ps = map (λ (p : Listing). p.name) ps

twice_step : (seen : List Text) (p : Listing) (ps : List Listing) (r : Bool) → is_among p.name seen ≡ r
    → cond r (p.line ∷ []) [] ++ twice_after (seen ++ p.name ∷ []) ps ≡ []
    → (twice_after (seen ++ p.name ∷ []) ps ≡ [] → IsFresh (seen ++ p.name ∷ []) (listed ps))
    → IsFresh seen (p.name ∷ listed ps)
twice_step seen p ps true e t h = absurd (cc)
twice_step seen p ps false e t h = fresh_more seen p.name (listed ps) e (h t)

-- no name stands at a place where it stood before
pub twice_none : (seen : List Text) (ps : List Listing) → twice_after seen ps ≡ [] → IsFresh seen (listed ps)
twice_none seen [] e = fresh_nil seen
twice_none seen (p ∷ ps) e = twice_step seen p ps (is_among p.name seen) refl e (twice_none (seen ++ p.name ∷ []) ps)

place_names : (line : ℕ) (ns : List Text) → listed (map (place line) ns) ≡ ns
place_names line [] = refl
place_names line (n ∷ ns) = ap (λ (m : List Text). n ∷ m) (place_names line ns)

listed_append : (xs ys : List Listing) → listed (xs ++ ys) ≡ listed xs ++ listed ys
listed_append [] ys = refl
listed_append (x ∷ xs) ys = ap (λ (m : List Text). x.name ∷ m) (listed_append xs ys)

-- the own names of fields, as listed
abbrev pub names_placed : List Given → List Text
names_placed gs = listed (flat_map placed_in gs)

placed_more : (g : Given) (gs : List Given) → names_placed (g ∷ gs) ≡ modules_in g.value ++ names_placed gs
placed_more g gs = listed_append (placed_in g) (flat_map placed_in gs)
    ∙ ap (λ (ns : List Text). ns ++ names_placed gs) (place_names g.line (modules_in g.value))

among_step : (a : Text) (r : Bool) (one later : Option Value) (ns : List Text)
    → (Among a (modules_in later) → Among a ns) → Among a (modules_in (cond r one later))
    → Among a (modules_in one ++ ns)
among_step a true one later ns h m = among-left a (modules_in one) ns m
among_step a false one later ns h m = among-right a (modules_in one) ns (h m)

-- what a field lists is among the own names
pub named_among : (v : ComponentField) (a : Text) (gs : List Given) → Among a (modules_at v gs)
    → Among a (names_placed gs)
named_among v a [] m = absurd m
named_among v a (g ∷ gs) m =
    subst (λ (ns : List Text). Among a ns) (sym (placed_more g gs))
    (among_step a (is_field g.field v) g.value (value_at v gs) (names_placed gs) (named_among v a gs) m)

distinct_step : (r : Bool) (one later : Option Value) (ns : List Text) → AreDistinct (modules_in one ++ ns)
    → AreDistinct (modules_in later) → AreDistinct (modules_in (cond r one later))
distinct_step true one later ns d h = distinct-left (modules_in one) ns d
distinct_step false one later ns d h = h

-- what one field lists has no name twice
named_distinct : (v : ComponentField) (gs : List Given) → AreDistinct (names_placed gs) → AreDistinct (modules_at v gs)
named_distinct v [] d = tt
named_distinct v (g ∷ gs) d =
    let parts = subst (λ (ns : List Text). AreDistinct ns) (placed_more g gs) d in
    distinct_step (is_field g.field v) g.value (value_at v gs) (names_placed gs) parts
    (named_distinct v gs (distinct-right (modules_in g.value) (names_placed gs) parts))

-- no field is two
apart_fields : (g v w : ComponentField) → (field_number v ≡ field_number w → ⊥) → is_field g v ≡ true
    → is_field g w ≡ true → ⊥
apart_fields g v w q d e =
    q (sym (eqb-true (field_number g) (field_number v) d) ∙ eqb-true (field_number g) (field_number w) e)

cross_step : (a : Text) (r s : Bool) (one x y : Option Value) (ns : List Text) → (r ≡ true → s ≡ true → ⊥)
    → AreDistinct (modules_in one ++ ns) → (Among a (modules_in x) → Among a ns)
    → (Among a (modules_in y) → Among a ns) → (Among a (modules_in x) → Among a (modules_in y) → ⊥)
    → Among a (modules_in (cond r one x)) → Among a (modules_in (cond s one y)) → ⊥
cross_step a true true one x y ns q c f g h m n = q refl refl
cross_step a true false one x y ns q c f g h m n = distinct-cross a (modules_in one) ns c m (g n)
cross_step a false true one x y ns q c f g h m n = distinct-cross a (modules_in one) ns c n (f m)
cross_step a false false one x y ns q c f g h m n = h m n

-- what two fields list has no name in common
named_cross : (v w : ComponentField) (a : Text) → (field_number v ≡ field_number w → ⊥) → (gs : List Given)
    → AreDistinct (names_placed gs) → Among a (modules_at v gs) → Among a (modules_at w gs) → ⊥
named_cross v w a q [] d m n = absurd m
named_cross v w a q (g ∷ gs) d m n =
    let parts = subst (λ (ns : List Text). AreDistinct ns) (placed_more g gs) d in
    cross_step a (is_field g.field v) (is_field g.field w) g.value (value_at v gs) (value_at w gs) (names_placed gs)
    (apart_fields g.field v w q) parts (named_among v a gs) (named_among w a gs)
    (named_cross v w a q gs (distinct-right (modules_in g.value) (names_placed gs) parts)) m n

-- the modules and signatures of a component
abbrev pub own_listed : List Given → List Text
own_listed gs = modules_at ExposedModules gs ++ (modules_at OtherModules gs ++ modules_at Signatures gs)

-- no name stands twice among them
pub own_distinct : (gs : List Given) → AreDistinct (names_placed gs) → AreDistinct (own_listed gs)
own_distinct gs d =
    let exposed = modules_at ExposedModules gs in
    let others = modules_at OtherModules gs in
    let signatures = modules_at Signatures gs in
    distinct-join exposed (others ++ signatures) (named_distinct ExposedModules gs d)
    (distinct-join others signatures (named_distinct OtherModules gs d) (named_distinct Signatures gs d)
    (λ a. named_cross OtherModules Signatures a (λ e. absurd (cc)) gs d))
    (λ a h k. elim (among-either a others signatures k) [
      | inl o ↦ named_cross ExposedModules OtherModules a (λ e. absurd (cc)) gs d h o
      | inr s ↦ named_cross ExposedModules Signatures a (λ e. absurd (cc)) gs d h s
    ])

-- they are among the own names
pub own_among : (gs : List Given) (a : Text) → Among a (own_listed gs) → Among a (names_placed gs)
own_among gs a m =
    let others = modules_at OtherModules gs in
    let signatures = modules_at Signatures gs in
    elim (among-either a (modules_at ExposedModules gs) (others ++ signatures) m) [
      | inl e ↦ named_among ExposedModules a gs e
      | inr k ↦ elim (among-either a others signatures k) [
        | inl o ↦ named_among OtherModules a gs o
        | inr s ↦ named_among Signatures a gs s
      ]
    ]
