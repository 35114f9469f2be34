-- What the heads of patterns do, and patterns put together from their parts.
use Rattle.std.proofs.Common.{◌≡◌, refl, sym, ap, subst, ◌∙◌, inl, inr, ℕ, zero, suc, ◌≤◌, ◌+◌, List, [], ◌∷◌, ◌++◌}
use Rattle.std.proofs.Common.{map}
use Rattle.std.proofs.lemmas.List.{append-nil, append_assoc, map-append}
use Rattle.std.specs.Prelude.{length, replicate, ◌≢◌}
use Rattle.std.specs.List.{range_with_len}
use Rattle.bp_base.specs.Texts.{Text}
use Rattle.bp_base.specs.declared.ty.Kind.{Kind}
use Rattle.bp_base.specs.declared.ty.Kind.TheVariants.{Star}
use Rattle.hs_core.specs.declared.tree.Pat.{Pat}
use Rattle.hs_core.specs.declared.tree.Pat.TheVariants.{PVar, PWild, PInt, PChr, PStr, PTuple, PList, PAs, PLazy}
use Rattle.type_terms.specs.Terms.{var}
use Rattle.hs_core.specs.Types.{KindTerm, star, integer, character, list_of, count, kind_term}
use Rattle.hs_core.specs.Globals.{Globals}
use Rattle.type_unify.specs.Types.{Plain}
use Rattle.type_equations.specs.Coded.{IsForm}
use Rattle.type_equations.specs.States.{State, Equates, Refuses}
use Rattle.type_equations.specs.declared.equations.Binder.{Binder}
use Rattle.type_equations.specs.Demands.{with_unknowns}
use Rattle.type_equations.specs.Syntax.{plain_integer, plain_character, plain_list, plain_tuple, unknowns, AreStars}
use Rattle.type_equations.specs.Syntax.{KnowsSyntax}
use Rattle.type_equations.proofs.DemandLemmas.{ready-with, slice_get-front}
use Rattle.type_equations.proofs.SyntaxLemmas.{form-list, form-unknowns, form-tuple}
use Rattle.type_equations.proofs.UnknownLemmas.{new_stars}
use Rattle.infer_patterns.specs.Patterns.{PatternInferred, PatternRefused, PatternsInferred}
use Rattle.infer_patterns.specs.Patterns.{PatternsRefused, LiteralEntered, LiteralRefused, TupleEntered, TupleRefused}
use Rattle.infer_patterns.specs.Patterns.{ListEntered, ListRefused}
use Rattle.infer_patterns.specs.declared.names.Declared.{Declared}
use Rattle.infer_patterns.proofs.PatternLemmas.{variable_imposes, wild_imposes, literal_imposes, literal_none}
use Rattle.infer_patterns.proofs.PatternLemmas.{as_imposes}
use Rattle.infer_patterns.proofs.PatternLemmas.{as_none, lazy_imposes, lazy_none}
use Rattle.infer_patterns.proofs.PartsLemmas.{tuple_imposes, tuple_none, tuple_parts_none, tuple_count, item_stars}
use Rattle.infer_patterns.proofs.PartsLemmas.{list_imposes, list_none, list_items_none}

-- ---- numbers

count-range : (a m : ℕ) → count (unknowns (range_with_len a m)) ≡ m
count-range a zero = refl
count-range a (suc m) = ap suc (count-range (a + 1) m)

pub kinds_replicate : (m : ℕ) → map kind_term (replicate m Star) ≡ replicate m star
kinds_replicate zero = refl
kinds_replicate (suc m) = ap (λ l. star ∷ l) (kinds_replicate m)

-- the kinds behind those of new unknowns of kind `*`
pub kinds_behind : (old new : List Kind) (m : ℕ) → new ≡ old ++ replicate m Star
    → map kind_term new ≡ map kind_term old ++ replicate m star
kinds_behind old new m e = ap (map kind_term) e ∙ map-append kind_term old (replicate m Star)
    ∙ ap (λ l. map kind_term old ++ l) (kinds_replicate m)

pub state_behind : (old new : State) (ks : List KindTerm) → new.bindings ≡ old.bindings → new.kinds ≡ old.kinds ++ ks
    → new ≡ with_unknowns old ks
state_behind old new ks p q = λ i. record { bindings = p i; kinds = q i }

-- ---- heads

pub literal_entered : (old new : State) (v : ℕ) (t : Plain) → Equates old new (var v) t → LiteralEntered old new v t
literal_entered old new v t h G K r s f = h G star r s f

pub literal_refused : (old : State) (v : ℕ) (t : Plain) → Refuses old (var v) t → LiteralRefused old v t
literal_refused old v t h G K s f = h G star s f

tuple_form : (G : Globals) → KnowsSyntax G → (old : State) (m : ℕ) → m ≤ 15 → m ≢ 1
    → IsForm G (old.kinds ++ replicate m star) (plain_tuple (unknowns (range_with_len (length old.kinds) m))) star
tuple_form G K old m l n = form-tuple G K (old.kinds ++ replicate m star)
    (unknowns (range_with_len (length old.kinds) m))
    (subst (λ k. k ≤ 15) (sym (count-range (length old.kinds) m)) l)
    (λ p. n (sym (count-range (length old.kinds) m) ∙ p))
    (form-unknowns G K (old.kinds ++ replicate m star) (range_with_len (length old.kinds) m) (new_stars old.kinds m))

pub tuple_entered : (old middle new : State) (v m : ℕ) → middle ≡ with_unknowns old (replicate m star) → m ≤ 15
    → m ≢ 1 → Equates middle new (var v) (plain_tuple (unknowns (range_with_len (length old.kinds) m)))
    → TupleEntered old new v m
tuple_entered old middle new v m e l n h G K r s =
    subst (λ z. Equates z new (var v) (plain_tuple (unknowns (range_with_len (length old.kinds) m)))) e h G star
    (ready-with G old (replicate m star) r) (slice_get-front old.kinds (replicate m star) v star s)
    (tuple_form G K old m l n)

pub tuple_refused : (old middle : State) (v m : ℕ) → middle ≡ with_unknowns old (replicate m star) → m ≤ 15
    → m ≢ 1 → Refuses middle (var v) (plain_tuple (unknowns (range_with_len (length old.kinds) m)))
    → TupleRefused old v m
tuple_refused old middle v m e l n h G K r s = inr
    (subst (λ z. Refuses z (var v) (plain_tuple (unknowns (range_with_len (length old.kinds) m)))) e h G star
    (slice_get-front old.kinds (replicate m star) v star s) (tuple_form G K old m l n))

pub tuple_count_refused : (old : State) (v m : ℕ) → ((m ≤ 15) × (m ≢ 1) → ⊥) → TupleRefused old v m
tuple_count_refused old v m h G K r s = inl h

list_form : (G : Globals) → KnowsSyntax G → (old : State)
    → IsForm G (old.kinds ++ star ∷ []) (plain_list (var (length old.kinds))) star
list_form G K old = form-list G K (old.kinds ++ star ∷ []) (var (length old.kinds)) (new_stars old.kinds 1).0

pub list_entered : (old middle new : State) (v : ℕ) → middle ≡ with_unknowns old (star ∷ [])
    → Equates middle new (var v) (plain_list (var (length old.kinds))) → ListEntered old new v
list_entered old middle new v e h G K r s =
    subst (λ z. Equates z new (var v) (plain_list (var (length old.kinds)))) e h G star
    (ready-with G old (star ∷ []) r) (slice_get-front old.kinds (star ∷ []) v star s) (list_form G K old)

pub list_refused : (old middle : State) (v : ℕ) → middle ≡ with_unknowns old (star ∷ [])
    → Refuses middle (var v) (plain_list (var (length old.kinds))) → ListRefused old v
list_refused old middle v e h G K r s =
    subst (λ z. Refuses z (var v) (plain_list (var (length old.kinds)))) e h G star
    (slice_get-front old.kinds (star ∷ []) v star s) (list_form G K old)

-- ---- patterns

pub variable_inferred : (names : List Declared) (before after : List Binder) (state : State) (x : Text) (v : ℕ)
    → after ≡ before ++ record { name = x; unknown = v } ∷ []
    → PatternInferred names before after state state (PVar x) v
variable_inferred names before after state x v e G K r s = record {
  binders = record { name = x; unknown = v } ∷ [];
  pushed = e;
  imposes = variable_imposes G state x v r s;
}

pub wild_inferred : (names : List Declared) (before : List Binder) (state : State) (v : ℕ)
    → PatternInferred names before before state state PWild v
wild_inferred names before state v G K r s = record {
  binders = [];
  pushed = sym (append-nil before);
  imposes = wild_imposes G state v r s;
}

-- literals

pub integer_inferred : (names : List Declared) (before : List Binder) (old new : State) (b : _) (n v : ℕ)
    → LiteralEntered old new v plain_integer → PatternInferred names before before old new (PInt b n) v
integer_inferred names before old new b n v h G K r s = record {
  binders = [];
  pushed = sym (append-nil before);
  imposes = literal_imposes G old new (PInt b n) v plain_integer integer s (λ k w bs. (λ z. z, λ z. z)) (λ g. refl)
      (h G K.syntax r s K.syntax.integer);
}

pub integer_refused : (names : List Declared) (old : State) (b : _) (n v : ℕ) → LiteralRefused old v plain_integer
    → PatternRefused names old (PInt b n) v
integer_refused names old b n v h G K r s = literal_none G old (PInt b n) v plain_integer integer
    (λ k w bs. (λ z. z, λ z. z)) (λ g. refl) (h G K.syntax s K.syntax.integer)

pub character_inferred : (names : List Declared) (before : List Binder) (old new : State) (c v : ℕ)
    → LiteralEntered old new v plain_character → PatternInferred names before before old new (PChr c) v
character_inferred names before old new c v h G K r s = record {
  binders = [];
  pushed = sym (append-nil before);
  imposes = literal_imposes G old new (PChr c) v plain_character character s (λ k w bs. (λ z. z, λ z. z)) (λ g. refl)
      (h G K.syntax r s K.syntax.character);
}

pub character_refused : (names : List Declared) (old : State) (c v : ℕ) → LiteralRefused old v plain_character
    → PatternRefused names old (PChr c) v
character_refused names old c v h G K r s = literal_none G old (PChr c) v plain_character character
    (λ k w bs. (λ z. z, λ z. z)) (λ g. refl) (h G K.syntax s K.syntax.character)

pub string_inferred : (names : List Declared) (before : List Binder) (old new : State) (cs : List ℕ) (v : ℕ)
    → LiteralEntered old new v (plain_list plain_character)
    → PatternInferred names before before old new (PStr cs) v
string_inferred names before old new cs v h G K r s = record {
  binders = [];
  pushed = sym (append-nil before);
  imposes = literal_imposes G old new (PStr cs) v (plain_list plain_character) (list_of character) s
      (λ k w bs. (λ z. z, λ z. z)) (λ g. refl)
      (h G K.syntax r s (form-list G K.syntax old.kinds plain_character K.syntax.character));
}

pub string_refused : (names : List Declared) (old : State) (cs : List ℕ) (v : ℕ)
    → LiteralRefused old v (plain_list plain_character) → PatternRefused names old (PStr cs) v
string_refused names old cs v h G K r s = literal_none G old (PStr cs) v (plain_list plain_character)
    (list_of character) (λ k w bs. (λ z. z, λ z. z)) (λ g. refl)
    (h G K.syntax s (form-list G K.syntax old.kinds plain_character K.syntax.character))

-- parts

pub as_inferred : (names : List Declared) (before middle after : List Binder) (old new : State) (x : Text) (p : Pat)
    (v : ℕ) → middle ≡ before ++ record { name = x; unknown = v } ∷ []
    → PatternInferred names middle after old new p v → PatternInferred names before after old new (PAs x p) v
as_inferred names before middle after old new x p v e h G K r s = let q = h G K r s in record {
  binders = record { name = x; unknown = v } ∷ q.binders;
  pushed = q.pushed ∙ ap (λ l. l ++ q.binders) e ∙ append_assoc before
      (record { name = x; unknown = v } ∷ []) q.binders;
  imposes = as_imposes G old new x p v q.binders s q.imposes;
}

pub as_refused : (names : List Declared) (old : State) (x : Text) (p : Pat) (v : ℕ) → PatternRefused names old p v
    → PatternRefused names old (PAs x p) v
as_refused names old x p v h G K r s = as_none G old x p v (h G K r s)

pub lazy_inferred : (names : List Declared) (before after : List Binder) (old new : State) (p : Pat) (v : ℕ)
    → PatternInferred names before after old new p v → PatternInferred names before after old new (PLazy p) v
lazy_inferred names before after old new p v h G K r s = let q = h G K r s in record {
  binders = q.binders;
  pushed = q.pushed;
  imposes = lazy_imposes G old new p v q.binders q.imposes;
}

pub lazy_refused : (names : List Declared) (old : State) (p : Pat) (v : ℕ) → PatternRefused names old p v
    → PatternRefused names old (PLazy p) v
lazy_refused names old p v h G K r s = lazy_none G old p v (h G K r s)

pub tuple_inferred : (names : List Declared) (before after : List Binder) (old middle new : State) (ps : List Pat)
    (is : List ℕ) (v : ℕ) → is ≡ range_with_len (length old.kinds) (length ps)
    → TupleEntered old middle v (length ps) → PatternsInferred names before after middle new ps is
    → PatternInferred names before after old new (PTuple ps) v
tuple_inferred names before after old middle new ps is v e h rows G K r s =
    let m = h G K.syntax r s in
    let q = subst (λ z. PatternsInferred names before after middle new ps z) e rows G K m.ready
    (subst (λ z. AreStars z (range_with_len (length old.kinds) (length ps))) (sym m.same)
    (new_stars old.kinds (length ps))) in
    record {
      binders = q.binders;
      pushed = q.pushed;
      imposes = tuple_imposes G old middle new ps v q.binders r s m
          q.imposes;
    }

pub tuple_head_refused : (names : List Declared) (old : State) (ps : List Pat) (v : ℕ)
    → TupleRefused old v (length ps) → PatternRefused names old (PTuple ps) v
tuple_head_refused names old ps v h G K r s =
    elim (h G K.syntax r s) [ inl n ↦ tuple_count G K.syntax old ps v n | inr n ↦ tuple_none G old ps v r s n ]

pub tuple_parts_refused : (names : List Declared) (old middle : State) (ps : List Pat) (is : List ℕ) (v : ℕ)
    → is ≡ range_with_len (length old.kinds) (length ps) → TupleEntered old middle v (length ps)
    → PatternsRefused names middle ps is → PatternRefused names old (PTuple ps) v
tuple_parts_refused names old middle ps is v e h rows G K r s =
    let m = h G K.syntax r s in
    tuple_parts_none G old middle ps v r s m
    (subst (λ z. PatternsRefused names middle ps z) e rows G K m.ready
    (subst (λ z. AreStars z (range_with_len (length old.kinds) (length ps))) (sym m.same)
    (new_stars old.kinds (length ps))))

pub list_inferred : (names : List Declared) (before after : List Binder) (old middle new : State) (ps : List Pat)
    (is : List ℕ) (v : ℕ) → is ≡ replicate (length ps) (length old.kinds)
    → ListEntered old middle v → PatternsInferred names before after middle new ps is
    → PatternInferred names before after old new (PList ps) v
list_inferred names before after old middle new ps is v e h rows G K r s =
    let m = h G K.syntax r s in
    let q = subst (λ z. PatternsInferred names before after middle new ps z) e rows G K m.ready
    (subst (λ z. AreStars z (replicate (length ps) (length old.kinds))) (sym m.same)
    (item_stars G old (length ps))) in
    record {
      binders = q.binders;
      pushed = q.pushed;
      imposes = list_imposes G K.syntax old middle new ps v q.binders r s m q.imposes;
    }

pub list_head_refused : (names : List Declared) (old : State) (ps : List Pat) (v : ℕ) → ListRefused old v
    → PatternRefused names old (PList ps) v
list_head_refused names old ps v h G K r s = list_none G K.syntax old ps v r s (h G K.syntax r s)

pub list_items_refused : (names : List Declared) (old middle : State) (ps : List Pat) (is : List ℕ) (v : ℕ)
    → is ≡ replicate (length ps) (length old.kinds) → ListEntered old middle v
    → PatternsRefused names middle ps is → PatternRefused names old (PList ps) v
list_items_refused names old middle ps is v e h rows G K r s =
    let m = h G K.syntax r s in
    list_items_none G K.syntax old middle ps v r s m
    (subst (λ z. PatternsRefused names middle ps z) e rows G K m.ready
    (subst (λ z. AreStars z (replicate (length ps) (length old.kinds))) (sym m.same) (item_stars G old (length ps))))
