-- The name that is found is the least that stands for two different things.
use Rattle.std.proofs.Common.{◌≡◌, refl, sym, ap, subst, ◌∙◌, inl, inr, Bool, true, false, List, [], ◌∷◌, ◌++◌, None, Some, true≢false}
use Rattle.std.specs.Prelude.{◌⊎◌, ◌&&◌, ◌||◌, not, Option, if◌then◌else◌}
use Rattle.std.specs.Str.{bytes_eq}
use Rattle.std.specs.Ordering.{nat_cmp, is_gt}
use Rattle.std.specs.Cmp.Lexicographic.{slice_cmp}
use Rattle.std.specs.declared.cmp.Ordering.TheVariants.{Greater}
use Rattle.bp_base.specs.Texts.{Text}
use Rattle.bp_base.specs.Lists.{Among}
use Rattle.bp_base.proofs.TextLemmas.{same_texts, texts_same}
use Rattle.bp_base.specs.declared.ty.Space.{Space}
use Rattle.bp_base.specs.declared.ty.Space.TheVariants.{Types, Values}
use Rattle.bp_base.specs.declared.ty.OrigName.{OrigName}
use Rattle.hs_core.specs.Sameness.{same_original, same_space}
use Rattle.hs_core.proofs.SamenessLemmas.{original_itself, original_same, space_same}
use Rattle.hs_scopes.specs.Words.{is_empty}
use Rattle.hs_scopes.specs.Meanings.{name_of}
use Rattle.import_resolve.specs.declared.thing.Thing.{Thing}
use Rattle.import_resolve.specs.Exports.{Clashes, HasType, is_con, thing_meaning}
use Rattle.export_resolve.specs.Found.{is_one_of}
use Rattle.export_resolve.specs.Clashes.{all_meant, clash_of, clashes, differs_from, first_at, firsts_of, has_type}
use Rattle.export_resolve.specs.Clashes.{heads_named, if_first, meant_of, sooner}
use Rattle.export_resolve.specs.declared.clash.Meant.{Meant}
use Rattle.export_resolve.proofs.LeastLemmas.{LeastSays, least_says}

-- ---- firsts

space_itself : (s : Space) → same_space s s ≡ true
space_itself Types = refl
space_itself Values = refl

abbrev IsFirstOf : Space → Text → List Meant → OrigName → Type 0
IsFirstOf space q ms n = (m : Meant) × Among m ms × (m.occ ≡ q) × (m.name.space ≡ space) × (m.name ≡ n)

first_by : (space : Space) (q : Text) (m : Meant) (ms : List Meant) (n : OrigName) (a b : Bool)
    → same_space space m.name.space ≡ a → bytes_eq m.occ q ≡ b
    → (first_at space q ms ≡ Some n → IsFirstOf space q ms n)
    → sooner (if a && b then Some m.name else None) (first_at space q ms) ≡ Some n → IsFirstOf space q (m ∷ ms) n
first_by space q m ms n true true ea eb ih h =
    (m, inl refl, same_texts m.occ q eb, sym (space_same space m.name.space ea), cc)
first_by space q m ms n true false ea eb ih h = let r = ih h in (r.0, inr r.1, r.2, r.3, r.4)
first_by space q m ms n false b ea eb ih h = let r = ih h in (r.0, inr r.1, r.2, r.3, r.4)

first_there : (space : Space) (q : Text) (ms : List Meant) (n : OrigName) → first_at space q ms ≡ Some n
    → IsFirstOf space q ms n
first_there space q [] n h = absurd (never h)
  where
    never : None ≡ Some n → ⊥
    never e = cc
first_there space q (m ∷ ms) n h =
    first_by space q m ms n (same_space space m.name.space) (bytes_eq m.occ q) refl refl (first_there space q ms n) h

some_sooner : (a : Option OrigName) (b : Option OrigName) → ((n : OrigName) × (b ≡ Some n))
    → (n : OrigName) × (sooner a b ≡ Some n)
some_sooner None b h = h
some_sooner (Some n) b h = (n, refl)

there_first : (space : Space) (q : Text) (ms : List Meant) (m : Meant) → Among m ms → m.occ ≡ q → m.name.space ≡ space
    → (n : OrigName) × (first_at space q ms ≡ Some n)
there_first space q [] m a e f = absurd a
there_first space q (z ∷ ms) m (inl p) e f =
    let k : same_space space z.name.space ≡ true =
    subst (λ (s : Space). same_space space s ≡ true) (sym (ap (λ (x : Meant). x.name.space) p ∙ f)) (space_itself space) in
    let t : bytes_eq z.occ q ≡ true =
    subst (λ (x : Text). bytes_eq x q ≡ true) (sym (ap (λ (x : Meant). x.occ) p ∙ e)) (texts_same q) in
    (z.name, rw (k, t) refl)
there_first space q (z ∷ ms) m (inr a) e f =
    some_sooner (if_first space q z) (first_at space q ms) (there_first space q ms m a e f)

-- ---- what is exported

abbrev IsMeaning : (Text → List OrigName) → List Thing → Meant → Type 0
IsMeaning heads ts m = (t : Thing) × Among t ts × (has_type heads t ≡ true) × (meant_of t ≡ m)

meant_by : (heads : Text → List OrigName) (t : Thing) (ts : List Thing) (m : Meant) (b : Bool) → has_type heads t ≡ b
    → (Among m (all_meant heads ts) → IsMeaning heads ts m)
    → Among m ((if b then meant_of t ∷ [] else []) ++ all_meant heads ts) → IsMeaning heads (t ∷ ts) m
meant_by heads t ts m true e ih (inl p) = (t, inl refl, e, p)
meant_by heads t ts m true e ih (inr a) = let r = ih a in (r.0, inr r.1, r.2, r.3)
meant_by heads t ts m false e ih a = let r = ih a in (r.0, inr r.1, r.2, r.3)

meant_there : (heads : Text → List OrigName) (ts : List Thing) (m : Meant) → Among m (all_meant heads ts)
    → IsMeaning heads ts m
meant_there heads [] m a = absurd a
meant_there heads (t ∷ ts) m a = meant_by heads t ts m (has_type heads t) refl (meant_there heads ts m) a

later : (m n : Meant) (ms : List Meant) (b : Bool) → Among m ms → Among m ((if b then n ∷ [] else []) ++ ms)
later m n ms true a = inr a
later m n ms false a = a

there_meant : (heads : Text → List OrigName) (ts : List Thing) (t : Thing) → Among t ts → has_type heads t ≡ true
    → Among (meant_of t) (all_meant heads ts)
there_meant heads [] t a e = absurd a
there_meant heads (z ∷ ts) t (inl p) e =
    let k : has_type heads z ≡ true = ap (has_type heads) p ∙ e in
    rw k (inl (ap meant_of p))
there_meant heads (z ∷ ts) t (inr a) e =
    later (meant_of t) (meant_of z) (all_meant heads ts) (has_type heads z) (there_meant heads ts t a e)

-- ---- constructors with their types

no_con : (c : Text) → not (is_empty c) ≡ false → c ≡ []
no_con [] e = refl
no_con (b ∷ bs) e = absurd (cc)

typed_by : (n : OrigName) (t : Thing) (ts : List Thing) (c k s : Bool) → is_con t ≡ c
    → bytes_eq (name_of t.entity).occ n.occ ≡ k → same_original n (name_of t.entity) ≡ s
    → (is_one_of n (heads_named ts n.occ) ≡ true → HasType ts n)
    → is_one_of n ((if c then [] else (if k then name_of t.entity ∷ [] else [])) ++ heads_named ts n.occ) ≡ true
    → HasType (t ∷ ts) n
typed_by n t ts true k s ec ek es ih h = inr (ih h)
typed_by n t ts false false s ec ek es ih h = inr (ih h)
typed_by n t ts false true true ec ek es ih h = inl (no_con t.con ec, sym (original_same n (name_of t.entity) es))
typed_by n t ts false true false ec ek es ih h = inr (ih (rw es at h))

typed_there : (n : OrigName) (ts : List Thing) → is_one_of n (heads_named ts n.occ) ≡ true → HasType ts n
typed_there n [] h = absurd (cc)
typed_there n (t ∷ ts) h = typed_by n t ts (is_con t) (bytes_eq (name_of t.entity).occ n.occ)
    (same_original n (name_of t.entity)) refl refl refl (typed_there n ts) h

or_true : (a b : Bool) → b ≡ true → (a || b) ≡ true
or_true true b e = refl
or_true false b e = e

behind_head : (n m : OrigName) (names : List OrigName) (c k : Bool) → is_one_of n names ≡ true
    → is_one_of n ((if c then [] else (if k then m ∷ [] else [])) ++ names) ≡ true
behind_head n m names true k h = h
behind_head n m names false true h = or_true (same_original n m) (is_one_of n names) h
behind_head n m names false false h = h

there_typed : (n : OrigName) (ts : List Thing) → HasType ts n → is_one_of n (heads_named ts n.occ) ≡ true
there_typed n [] h = absurd h
there_typed n (t ∷ ts) (inl p) =
    let c : is_con t ≡ false = ap (λ (x : Text). not (is_empty x)) p.0 in
    let k : bytes_eq (name_of t.entity).occ n.occ ≡ true =
    subst (λ (x : OrigName). bytes_eq x.occ n.occ ≡ true) (sym p.1) (texts_same n.occ) in
    let s : same_original n (name_of t.entity) ≡ true =
    subst (λ (x : OrigName). same_original n x ≡ true) (sym p.1) (original_itself n) in
    rw (c, k, s) refl
there_typed n (t ∷ ts) (inr h) = behind_head n (name_of t.entity) (heads_named ts n.occ) (is_con t)
    (bytes_eq (name_of t.entity).occ n.occ) (there_typed n ts h)

-- ---- clashes

abbrev meants : List Thing → List Meant
meants ts = all_meant (heads_named ts) ts

differ : (f n : OrigName) → not (same_original f n) ≡ true → f ≡ n → ⊥
differ f n h e =
    let k : same_original f n ≡ true = subst (λ (x : OrigName). same_original f x ≡ true) e (original_itself f) in
    let z : not true ≡ true = subst (λ (b : Bool). not b ≡ true) k h in true≢false (sym z)

clash_by : (ts : List Thing) (m : Meant) → Among m (meants ts) → (r : Option OrigName)
    → first_at m.name.space m.occ (meants ts) ≡ r → differs_from r m.name ≡ true → Clashes ts m.occ
clash_by ts m a None e d = absurd (cc)
clash_by ts m a (Some f) e d =
    let one = first_there m.name.space m.occ (meants ts) f e in
    let s = meant_there (heads_named ts) ts one.0 one.1 in
    let t = meant_there (heads_named ts) ts m a in (
      s.0,
      t.0,
      s.1,
      t.1,
      typed_there (name_of s.0.entity) ts s.2,
      typed_there (name_of t.0.entity) ts t.2,
      ap (λ (x : Meant). x.occ) s.3 ∙ one.2,
      ap (λ (x : Meant). x.occ) t.3,
      ap (λ (x : Meant). x.name.space) s.3 ∙ one.3 ∙ sym (ap (λ (x : Meant). x.name.space) t.3),
      λ p. differ f m.name d (sym one.4 ∙ sym (ap (λ (x : Meant). x.name) s.3) ∙ p ∙ ap (λ (x : Meant). x.name) t.3),
    )

clash_there : (ts : List Thing) (m : Meant) → Among m (meants ts) → clashes (firsts_of (meants ts)) m ≡ true
    → Clashes ts m.occ
clash_there ts m a c = clash_by ts m a (first_at m.name.space m.occ (meants ts)) refl c

abbrev ClashesAt : List Thing → Text → Type 0
ClashesAt ts n = (m : Meant) × Among m (meants ts) × (clashes (firsts_of (meants ts)) m ≡ true) × (m.occ ≡ n)

one_of_two : (f a b : OrigName) → (a ≡ b → ⊥) → (t : Bool) → same_original f a ≡ t → (u : Bool) → same_original f b ≡ u
    → (not t ≡ true) ⊎ (not u ≡ true)
one_of_two f a b d true e true g = absurd (d (sym (original_same f a e) ∙ original_same f b g))
one_of_two f a b d true e false g = inr refl
one_of_two f a b d false e u g = inl refl

there_clash : (ts : List Thing) (n : Text) → Clashes ts n → ClashesAt ts n
there_clash ts n c =
    let a = there_meant (heads_named ts) ts c.0 c.2 (there_typed (name_of c.0.entity) ts c.4) in
    let b = there_meant (heads_named ts) ts c.1 c.3 (there_typed (name_of c.1.entity) ts c.5) in
    let f = there_first (thing_meaning c.0).space n (meants ts) (meant_of c.0) a c.6 refl in
    let at_a : first_at (thing_meaning c.0).space c.0.occ (meants ts) ≡ Some f.0 =
    subst (λ (x : Text). first_at (thing_meaning c.0).space x (meants ts) ≡ Some f.0) (sym c.6) f.1 in
    let at_b : first_at (thing_meaning c.1).space c.1.occ (meants ts) ≡ Some f.0 =
    subst (λ (x : Space). first_at x c.1.occ (meants ts) ≡ Some f.0) c.8
    (subst (λ (x : Text). first_at (thing_meaning c.0).space x (meants ts) ≡ Some f.0) (sym c.7) f.1) in
    pick f.0 a b at_a at_b (one_of_two f.0 (thing_meaning c.0) (thing_meaning c.1) c.9
    (same_original f.0 (thing_meaning c.0)) refl (same_original f.0 (thing_meaning c.1)) refl)
  where
    pick : (f : OrigName) → Among (meant_of c.0) (meants ts) → Among (meant_of c.1) (meants ts)
        → first_at (thing_meaning c.0).space c.0.occ (meants ts) ≡ Some f
        → first_at (thing_meaning c.1).space c.1.occ (meants ts) ≡ Some f
        → (not (same_original f (thing_meaning c.0)) ≡ true) ⊎ (not (same_original f (thing_meaning c.1)) ≡ true)
        → ClashesAt ts n
    pick f a b at_a at_b (inl d) = (
      meant_of c.0,
      a,
      subst (λ (r : Option OrigName). differs_from r (thing_meaning c.0) ≡ true) (sym at_a) d,
      c.6,
    )
    pick f a b at_a at_b (inr d) = (
      meant_of c.1,
      b,
      subst (λ (r : Option OrigName). differs_from r (thing_meaning c.1) ≡ true) (sym at_b) d,
      c.7,
    )

-- what is said of the name that is found
abbrev pub ClashSays : List Thing → Option Text → Type 0
ClashSays ts None = (n : Text) → Clashes ts n → ⊥
ClashSays ts (Some n) = Clashes ts n × ((o : Text) → Clashes ts o → slice_cmp nat_cmp n o ≡ Greater → ⊥)

behind_none : (n o : Text) → is_gt (slice_cmp nat_cmp n o) ≡ false → slice_cmp nat_cmp n o ≡ Greater → ⊥
behind_none n o h e = true≢false (sym (ap is_gt e) ∙ h)

says_by : (ts : List Thing) (r : Option Text) → LeastSays (firsts_of (meants ts)) None (meants ts) r → ClashSays ts r
says_by ts None s = λ n c. let at_n = there_clash ts n c in s.1 at_n.0 at_n.1 at_n.2
says_by ts (Some n) s = (
  here s.0,
  λ o c e. (let at_o = there_clash ts o c in
      behind_none n o (subst (λ (x : Text). is_gt (slice_cmp nat_cmp n x) ≡ false) at_o.3 (s.2 at_o.0 at_o.1 at_o.2)) e),
)
  where
    here : (None ≡ Some n) ⊎ ((m : Meant) × Among m (meants ts) × (clashes (firsts_of (meants ts)) m ≡ true) × (m.occ ≡ n))
        → Clashes ts n
    here (inl e) = absurd (cc)
    here (inr m) = subst (Clashes ts) m.3 (clash_there ts m.0 m.1 m.2)

pub clash_says : (ts : List Thing) → ClashSays ts (clash_of ts)
clash_says ts = says_by ts (clash_of ts) (least_says (firsts_of (meants ts)) None (meants ts))
