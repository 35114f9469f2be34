-- Kinds of groups, looked up by the numbers of their declarations.
use Rattle.std.proofs.Common.{◌≡◌, ◌⊎◌, inl, inr, ℕ, zero, suc, ◌<◌, ◌+◌, ◌≤◌, Bool, true, false, List, [], ◌∷◌, ◌++◌}
use Rattle.std.proofs.Common.{length, refl, sym, ap, ap₂, ◌∙◌, subst, arith, get_or, drop, nat_eq, eqb-true, eq-eqb}
use Rattle.std.specs.Prelude.{map, flat_map, Option, Some, None, unwrap_or, slice_get, option_to_list}
use Rattle.std.specs.Option.{option_or, option_copied}
use Rattle.std.specs.Prelude.{IfSome, IfNone}
use Rattle.std.proofs.Common.{Bor}
use Rattle.hs_core.specs.declared.group.UseList.{UseList}
use Rattle.std.proofs.lemmas.List.{drop_more, drop_all, length-map}
use Rattle.std.proofs.lemmas.Grind.{flat_map-append}
use Rattle.bp_base.specs.Lists.{Among, AreDistinct}
use Rattle.bp_base.specs.Texts.{Text}
use Rattle.bp_base.specs.declared.ty.Kind.{Kind}
use Rattle.bp_base.specs.declared.ty.Kind.TheVariants.{Star}
use Rattle.hs_core.specs.Types.{KindTerm, kind_term}
use Rattle.hs_core.specs.Kinds.{NameKinds, TypeDecl, AreLeastKinds, within_group}
use Rattle.hs_core.specs.Groups.{indices, AreGroups, InRange}
use Rattle.hs_core.specs.WellTyped.{chosen, AllLeast, AreKinds, type_uses}
use Rattle.hs_core.specs.declared.group.IndexGroup.{IndexGroup}
use Rattle.kind_check.specs.declared.scope.GroupDecl.{GroupDecl}
use Rattle.kind_check.specs.declared.group.TypeGroup.{TypeGroup}
use Rattle.kind_check.specs.Scopes.{decl_of, decls_of}
use Rattle.kind_order.specs.declared.order.GroupKinds.{GroupKinds}
use Rattle.kind_order.specs.Orders.{Kinded, with_group}
use Rattle.kind_order.proofs.OrderLemmas.{as_many}
use Rattle.type_groups.specs.Uses.{group_decls}
use Rattle.type_groups.proofs.UseLemmas.{uses_in_range}
use Rattle.declared_kinds.specs.Sources.{kind_for, kind_in_groups, source_kind, AreSourceKinds, IsFirstName, IsIllIn}
use Rattle.declared_kinds.specs.Sources.{IsIllKinded, IsSourceError}
use Rattle.kind_order.specs.Orders.{IllAt, IsOrderError}
use Rattle.kind_check.specs.Answers.{IsFirst}
use Rattle.kind_check.specs.Walks.{HasNoKinding}
use Rattle.kind_check.specs.declared.group.GroupError.{GroupError}
use Rattle.kind_check.specs.declared.group.GroupError.TheVariants as why
use Rattle.declared_kinds.proofs.MemberLemmas.{InSome, AreProper, are_proper}

-- ---- the look-ups

same-number : (m : ℕ) → nat_eq m m ≡ true
same-number m = eq-eqb m m refl

pub kind_for-here : (ms : List ℕ) (ks : List Kind) (i n : ℕ) (d : ℕ) → i < length ms → get_or ms i d ≡ n
    → kind_for (drop i ms) (drop i ks) n ≡ slice_get ks i
kind_for-here [] ks i n d l e = absurd (omega (arith, l))
kind_for-here (m ∷ ms) [] zero n d l e = refl
kind_for-here (m ∷ ms) (k ∷ ks) zero n d l e = rw (eq-eqb m n e) refl
kind_for-here (m ∷ ms) [] (suc i) n d l e = nothing (drop i ms) n
  where
    nothing : (xs : List ℕ) (x : ℕ) → kind_for xs [] x ≡ None
    nothing [] x = refl
    nothing (y ∷ ys) x = refl
kind_for-here (m ∷ ms) (k ∷ ks) (suc i) n d l e = kind_for-here ms ks i n d (omega (arith, l)) e

no_kinds : (xs ys : List ℕ) (x : ℕ) → kind_for xs [] x ≡ kind_for ys [] x
no_kinds [] [] x = refl
no_kinds [] (z ∷ zs) x = refl
no_kinds (y ∷ ys) [] x = refl
no_kinds (y ∷ ys) (z ∷ zs) x = refl

kind_for-other : (m : ℕ) (ms : List ℕ) (k : Kind) (ks : List Kind) (n : ℕ) → (m ≡ n → ⊥)
    → kind_for (m ∷ ms) (k ∷ ks) n ≡ kind_for ms ks n
kind_for-other m ms k ks n h = go (nat_eq m n) refl
  where
    go : (b : Bool) → nat_eq m n ≡ b → kind_for (m ∷ ms) (k ∷ ks) n ≡ kind_for ms ks n
    go true f = absurd (h (eqb-true m n f))
    go false f = rw f refl

past : (ms : List ℕ) (ks : List Kind) (i j n : ℕ) (d : ℕ) → j ≡ suc i → i < length ms → (get_or ms i d ≡ n → ⊥)
    → kind_for (drop i ms) (drop i ks) n ≡ kind_for (drop j ms) (drop j ks) n
past [] ks i j n d q l e = absurd (omega (arith, l))
past (m ∷ ms) ks i zero n d q l e = absurd (omega (arith, q))
past (m ∷ ms) [] zero (suc j) n d q l e = no_kinds (m ∷ ms) (drop j ms) n
past (m ∷ ms) (k ∷ ks) zero (suc j) n d q l e =
    let z : 0 ≡ j = omega (arith, q) in
    kind_for-other m ms k ks n e ∙ ap (λ x. kind_for (drop x ms) (drop x ks) n) z
past (m ∷ ms) [] (suc i) (suc j) n d q l e = no_kinds (drop i ms) (drop j ms) n
past (m ∷ ms) (k ∷ ks) (suc i) (suc j) n d q l e = past ms ks i j n d (omega (arith, q)) (omega (arith, l)) e

pub kind_for-past : (ms : List ℕ) (ks : List Kind) (i n : ℕ) (d : ℕ) → i < length ms → (get_or ms i d ≡ n → ⊥)
    → kind_for (drop i ms) (drop i ks) n ≡ kind_for (drop (i + 1) ms) (drop (i + 1) ks) n
kind_for-past ms ks i n d l e = past ms ks i (i + 1) n d (omega arith) l e

-- a number that isn't there has no kind, and another one has what the rest gives
kind_for-none : (ms : List ℕ) (ks : List Kind) (n : ℕ) → (Among n ms → ⊥) → kind_for ms ks n ≡ None
kind_for-none [] ks n h = refl
kind_for-none (m ∷ ms) [] n h = refl
kind_for-none (m ∷ ms) (k ∷ ks) n h =
    kind_for-other m ms k ks n (λ e. h (inl e)) ∙ kind_for-none ms ks n (λ a. h (inr a))

-- a number of a list that has as many kinds has one
kind_for-some : (ms : List ℕ) (ks : List Kind) (n : ℕ) → length ms ≡ length ks → Among n ms
    → (k : Kind) × (kind_for ms ks n ≡ Some k)
kind_for-some [] ks n e a = absurd a
kind_for-some (m ∷ ms) [] n e a = absurd (omega (arith, e))
kind_for-some (m ∷ ms) (k ∷ ks) n e a = go (nat_eq m n) refl (λ b. kind_for-some ms ks n (omega (arith, e)) b)
  where
    other : nat_eq m n ≡ false → (m ≡ n) ⊎ Among n ms → Among n ms
    other f (inl x) = absurd (let t : nat_eq m n ≡ true = eq-eqb m n x in cc)
    other f (inr b) = b

    go : (b : Bool) → nat_eq m n ≡ b → (Among n ms → (j : Kind) × (kind_for ms ks n ≡ Some j))
        → (j : Kind) × (kind_for (m ∷ ms) (k ∷ ks) n ≡ Some j)
    go true f rest = (k, rw f refl)
    go false f rest = let r = rest (other f a) in (r.0, rw f r.1)

-- ---- lists chosen by numbers

map-same : {A B : Type 0} (f h : A → B) (xs : List A) → ((x : A) → Among x xs → f x ≡ h x) → map f xs ≡ map h xs
map-same f h [] e = refl
map-same f h (x ∷ xs) e = ap₂ (λ y ys. y ∷ ys) (e x (inl refl)) (map-same f h xs (λ y a. e y (inr a)))

-- the kinds of all numbers of a list, in their order
for_all : (ms : List ℕ) (ks : List Kind) → AreDistinct ms → length ms ≡ length ks
    → map (λ m. unwrap_or (kind_for ms ks m) Star) ms ≡ ks
for_all [] [] d e = refl
for_all [] (k ∷ ks) d e = absurd (omega (arith, e))
for_all (m ∷ ms) [] d e = absurd (omega (arith, e))
for_all (m ∷ ms) (k ∷ ks) d e = ap₂ (λ (y : Kind) ys. y ∷ ys) (rw (same-number m) refl)
    (map-same (λ n. unwrap_or (kind_for (m ∷ ms) (k ∷ ks) n) Star) (λ n. unwrap_or (kind_for ms ks n) Star) ms
    (λ n a. ap (λ o. unwrap_or o Star) (kind_for-other m ms k ks n (λ x. d.0 (subst (λ z. Among z ms) (sym x) a))))
    ∙ for_all ms ks d.1 (omega (arith, e)))

slice_get-append : {A : Type 0} (xs ys : List A) (i : ℕ) → i < length xs → slice_get (xs ++ ys) i ≡ slice_get xs i
slice_get-append [] ys i l = absurd (omega (arith, l))
slice_get-append (x ∷ xs) ys zero l = refl
slice_get-append (x ∷ xs) ys (suc i) l = slice_get-append xs ys i (omega (arith, l))

slice_get-last : {A : Type 0} (xs : List A) (y : A) (i : ℕ) → i ≡ length xs → slice_get (xs ++ y ∷ []) i ≡ Some y
slice_get-last [] y zero e = refl
slice_get-last [] y (suc i) e = absurd (omega (arith, e))
slice_get-last (x ∷ xs) y zero e = absurd (omega (arith, e))
slice_get-last (x ∷ xs) y (suc i) e = slice_get-last xs y i (omega (arith, e))

map-append : {A B : Type 0} (f : A → B) (xs ys : List A) → map f (xs ++ ys) ≡ map f xs ++ map f ys
map-append f [] ys = refl
map-append f (x ∷ xs) ys = ap (λ r. f x ∷ r) (map-append f xs ys)

length-append_one : {A : Type 0} (xs : List A) (y : A) → length (xs ++ y ∷ []) ≡ suc (length xs)
length-append_one [] y = refl
length-append_one (x ∷ xs) y = ap suc (length-append_one xs y)

pub length-numbers : {A : Type 0} (f : ℕ → A) (n : ℕ) → length (map f (indices n)) ≡ n
length-numbers f zero = refl
length-numbers f (suc n) =
    ap length (map-append f (indices n) (n ∷ [])) ∙ length-append_one (map f (indices n)) (f n)
    ∙ ap suc (length-numbers f n)

pub slice_get-numbers : {A : Type 0} (f : ℕ → A) (n i : ℕ) → i < n → slice_get (map f (indices n)) i ≡ Some (f i)
slice_get-numbers f zero i l = absurd (omega (arith, l))
slice_get-numbers f (suc n) i l =
    ap (λ xs. slice_get xs i) (map-append f (indices n) (n ∷ [])) ∙ elim (split i n l) [
      | inl b ↦
          slice_get-append (map f (indices n)) (f n ∷ []) i
          (subst (λ m. i < m) (sym (length-numbers f n)) b) ∙ slice_get-numbers f n i b
      | inr e ↦ slice_get-last (map f (indices n)) (f n) i (e ∙ sym (length-numbers f n)) ∙ ap (λ j. Some (f j)) (sym e)
    ]
  where
    split : (i n : ℕ) → i < suc n → (i < n) ⊎ (i ≡ n)
    split zero zero h = inr refl
    split zero (suc n) h = inl (omega arith)
    split (suc i) zero h = absurd (omega (arith, h))
    split (suc i) (suc n) h = elim (split i n (omega (arith, h))) [ inl b ↦ inl (omega (arith, b)) | inr e ↦ inr (ap suc e) ]

pub chosen-numbers : {A : Type 0} (f : ℕ → A) (n : ℕ) (ms : List ℕ) → ((m : ℕ) → Among m ms → m < n)
    → chosen (map f (indices n)) ms ≡ map f ms
chosen-numbers f n [] h = refl
chosen-numbers f n (m ∷ ms) h =
    ap₂ (λ o r. option_to_list o ++ r) (slice_get-numbers f n m (h m (inl refl)))
    (chosen-numbers f n ms (λ x a. h x (inr a)))

slice_get-map : {A B : Type 0} (f : A → B) (xs : List A) (i : ℕ)
    → option_to_list (slice_get (map f xs) i) ≡ map f (option_to_list (slice_get xs i))
slice_get-map f [] i = refl
slice_get-map f (x ∷ xs) zero = refl
slice_get-map f (x ∷ xs) (suc i) = slice_get-map f xs i

pub chosen-map : {A B : Type 0} (f : A → B) (xs : List A) (ms : List ℕ) → chosen (map f xs) ms ≡ map f (chosen xs ms)
chosen-map f xs [] = refl
chosen-map f xs (m ∷ ms) =
    ap₂ (λ a b. a ++ b) (slice_get-map f xs m) (chosen-map f xs ms)
    ∙ sym (map-append f (option_to_list (slice_get xs m)) (chosen xs ms))

length-one : {A : Type 0} (xs : List A) (i : ℕ) → i < length xs → (x : A) × (slice_get xs i ≡ Some x)
length-one [] i l = absurd (omega (arith, l))
length-one (x ∷ xs) zero l = (x, refl)
length-one (x ∷ xs) (suc i) l = length-one xs i (omega (arith, l))

pub length-chosen : {A : Type 0} (xs : List A) (ms : List ℕ) → ((m : ℕ) → Among m ms → m < length xs)
    → length (chosen xs ms) ≡ length ms
length-chosen xs [] h = refl
length-chosen xs (m ∷ ms) h =
    let o = length-one xs m (h m (inl refl)) in
    ap (λ z. length (option_to_list z ++ chosen xs ms)) o.1
    ∙ ap suc (length-chosen xs ms (λ x a. h x (inr a)))

-- ---- group after group

abbrev Source : List IndexGroup → List GroupKinds → ℕ → Kind
Source order kss i = source_kind order kss i

head-of : {A : Type 0} (x y : A) (xs ys : List A) → x ∷ xs ≡ y ∷ ys → x ≡ y
head-of {A} x y xs ys e = ap (first x) e
  where
    first : A → List A → A
    first d [] = d
    first d (z ∷ zs) = z

tail-of : {A : Type 0} (x y : A) (xs ys : List A) → x ∷ xs ≡ y ∷ ys → xs ≡ ys
tail-of {A} x y xs ys e = ap rest e
  where
    rest : List A → List A
    rest [] = []
    rest (z ∷ zs) = zs

module _ (ds : List GroupDecl) (f : ℕ → Kind) where
  pub all_least : (names : NameKinds) (order : List IndexGroup) (tgs : List TypeGroup) (kss : List GroupKinds)
      → map group_decls tgs ≡ map (λ g. chosen ds g.members) order → Kinded names tgs kss
      → AreProper (length ds) order → ((m : ℕ) → InSome m order → f m ≡ source_kind order kss m)
      → AllLeast names (decls_of ds) (map kind_term (map f (indices (length ds)))) order
  all_least names [] tgs kss e k p h = tt
  all_least names (g ∷ gs) [] kss e k p h = absurd (let x = ap length e in omega (arith, x))
  all_least names (g ∷ gs) (t ∷ ts) [] e k p h = absurd k
  all_least names (g ∷ gs) (t ∷ ts) (ks ∷ kss) e k p h =
      subst (λ (x : List TypeDecl × List KindTerm). AreLeastKinds names x.0 x.1 × AllLeast (within_group names x.0 x.1)
      (decls_of ds) whole gs) both (
        k.0,
        all_least (with_group names t ks) gs ts kss (tail-of _ _ _ _ e) k.1 p.3 later,
      )
    where
      whole : List KindTerm
      whole = map kind_term (map f (indices (length ds)))

      decls : t.decls ≡ chosen ds g.members
      decls = head-of _ _ _ _ e

      many : length g.members ≡ length ks.kinds
      many = sym (as_many names t.decls ks.kinds k.0 ∙ ap length decls ∙ length-chosen ds g.members p.1)

      own : (m : ℕ) → Among m g.members → f m ≡ unwrap_or (kind_for g.members ks.kinds m) Star
      own m a = let s = kind_for-some g.members ks.kinds m many a in
          h m (inl a) ∙ ap (λ o. unwrap_or (option_or o (kind_in_groups gs kss m)) Star) s.1
          ∙ sym (ap (λ o. unwrap_or o Star) s.1)

      later : (m : ℕ) → InSome m gs → f m ≡ source_kind gs kss m
      later m a = h m (inr a) ∙ ap (λ o. unwrap_or (option_or o (kind_in_groups gs kss m)) Star)
          (kind_for-none g.members ks.kinds m (λ b. p.2 m b a))

      kinds : chosen whole g.members ≡ map kind_term ks.kinds
      kinds =
          chosen-map kind_term (map f (indices (length ds))) g.members
          ∙ ap (map kind_term) (chosen-numbers f (length ds) g.members p.1
          ∙ map-same f (λ m. unwrap_or (kind_for g.members ks.kinds m) Star) g.members own
          ∙ for_all g.members ks.kinds p.0 many)

      decl_terms : chosen (decls_of ds) g.members ≡ decls_of t.decls
      decl_terms = chosen-map decl_of ds g.members ∙ ap decls_of (sym decls)

      both : (λ (x : List TypeDecl × List KindTerm). x) (decls_of t.decls, map kind_term ks.kinds)
          ≡ (chosen (decls_of ds) g.members, chosen whole g.members)
      both = λ i. (sym decl_terms i, sym kinds i)

length-decls : (ds : List GroupDecl) → length (decls_of ds) ≡ length ds
length-decls [] = refl
length-decls (d ∷ ds) = ap suc (length-decls ds)

length-uses : (ds : List TypeDecl) → length (type_uses ds) ≡ length ds
length-uses ds = length-map ds _

-- the kinds of groups, in the order of the source
pub in_source_order : (names : NameKinds) (ds : List GroupDecl) (order : List IndexGroup) (tgs : List TypeGroup)
    (kss : List GroupKinds) (ks : List Kind) → AreGroups (type_uses (decls_of ds)) order
    → map group_decls tgs ≡ map (λ g. chosen ds g.members) order → Kinded names tgs kss
    → ks ≡ map (source_kind order kss) (indices (length ds)) → AreSourceKinds names ds ks
in_source_order names ds order tgs kss ks a e k is =
    subst (AreSourceKinds names ds) (sym is) (record {
      each = length-map _ kind_term ∙ length-numbers (source_kind order kss) (length ds) ∙ sym (length-decls ds);
      groups = order;
      order = a;
      least = all_least ds (source_kind order kss) names order tgs kss e k
          (subst (λ n. AreProper n order) (length-uses (decls_of ds) ∙ length-decls ds)
          (are_proper (type_uses (decls_of ds)) (uses_in_range (decls_of ds)) order a))
          (λ m b. refl);
    })

-- ---- a group without kinds

first-name : (ds : List GroupDecl) (x : Text) → IsFirst ds x → IsFirstName (decls_of ds) x
first-name [] x h = h
first-name (d ∷ ds) x h = h

ill_in : (names : NameKinds) (ds : List GroupDecl) (order : List IndexGroup) (tgs : List TypeGroup) (x : Text)
    → map group_decls tgs ≡ map (λ g. chosen ds g.members) order → IllAt names tgs x
    → IsIllIn names (decls_of ds) order x
ill_in names ds order [] x e h = absurd h
ill_in names ds [] (t ∷ ts) x e h = absurd (let y = ap length e in omega (arith, y))
ill_in names ds (g ∷ gs) (t ∷ ts) x e h = elim h [
  | inl p ↦ inl (
    subst (HasNoKinding names) decl_terms p.0,
    subst (λ z. IsFirstName z x) decl_terms (first-name t.decls x p.1),
  )
  | inr q ↦ inr (
    map kind_term q.0.kinds,
    subst (λ z. AreLeastKinds names z (map kind_term q.0.kinds)) decl_terms q.1,
    subst (λ z. IsIllIn (within_group names z (map kind_term q.0.kinds)) (decls_of ds) gs x) decl_terms
        (ill_in (with_group names t q.0) ds gs ts x (tail-of _ _ _ _ e) q.2),
  )
]
  where
    decl_terms : decls_of t.decls ≡ chosen (decls_of ds) g.members
    decl_terms = sym (chosen-map decl_of ds g.members ∙ ap decls_of (sym (head-of _ _ _ _ e)))

pub source_refused : (names : NameKinds) (ds : List GroupDecl) (order : List IndexGroup) (tgs : List TypeGroup)
    (e : GroupError) → AreGroups (type_uses (decls_of ds)) order
    → map group_decls tgs ≡ map (λ g. chosen ds g.members) order → IsOrderError names tgs e
    → IsSourceError names ds e
source_refused names ds order tgs (why.Kind x) a m h = (order, a, ill_in names ds order tgs x m h)
source_refused names ds order tgs why.NoMemory a m h = tt

-- ---- loops

pub kind_for-end : (ms : List ℕ) (ks : List Kind) (i n : ℕ) → length ms ≤ i → kind_for (drop i ms) (drop i ks) n ≡ None
kind_for-end ms ks i n l = ap (λ xs. kind_for xs (drop i ks) n) (drop_all i ms l)

pub groups-here : (gs : List IndexGroup) (kss : List GroupKinds) (i n : ℕ) (g : IndexGroup) (ks : GroupKinds) (k : Kind)
    → i < length gs → i < length kss → g ≡ get_or gs i g → ks ≡ get_or kss i ks → kind_for g.members ks.kinds n ≡ Some k
    → kind_in_groups (drop i gs) (drop i kss) n ≡ Some k
groups-here gs kss i n g ks k l m p q e =
    ap₂ (λ xs ys. kind_in_groups xs ys n) (drop_more gs i g l) (drop_more kss i ks m)
    ∙ ap₂ (λ (x : IndexGroup) (y : GroupKinds). option_or (kind_for x.members y.kinds n)
    (kind_in_groups (drop (i + 1) gs) (drop (i + 1) kss) n)) (sym p) (sym q)
    ∙ ap (λ o. option_or o (kind_in_groups (drop (i + 1) gs) (drop (i + 1) kss) n)) e

pub groups-past : (gs : List IndexGroup) (kss : List GroupKinds) (i n : ℕ) (g : IndexGroup) (ks : GroupKinds)
    → i < length gs → i < length kss → g ≡ get_or gs i g → ks ≡ get_or kss i ks → kind_for g.members ks.kinds n ≡ None
    → kind_in_groups (drop i gs) (drop i kss) n ≡ kind_in_groups (drop (i + 1) gs) (drop (i + 1) kss) n
groups-past gs kss i n g ks l m p q e =
    ap₂ (λ xs ys. kind_in_groups xs ys n) (drop_more gs i g l) (drop_more kss i ks m)
    ∙ ap₂ (λ (x : IndexGroup) (y : GroupKinds). option_or (kind_for x.members y.kinds n)
    (kind_in_groups (drop (i + 1) gs) (drop (i + 1) kss) n)) (sym p) (sym q)
    ∙ ap (λ o. option_or o (kind_in_groups (drop (i + 1) gs) (drop (i + 1) kss) n)) e

pub groups-short : (gs : List IndexGroup) (kss : List GroupKinds) (i n : ℕ) → length kss ≤ i
    → kind_in_groups (drop i gs) (drop i kss) n ≡ None
groups-short gs kss i n l = ap (λ ys. kind_in_groups (drop i gs) ys n) (drop_all i kss l) ∙ nothing (drop i gs)
  where
    nothing : (xs : List IndexGroup) → kind_in_groups xs [] n ≡ None
    nothing [] = refl
    nothing (x ∷ xs) = refl

pub groups-end : (gs : List IndexGroup) (kss : List GroupKinds) (i n : ℕ) → length gs ≤ i
    → kind_in_groups (drop i gs) (drop i kss) n ≡ None
groups-end gs kss i n l = ap (λ xs. kind_in_groups xs (drop i kss) n) (drop_all i gs l)

pub source_answer : (names : NameKinds) (ds one two : List GroupDecl) (us : List UseList)
    (order first last : List IndexGroup) (tgs all : List TypeGroup) (kss given : List GroupKinds) (n : ℕ) (ks : List Kind)
    → one ≡ ds → us ≡ type_uses (decls_of one) → AreGroups us order → two ≡ ds → first ≡ order
    → map group_decls tgs ≡ map (λ g. chosen two g.members) first → all ≡ tgs → Kinded names all kss → n ≡ length ds
    → last ≡ order → given ≡ kss → ks ≡ map (source_kind last given) (indices n) → AreSourceKinds names ds ks
source_answer names ds one two us order first last tgs all kss given n ks p q a r s e t k u v w is =
    in_source_order names ds order tgs kss ks
    (subst (λ z. AreGroups z order) (q ∙ ap (λ z. type_uses (decls_of z)) p) a)
    (e ∙ ap₂ (λ z o. map (λ g. chosen z g.members) o) r s) (subst (λ z. Kinded names z kss) t k)
    (is ∙ (λ i. map (source_kind (v i) (w i)) (indices (u i))))

pub source_error : (names : NameKinds) (ds one two : List GroupDecl) (us : List UseList)
    (order first : List IndexGroup) (tgs all : List TypeGroup) (e : GroupError)
    → one ≡ ds → us ≡ type_uses (decls_of one) → AreGroups us order → two ≡ ds → first ≡ order
    → map group_decls tgs ≡ map (λ g. chosen two g.members) first → all ≡ tgs → IsOrderError names all e
    → IsSourceError names ds e
source_error names ds one two us order first tgs all e p q a r s m t h =
    source_refused names ds order tgs e (subst (λ z. AreGroups z order) (q ∙ ap (λ z. type_uses (decls_of z)) p) a)
    (m ∙ ap₂ (λ z o. map (λ g. chosen z g.members) o) r s) (subst (λ z. IsOrderError names z e) t h)

-- what is lent of a list
pub some_lent : (r : Option (Bor Kind)) (o w : Option Kind) → option_copied r ≡ o → w ≡ o
    → IfSome r (λ k. w ≡ Some k.now)
some_lent None o w e f = tt
some_lent (Some k) o w e f = f ∙ sym e

pub none_lent : (r : Option (Bor Kind)) (o w : Option Kind) → option_copied r ≡ o → w ≡ o → IfNone r (w ≡ None)
none_lent None o w e f = f ∙ sym e
none_lent (Some k) o w e f = tt
