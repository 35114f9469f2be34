-- Type declarations have one list of kinds, or one first group without kinds, and never both.
use Rattle.std.proofs.Common.{◌≡◌, ◌⊎◌, inl, inr, ℕ, zero, suc, ◌<◌, ◌+◌, List, [], ◌∷◌, ◌++◌, length, refl, sym, ap, ap₂}
use Rattle.std.proofs.Common.{◌∙◌, subst, arith}
use Rattle.std.specs.Prelude.{Option, Some, None, slice_get, option_to_list, unwrap_or}
use Rattle.bp_base.specs.Lists.{Among}
use Rattle.bp_base.specs.Texts.{Text}
use Rattle.hs_core.specs.Types.{KindTerm}
use Rattle.hs_core.specs.Kinds.{NameKinds, TypeDecl, AreLeastKinds, within_group}
use Rattle.hs_core.specs.Groups.{AreGroups}
use Rattle.hs_core.specs.WellTyped.{chosen, AllLeast, AreKinds, type_uses}
use Rattle.hs_core.specs.declared.group.IndexGroup.{IndexGroup}
use Rattle.hs_core.proofs.OneGroupingLemmas.{groups-are-one}
use Rattle.kind_check.specs.Walks.{HasNoKinding}
use Rattle.kind_check.proofs.DeclareLemmas.{least_is_one, head_same, tail_same}
use Rattle.type_groups.proofs.UseLemmas.{uses_in_range}
use Rattle.declared_kinds.specs.Sources.{IsFirstName, IsIllIn, IsIllKinded}
use Rattle.declared_kinds.specs.Cycles.{IsFirstBad, IsOffCycle, IsFirstOnCycle, in_groups}
use Rattle.declared_kinds.proofs.MemberLemmas.{InSome, AreProper, are_proper, all_stand}
use Rattle.declared_kinds.proofs.CycleLemmas.{length-type_uses}

-- ---- lists that agree at each number

some_there : {A : Type 0} (xs : List A) (i : ℕ) → i < length xs → (x : A) × (slice_get xs i ≡ Some x)
some_there [] i l = absurd (omega (arith, l))
some_there (x ∷ xs) zero l = (x, refl)
some_there (x ∷ xs) (suc i) l = some_there xs i (omega (arith, l))

same_lists : {A : Type 0} (xs ys : List A) → length xs ≡ length ys
    → ((i : ℕ) → i < length xs → slice_get xs i ≡ slice_get ys i) → xs ≡ ys
same_lists [] [] e h = refl
same_lists [] (y ∷ ys) e h = absurd (omega (arith, e))
same_lists (x ∷ xs) [] e h = absurd (omega (arith, e))
same_lists {A} (x ∷ xs) (y ∷ ys) e h =
    ap₂ (λ z zs. z ∷ zs) (ap (λ o. unwrap_or o x) (h 0 (omega arith)))
    (same_lists xs ys (omega (arith, e)) (λ i l. h (suc i) (omega (arith, l))))

-- what is chosen is the same, and so at each number
chosen_at : {A : Type 0} (xs ys : List A) (ms : List ℕ) → ((m : ℕ) → Among m ms → m < length xs)
    → ((m : ℕ) → Among m ms → m < length ys) → chosen xs ms ≡ chosen ys ms → (m : ℕ) → Among m ms
    → slice_get xs m ≡ slice_get ys m
chosen_at xs ys [] h k e m a = absurd a
chosen_at {A} xs ys (n ∷ ms) h k e m a =
    let p = some_there xs n (h n (inl refl)) in
    let q = some_there ys n (k n (inl refl)) in
    let both : p.0 ∷ chosen xs ms ≡ q.0 ∷ chosen ys ms =
    sym (ap (λ (o : Option A). option_to_list o ++ chosen xs ms) p.1) ∙ e
    ∙ ap (λ (o : Option A). option_to_list o ++ chosen ys ms) q.1 in
    elim a [
      | inl f ↦
          subst (λ (z : ℕ). slice_get xs z ≡ slice_get ys z) f
          (p.1 ∙ ap Some (head_same _ _ _ _ both) ∙ sym q.1)
      | inr b ↦
          chosen_at xs ys ms (λ x c. h x (inr c)) (λ x c. k x (inr c)) (tail_same _ _ _ _ both) m b
    ]

-- ---- the first bad item

pub first_bad_one : {A : Type 0} (Good : A → Type 0) (xs : List A) (x y : A) → IsFirstBad Good xs x
    → IsFirstBad Good xs y → x ≡ y
first_bad_one Good [] x y p q = absurd p
first_bad_one Good (z ∷ zs) x y (inl p) (inl q) = sym p.0 ∙ q.0
first_bad_one Good (z ∷ zs) x y (inl p) (inr q) = absurd (p.1 q.0)
first_bad_one Good (z ∷ zs) x y (inr p) (inl q) = absurd (q.1 p.0)
first_bad_one Good (z ∷ zs) x y (inr p) (inr q) = first_bad_one Good zs x y p.1 q.1

pub first_bad_never : {A : Type 0} (Good : A → Type 0) (xs : List A) (x : A) → ((y : A) → Among y xs → Good y)
    → IsFirstBad Good xs x → ⊥
first_bad_never Good [] x h p = p
first_bad_never Good (z ∷ zs) x h (inl p) = p.1 (h z (inl refl))
first_bad_never Good (z ∷ zs) x h (inr p) = first_bad_never Good zs x (λ y a. h y (inr a)) p.1

-- ---- least kinds, group after group

module _ (ds : List TypeDecl) where
  least_at : (names : NameKinds) (ks js : List KindTerm) (gs : List IndexGroup) → AreProper (length ds) gs
      → length ks ≡ length ds → length js ≡ length ds → AllLeast names ds ks gs → AllLeast names ds js gs → (m : ℕ)
      → InSome m gs → slice_get ks m ≡ slice_get js m
  least_at names ks js [] p e f h k m a = absurd a
  least_at names ks js (g ∷ gs) p e f h k m a =
      let same = least_is_one names (chosen ds g.members) (chosen ks g.members) (chosen js g.members) h.0 k.0 in
      elim a [
        | inl b ↦
            chosen_at ks js g.members (λ x c. let l = p.1 x c in omega (arith, l, e))
            (λ x c. let l = p.1 x c in omega (arith, l, f)) same m b
        | inr b ↦
            least_at (within_group names (chosen ds g.members) (chosen ks g.members)) ks js gs p.3 e f h.1
            (subst (λ z. AllLeast (within_group names (chosen ds g.members) z) ds js gs) (sym same) k.1) m b
      ]

  first-name-one : (es : List TypeDecl) (x y : Text) → IsFirstName es x → IsFirstName es y → x ≡ y
  first-name-one [] x y p q = absurd p
  first-name-one (e ∷ es) x y p q = sym p ∙ q

  ill_one : (names : NameKinds) (gs : List IndexGroup) (x y : Text) → IsIllIn names ds gs x → IsIllIn names ds gs y
      → x ≡ y
  ill_one names [] x y p q = absurd p
  ill_one names (g ∷ gs) x y (inl p) (inl q) = first-name-one (chosen ds g.members) x y p.1 q.1
  ill_one names (g ∷ gs) x y (inl p) (inr q) = absurd (p.0 q.0 q.1.valid)
  ill_one names (g ∷ gs) x y (inr p) (inl q) = absurd (q.0 p.0 p.1.valid)
  ill_one names (g ∷ gs) x y (inr p) (inr q) =
      let same = least_is_one names (chosen ds g.members) p.0 q.0 p.1 q.1 in
      ill_one (within_group names (chosen ds g.members) p.0) gs x y p.2
      (subst (λ z. IsIllIn (within_group names (chosen ds g.members) z) ds gs y) (sym same) q.2)

  ill_never : (names : NameKinds) (ks : List KindTerm) (gs : List IndexGroup) (x : Text) → AllLeast names ds ks gs
      → IsIllIn names ds gs x → ⊥
  ill_never names ks [] x h q = q
  ill_never names ks (g ∷ gs) x h (inl q) = q.0 (chosen ks g.members) h.0.valid
  ill_never names ks (g ∷ gs) x h (inr q) =
      let same = least_is_one names (chosen ds g.members) (chosen ks g.members) q.0 h.0 q.1 in
      ill_never (within_group names (chosen ds g.members) (chosen ks g.members)) ks gs x h.1
      (subst (λ z. IsIllIn (within_group names (chosen ds g.members) z) ds gs x) (sym same) q.2)

  pub kinds_one : (names : NameKinds) (ks js : List KindTerm) → AreKinds names ds ks → AreKinds names ds js → ks ≡ js
  kinds_one names ks js p q =
      let g = groups-are-one (type_uses ds) q.groups p.groups q.order p.order in
      same_lists ks js (p.each ∙ sym q.each)
      (λ i l. least_at names ks js p.groups
      (subst (λ n. AreProper n p.groups) (length-type_uses ds)
      (are_proper (type_uses ds) (uses_in_range ds) p.groups p.order)) p.each q.each p.least
      (subst (λ z. AllLeast names ds js z) g q.least) i
      (all_stand (type_uses ds) (uses_in_range ds) p.groups p.order i
      (let e = length-type_uses ds in let f = p.each in omega (arith, e, f, l))))

  pub ill_kinded_one : (names : NameKinds) (x y : Text) → IsIllKinded names ds x → IsIllKinded names ds y → x ≡ y
  ill_kinded_one names x y p q =
      ill_one names p.0 x y p.2
      (subst (λ z. IsIllIn names ds z y) (groups-are-one (type_uses ds) q.0 p.0 q.1 p.1) q.2)

  pub ill_kinded_never : (names : NameKinds) (ks : List KindTerm) (x : Text) → AreKinds names ds ks
      → IsIllKinded names ds x → ⊥
  ill_kinded_never names ks x p q =
      ill_never names ks p.groups x p.least
      (subst (λ z. IsIllIn names ds z x) (groups-are-one (type_uses ds) q.0 p.groups q.1 p.order) q.2)

  -- ---- the first synonym that leads to itself

  pub first_cycle_one : (i j : ℕ) → IsFirstOnCycle ds (Some i) → IsFirstOnCycle ds (Some j) → i ≡ j
  first_cycle_one i j p q = first_bad_one (IsOffCycle ds) (in_groups p.0) i j p.2
      (subst (λ z. IsFirstBad (IsOffCycle ds) (in_groups z) j) (groups-are-one (type_uses ds) q.0 p.0 q.1 p.1) q.2)

  pub first_cycle_never : (i : ℕ) → IsFirstOnCycle ds None → IsFirstOnCycle ds (Some i) → ⊥
  first_cycle_never i p q = first_bad_never (IsOffCycle ds) (in_groups p.0) i p.2
      (subst (λ z. IsFirstBad (IsOffCycle ds) (in_groups z) i) (groups-are-one (type_uses ds) q.0 p.0 q.1 p.1) q.2)
