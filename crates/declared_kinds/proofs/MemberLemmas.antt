-- Dependency groups as lists of numbers: which stand in them, each in one group alone.
use Rattle.std.proofs.Common.{◌≡◌, ◌⊎◌, inl, inr, ℕ, zero, suc, ◌<◌, ◌+◌, List, [], ◌∷◌, ◌++◌, length, refl, sym, ap, ◌∙◌}
use Rattle.std.proofs.Common.{subst, arith}
use Rattle.std.specs.Prelude.{flat_map}
use Rattle.std.specs.Ordering.{nat_cmp}
use Rattle.std.specs.declared.cmp.Ordering.TheVariants.{Less}
use Rattle.std.specs.List.{AllByRecursion}
use Rattle.std.specs.List.Sorted.{IsStrictlySortedBy}
use Rattle.std.proofs.lemmas.Map.Keys.{sorted_from_strictly_increasing}
use Rattle.std.proofs.lemmas.Cmp.{ranked}
use Rattle.bp_base.specs.Lists.{Among, AreDistinct}
use Rattle.bp_base.proofs.SetLemmas.{among-left, among-right, among-either}
use Rattle.hs_core.specs.declared.group.UseList.{UseList}
use Rattle.hs_core.specs.declared.group.IndexGroup.{IndexGroup}
use Rattle.hs_core.specs.Groups.{uses_at, InRange, Reaches, Together, indices, DepthFirst, IsGroupOf, Grouped, AreGroups}
use Rattle.hs_core.specs.Groups.Reaches.{here, along}
use Rattle.hs_core.specs.Groups.Grouped.{none, inner, last}
use Rattle.hs_core.proofs.ReachingLemmas.{among-one, among-indices, indices-below, Path-end, Path-start, Together-itself}
use Rattle.hs_core.proofs.ReachingLemmas.{Together-turned, Together-trans, Grown, grown}
use Rattle.declared_kinds.specs.Cycles.{in_groups}

-- ---- rising lists

below-all : (x : ℕ) (xs : List ℕ) (w : ℕ) → AllByRecursion (λ y. nat_cmp x y ≡ Less) xs → Among w xs → x < w
below-all x [] w b a = absurd a
below-all x (y ∷ ys) w b (inl e) = subst (λ (z : ℕ). x < z) e (ranked x y Less (sym b.0))
below-all x (y ∷ ys) w b (inr a) = below-all x ys w b.1 a

distinct-sorted : (xs : List ℕ) → IsStrictlySortedBy nat_cmp xs → AreDistinct xs
unfolding IsStrictlySortedBy
distinct-sorted [] s = tt
distinct-sorted (x ∷ xs) s = (
  λ a. let l = below-all x xs x s.0 a in absurd (omega (arith, l)),
  distinct-sorted xs s.1,
)

-- ---- numbers in some group

abbrev pub InSome : ℕ → List IndexGroup → Type 0
InSome m [] = ⊥
InSome m (g ∷ gs) = Among m g.members ⊎ InSome m gs

pub in_some-listed : (m : ℕ) (gs : List IndexGroup) → InSome m gs → Among m (in_groups gs)
in_some-listed m [] h = absurd h
in_some-listed m (g ∷ gs) (inl a) = among-left m g.members (in_groups gs) a
in_some-listed m (g ∷ gs) (inr a) = among-right m g.members (in_groups gs) (in_some-listed m gs a)

pub listed-in_some : (m : ℕ) (gs : List IndexGroup) → Among m (in_groups gs) → InSome m gs
listed-in_some m [] h = absurd h
listed-in_some m (g ∷ gs) h = elim (among-either m g.members (in_groups gs) h) [
  | inl a ↦ inl a
  | inr b ↦ inr (listed-in_some m gs b)
]

-- each group has each of its numbers once, all of them below the count, and shares none with a later group
abbrev pub AreProper : ℕ → List IndexGroup → Type 0
AreProper n [] = Unit {0}
AreProper n (g ∷ gs) = AreDistinct g.members × ((m : ℕ) → Among m g.members → m < n)
    × ((m : ℕ) → Among m g.members → InSome m gs → ⊥) × AreProper n gs

reaches-below : (g : List UseList) → InRange g → (v w : ℕ) → v < length g → Reaches g v w → w < length g
reaches-below g r v w l (here _) = l
reaches-below g r v w l (along _ u _ a p) = reaches-below g r u w (r v u a) p

module _ (g : List UseList) where
  -- a number of a group is of one group with a number of the order
  pub from_order : (order : List ℕ) (groups : List IndexGroup) → Grouped g order groups → (m : ℕ) → InSome m groups
      → (v : ℕ) × Among v order × Together g v m
  from_order order groups none m h = absurd h
  from_order order groups (inner v w vs _ a t r) m h = let f = from_order vs groups r m h in (f.0, inr f.1, f.2)
  from_order order groups (last v vs group rest n i r) m h = elim h [
    | inl a ↦ (v, inl refl, i.only m a)
    | inr b ↦ (let f = from_order vs rest r m b in (f.0, inr f.1, f.2))
  ]

  -- a number of one group with one of a group stands in that group
  in_its_group : (order : List ℕ) (groups : List IndexGroup) → Grouped g order groups → (m k : ℕ) → InSome m groups
      → Together g m k → InSome k groups
  in_its_group order groups none m k h t = absurd h
  in_its_group order groups (inner v w vs _ a u r) m k h t = in_its_group vs groups r m k h t
  in_its_group order groups (last v vs group rest n i r) m k h t = elim h [
    | inl a ↦ inl (i.each k (Together-trans g v m k (i.only m a) t))
    | inr b ↦ inr (in_its_group vs rest r m k b t)
  ]

  pub covered : (order : List ℕ) (groups : List IndexGroup) → Grouped g order groups → (v : ℕ) → Among v order
      → InSome v groups
  covered order groups none v a = absurd a
  covered order groups (inner u w vs _ b t r) v a = elim a [
    | inl e ↦
        subst (λ (x : ℕ). InSome x groups) e
        (in_its_group vs groups r w u (covered vs groups r w b) (Together-turned g u w t))
    | inr c ↦ covered vs groups r v c
  ]
  covered order groups (last u vs group rest n i r) v a = elim a [
    | inl e ↦
        inl (i.each v (subst (λ (x : ℕ). Together g u x) e (Together-itself g u)))
    | inr c ↦ inr (covered vs rest r v c)
  ]

  -- the group of a number that stands in some group, among these
  pub its_group : (order : List ℕ) (groups : List IndexGroup) → Grouped g order groups → (n : ℕ) → ((v : ℕ)
      → Among v order → v < length g) → InRange g → AreProper (length g) groups
  its_group order groups none n b r = tt
  its_group order groups (inner u w vs _ a t s) n b r = its_group vs groups s n (λ v c. b v (inr c)) r
  its_group order groups (last u vs group rest k i s) n b r = (
    distinct-sorted group.members (sorted_from_strictly_increasing group.members i.rising),
    λ m a. reaches-below g r u m (b u (inl refl)) (i.only m a).0,
    λ m a h. let f = from_order vs rest s m h in
        k f.0 f.1 (Together-trans g u m f.0 (i.only m a) (Together-turned g f.0 m f.2)),
    its_group vs rest s n (λ v c. b v (inr c)) r,
  )

  -- each group is one of a number
  abbrev pub AreGroupsOf : List IndexGroup → Type 0
  AreGroupsOf [] = Unit {0}
  AreGroupsOf (p ∷ ps) = ((v : ℕ) → Among v p.members → IsGroupOf g v p) × AreGroupsOf ps

  of_members : (v : ℕ) (p : IndexGroup) → IsGroupOf g v p → (u : ℕ) → Among u p.members → IsGroupOf g u p
  of_members v p i u a = record {
    rising = i.rising;
    each = λ w t. i.each w (Together-trans g v u w (i.only u a) t);
    only = λ w b. Together-trans g u v w (Together-turned g v u (i.only u a)) (i.only w b);
  }

  pub groups_of : (order : List ℕ) (groups : List IndexGroup) → Grouped g order groups → AreGroupsOf groups
  groups_of order groups none = tt
  groups_of order groups (inner v w vs _ a t r) = groups_of vs groups r
  groups_of order groups (last v vs group rest n i r) = (of_members v group i, groups_of vs rest r)

module _ (g : List UseList) (r : InRange g) (groups : List IndexGroup) (h : AreGroups g groups) where
  all-grown : Grown g [] [] (indices (length g)) h.order
  all-grown = grown g [] [] (indices (length g)) h.order h.walk (λ u t a m. absurd a)

  order-below : (v : ℕ) → Among v h.order → v < length g
  order-below v a =
      let f = all-grown.found v (subst (λ (o : List ℕ). Among v o) all-grown.is a) in
      Path-end g [] f.0 v r f.2 (indices-below (length g) f.0 f.1)

  order-has : (v : ℕ) → v < length g → Among v h.order
  order-has v l = elim (all-grown.arrives v (among-indices (length g) v l)) [ inl a ↦ a | inr b ↦ absurd b ]

  -- the groups are proper
  pub are_proper : AreProper (length g) groups
  are_proper = its_group g h.order groups h.grouped 0 order-below r

  -- each number stands in one
  pub all_stand : (v : ℕ) → v < length g → InSome v groups
  all_stand v l = covered g h.order groups h.grouped v (order-has v l)
