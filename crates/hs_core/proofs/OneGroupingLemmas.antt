-- A graph has one list of groups.
use Rattle.std.proofs.Common.{◌≡◌, ◌⊎◌, inl, inr, ℕ, ◌<◌, List, [], ◌∷◌, ◌++◌, length, refl, sym, ap, ◌∙◌, subst, arith}
use Rattle.std.specs.Ordering.{nat_cmp}
use Rattle.std.specs.declared.cmp.Ordering.TheVariants.{Less}
use Rattle.std.specs.List.{AllByRecursion}
use Rattle.std.specs.List.Sorted.{IsStrictlySortedBy}
use Rattle.std.proofs.lemmas.Map.Keys.{sorted_from_strictly_increasing}
use Rattle.std.proofs.lemmas.Cmp.{ranked}
use Rattle.bp_base.specs.Lists.{Among}
use Rattle.bp_base.specs.Lists.{IsNew}
use Rattle.hs_core.specs.declared.group.UseList.{UseList}
use Rattle.hs_core.specs.declared.group.IndexGroup.{IndexGroup}
use Rattle.hs_core.specs.Groups.{uses_at, indices, DepthFirst, IsGroupOf, Grouped, GroupsAreOne}
use Rattle.hs_core.specs.Groups.DepthFirst.{ended, met, visited}
use Rattle.hs_core.specs.Groups.Grouped.{none, inner, last}

module _ (g : List UseList) where
  not-both : (path done : List ℕ) (v : ℕ) → Among v done ⊎ Among v path → IsNew path done v → ⊥
  not-both path done v (inl d) k = k.0 d
  not-both path done v (inr p) k = k.1 p

  -- a walk is done with its numbers in one order
  DepthFirst-one : (path done todo new other : List ℕ) → DepthFirst g path done todo new
      → DepthFirst g path done todo other → new ≡ other
  DepthFirst-one path done todo new other (ended _ _) w = end path done other w
    where
      end : (path done other : List ℕ) → DepthFirst g path done [] other → done ≡ other
      end path done other (ended _ _) = refl
  DepthFirst-one path done todo new other (met _ _ v rest _ m w) x =
      go x (λ y. DepthFirst-one path done rest new other w y)
    where
      go : DepthFirst g path done (v ∷ rest) other → (DepthFirst g path done rest other → new ≡ other) → new ≡ other
      go (met _ _ _ _ _ k y) h = h y
      go (visited _ _ _ _ _ mid k y z) h = absurd (not-both path done v m k)
  DepthFirst-one path done todo new other (visited _ _ v rest _ mid k b w) x =
      go x (λ m u. DepthFirst-one (v ∷ path) done (uses_at g v) mid m b u)
      (λ u. DepthFirst-one path (mid ++ v ∷ []) rest new other w u)
    where
      go : DepthFirst g path done (v ∷ rest) other
          → ((m : List ℕ) → DepthFirst g (v ∷ path) done (uses_at g v) m → mid ≡ m)
          → (DepthFirst g path (mid ++ v ∷ []) rest other → new ≡ other) → new ≡ other
      go (met _ _ _ _ _ m y) f h = absurd (not-both path done v m k)
      go (visited _ _ _ _ _ m l y z) f h = h (subst (λ (n : List ℕ). DepthFirst g path (n ++ v ∷ []) rest other)
          (sym (f m y)) z)

  below-all : (x : ℕ) (xs : List ℕ) (w : ℕ) → AllByRecursion (λ y. nat_cmp x y ≡ Less) xs → Among w xs → x < w
  below-all x [] w b a = absurd a
  below-all x (y ∷ ys) w b (inl e) = subst (λ (z : ℕ). x < z) e (ranked x y Less (sym b.0))
  below-all x (y ∷ ys) w b (inr a) = below-all x ys w b.1 a

  -- rising lists of the same numbers are one
  same-rising : (xs ys : List ℕ) → IsStrictlySortedBy nat_cmp xs → IsStrictlySortedBy nat_cmp ys
      → ((w : ℕ) → Among w xs → Among w ys) → ((w : ℕ) → Among w ys → Among w xs) → xs ≡ ys
  unfolding IsStrictlySortedBy
  same-rising [] [] s t f h = refl
  same-rising [] (y ∷ ys) s t f h = absurd (h y (inl refl))
  same-rising (x ∷ xs) [] s t f h = absurd (f x (inl refl))
  same-rising (x ∷ xs) (y ∷ ys) s t f h =
      let e : x ≡ y = first (f x (inl refl)) (h y (inl refl)) in
      ap (λ (z : ℕ). z ∷ xs) e ∙ ap (λ (zs : List ℕ). y ∷ zs)
      (same-rising xs ys s.1 t.1 (λ w a. later-there w e a (f w (inr a))) (λ w a. later-here w e a (h w (inr a))))
    where
      first : (y ≡ x) ⊎ Among x ys → (x ≡ y) ⊎ Among y xs → x ≡ y
      first (inl e) b = sym e
      first (inr a) (inl e) = e
      first (inr a) (inr b) = let l = below-all y ys x t.0 a in let m = below-all x xs y s.0 b in
          absurd (omega (arith, l, m))

      later-there : (w : ℕ) → x ≡ y → Among w xs → (y ≡ w) ⊎ Among w ys → Among w ys
      later-there w e a (inl d) = let l = below-all x xs w s.0 a in absurd (omega (arith, l, d, e))
      later-there w e a (inr b) = b

      later-here : (w : ℕ) → x ≡ y → Among w ys → (x ≡ w) ⊎ Among w xs → Among w xs
      later-here w e a (inl d) = let l = below-all y ys w t.0 a in absurd (omega (arith, l, d, e))
      later-here w e a (inr b) = b

  group-one : (v : ℕ) (p q : IndexGroup) → IsGroupOf g v p → IsGroupOf g v q → p ≡ q
  group-one v p q s t = ap (λ (ms : List ℕ). record { members = ms }) (same-rising p.members q.members
      (sorted_from_strictly_increasing p.members s.rising) (sorted_from_strictly_increasing q.members t.rising)
      (λ w a. t.each w (s.only w a)) (λ w a. s.each w (t.only w a)))

  Grouped-one : (order : List ℕ) (p q : List IndexGroup) → Grouped g order p → Grouped g order q → p ≡ q
  Grouped-one order p q none w = end q w
    where
      end : (q : List IndexGroup) → Grouped g [] q → [] ≡ q
      end q none = refl
  Grouped-one order p q (inner v w vs _ m t r) x = go q x (λ y. Grouped-one vs p q r y)
    where
      go : (q : List IndexGroup) → Grouped g (v ∷ vs) q → (Grouped g vs q → p ≡ q) → p ≡ q
      go q (inner _ _ _ _ _ _ y) h = h y
      go _ (last _ _ group groups n _ _) h = absurd (n w m t)
  Grouped-one order p q (last v vs group groups n i r) x = go q x (λ o y. Grouped-one vs groups o r y)
    where
      go : (q : List IndexGroup) → Grouped g (v ∷ vs) q → ((o : List IndexGroup) → Grouped g vs o → groups ≡ o)
          → group ∷ groups ≡ q
      go q (inner _ w _ _ m t _) h = absurd (n w m t)
      go _ (last _ _ other others _ j y) h = ap (λ (z : IndexGroup). z ∷ groups) (group-one v group other i j)
          ∙ ap (λ (zs : List IndexGroup). other ∷ zs) (h others y)

pub groups-are-one : GroupsAreOne
groups-are-one g p q s t =
    let e = DepthFirst-one g [] [] (indices (length g)) s.order t.order s.walk t.walk in
    Grouped-one g t.order p q (subst (λ (o : List ℕ). Grouped g o p) e s.grouped) t.grouped
