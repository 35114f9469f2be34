-- A walk leaves what its list leads to, each item once.
use Rattle.std.proofs.Common.{◌≡◌, ◌↔◌, ◌⊎◌, inl, inr, List, [], ◌∷◌, ◌++◌, refl, sym, subst}
use Rattle.bp_base.specs.Lists.{Among, AreDistinct}
use Rattle.bp_base.proofs.SetLemmas.{among-left, among-middle, among-either, distinct-push}
use Rattle.bp_checks.specs.Walk.{Visits, Reached, IsClosed}
use Rattle.bp_checks.specs.Walk.Visits.{finished, met, visited}
use Rattle.bp_checks.specs.Walk.Reached.{first, further}

-- what stands in a list with one more item behind it
last-cases : {A : Type 0} (b a : A) (xs : List A) → Among b (xs ++ a ∷ []) → Among b xs ⊎ (a ≡ b)
last-cases b a xs h = elim (among-either b xs (a ∷ []) h) [
  | inl k ↦ inl k
  | inr k ↦
      elim k [ inl e ↦ inr e | inr none ↦ absurd none ]
]

module _ {E A R : Type 0} (to : E → A) (next : A → List E → Type 0) (blocks : List A → E → R → Type 0) where
  -- what is done stays done
  pub Visits-kept : (path done : List A) (todo : List E) (new : List A) → Visits to next blocks path done todo new
      → (b : A) → Among b done → Among b new
  Visits-kept path done todo new (finished _ _) b h = h
  Visits-kept path done todo new (met _ _ e rest _ c m v) b h = Visits-kept path done rest new v b h
  Visits-kept path done todo new (visited _ _ e rest _ below mid c k n u v) b h =
      Visits-kept path (mid ++ to e ∷ []) rest new v b
      (among-left b mid (to e ∷ []) (Visits-kept (to e ∷ path) done below mid u b h))

  -- what the list leads to is done
  pub Visits-listed : (path done : List A) (todo : List E) (new : List A) → Visits to next blocks path done todo new
      → (f : E) → Among f todo → Among (to f) new
  Visits-listed path done todo new (finished _ _) f h = absurd h
  Visits-listed path done todo new (met _ _ e rest _ c m v) f (inl q) =
      Visits-kept path done rest new v (to f) (subst (λ (x : E). Among (to x) done) q m)
  Visits-listed path done todo new (met _ _ e rest _ c m v) f (inr h) = Visits-listed path done rest new v f h
  Visits-listed path done todo new (visited _ _ e rest _ below mid c k n u v) f (inl q) =
      Visits-kept path (mid ++ to e ∷ []) rest new v (to f)
      (subst (λ (x : E). Among (to x) (mid ++ to e ∷ [])) q (among-middle (to e) mid []))
  Visits-listed path done todo new (visited _ _ e rest _ below mid c k n u v) f (inr h) =
      Visits-listed path (mid ++ to e ∷ []) rest new v f h

  -- what is done leads to what is done, where an item has one list of steps
  pub Visits-closed : ((a : A) (xs ys : List E) → next a xs → next a ys → xs ≡ ys)
      → (path done : List A) (todo : List E) (new : List A)
      → Visits to next blocks path done todo new → IsClosed to next done → IsClosed to next new
  Visits-closed one path done todo new (finished _ _) h = h
  Visits-closed one path done todo new (met _ _ e rest _ c m v) h = Visits-closed one path done rest new v h
  Visits-closed one path done todo new (visited _ _ e rest _ below mid c k n u v) h =
      Visits-closed one path (mid ++ to e ∷ []) rest new v
      (and_last (Visits-closed one (to e ∷ path) done below mid u h))
    where
      and_last : IsClosed to next mid → IsClosed to next (mid ++ to e ∷ [])
      and_last f a ys g h l i = go (last-cases a (to e) mid h)
        where
          go : Among a mid ⊎ (to e ≡ a) → Among (to g) (mid ++ to e ∷ [])
          go (inl p) = among-left (to g) mid (to e ∷ []) (f a ys g p l i)
          go (inr q) =
              among-left (to g) mid (to e ∷ [])
              (Visits-listed (to e ∷ path) done below mid u g
              (subst (λ (zs : List E). Among g zs) (one a ys below l (subst (λ (x : A). next x below) q n)) i))

  -- nothing else is done than what the list leads to
  pub Visits-only : (P : A → Type 0) → ((a : A) (below : List E) (e : E) → P a → next a below → Among e below
      → P (to e)) → (path done : List A) (todo : List E) (new : List A)
      → Visits to next blocks path done todo new → ((b : A) → Among b done → P b) → ((e : E) → Among e todo → P (to e))
      → (b : A) → Among b new → P b
  Visits-only P f path done todo new (finished _ _) d t b h = d b h
  Visits-only P f path done todo new (met _ _ e rest _ c m v) d t b h =
      Visits-only P f path done rest new v d (λ x k. t x (inr k)) b h
  Visits-only P f path done todo new (visited _ _ e rest _ below mid c k n u v) d t b h =
      Visits-only P f path (mid ++ to e ∷ []) rest new v
      (and_last (Visits-only P f (to e ∷ path) done below mid u d (λ y r. f (to e) below y (t e (inl refl)) n r)))
      (λ x p. t x (inr p)) b h
    where
      and_last : ((x : A) → Among x mid → P x) → (x : A) → Among x (mid ++ to e ∷ []) → P x
      and_last k x p = go (last-cases x (to e) mid p)
        where
          go : Among x mid ⊎ (to e ≡ x) → P x
          go (inl q) = k x q
          go (inr q) = subst P q (t e (inl refl))

  -- nothing that is begun is done below it
  pub Visits-begun : (path done : List A) (todo : List E) (new : List A) → Visits to next blocks path done todo new
      → (p : A) → Among p path → (Among p done → ⊥) → Among p new → ⊥
  Visits-begun path done todo new (finished _ _) p h n k = n k
  Visits-begun path done todo new (met _ _ e rest _ c m v) p h n k = Visits-begun path done rest new v p h n k
  Visits-begun path done todo new (visited _ _ e rest _ below mid c q u w v) p h n k =
      Visits-begun path (mid ++ to e ∷ []) rest new v p h
      (λ z. go (Visits-begun (to e ∷ path) done below mid w p (inr h) n) (last-cases p (to e) mid z)) k
    where
      go : (Among p mid → ⊥) → Among p mid ⊎ (to e ≡ p) → ⊥
      go f (inl z) = f z
      go f (inr r) = q.1 (subst (λ (x : A). Among x path) (sym r) h)

  -- no item is done twice
  pub Visits-distinct : (path done : List A) (todo : List E) (new : List A) → Visits to next blocks path done todo new
      → AreDistinct done → AreDistinct new
  Visits-distinct path done todo new (finished _ _) d = d
  Visits-distinct path done todo new (met _ _ e rest _ c m v) d = Visits-distinct path done rest new v d
  Visits-distinct path done todo new (visited _ _ e rest _ below mid c q u w v) d =
      Visits-distinct path (mid ++ to e ∷ []) rest new v
      (distinct-push mid (to e) (Visits-distinct (to e ∷ path) done below mid w d)
      (Visits-begun (to e ∷ path) done below mid w (to e) (inl refl) q.0))

  -- a walk from nothing leaves exactly what its list leads to
  pub walk-reached : ((a : A) (xs ys : List E) → next a xs → next a ys → xs ≡ ys) → (todo : List E) (new : List A)
      → Visits to next blocks [] [] todo new
      → (a : A) → Among a new ↔ Reached to next todo a
  walk-reached one todo new v a = (
    Visits-only (Reached to next todo) (λ a below e r n h. further a below e r n h) [] [] todo new v
        (λ b h. absurd h) (λ e h. first e h) a,
    inside a,
  )
    where
      closed : IsClosed to next new
      closed = Visits-closed one [] [] todo new v (λ a below e h n i. absurd h)

      inside : (a : A) → Reached to next todo a → Among a new
      inside _ (first e h) = Visits-listed [] [] todo new v e h
      inside _ (further a below e r n h) = closed a below e (inside a r) n h
