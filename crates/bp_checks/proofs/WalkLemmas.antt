-- A walk has one outcome.
use Rattle.std.proofs.Common.{◌≡◌, List, [], ◌∷◌, ◌++◌, refl, sym, ap, subst}
use Rattle.bp_checks.specs.Check.{IsExact}
use Rattle.bp_checks.specs.Walk.{Visits, WalkStop, Stuck, walk}
use Rattle.bp_checks.specs.Walk.Visits.{finished, met, visited}
use Rattle.bp_checks.specs.Walk.Stuck.{blocked, on_cycle, below_it, past_met, past_it}
use Rattle.bp_checks.specs.Walk.WalkStop.{Cycle, Blocked}

module _ {E A R : Type 0} (to : E → A) (next : A → List E → Type 0) (blocks : List A → E → R
    → Type 0) (one : (a : A) (xs ys : List E) → next a xs → next a ys
    → xs ≡ ys) (single : (path : List A) (e : E) (r q : R) → blocks path e r → blocks path e q → r ≡ q) where
  pub Visits-one : (path done : List A) (todo : List E) (new other : List A) → Visits to next blocks path done todo new
      → Visits to next blocks path done todo other → new ≡ other
  Visits-one path done todo new other (finished _ _) v = last path done other v
    where
      last : (path done other : List A) → Visits to next blocks path done [] other → done ≡ other
      last path done other (finished _ _) = refl
  Visits-one path done todo new other (met _ _ e rest _ c m w) v = go v (λ x. Visits-one path done rest new other w x)
    where
      go : Visits to next blocks path done (e ∷ rest) other → (Visits to next blocks path done rest other → new ≡ other)
          → new ≡ other
      go (met _ _ _ _ _ d k x) h = h x
      go (visited _ _ _ _ _ below mid d k n x y) h = absurd (k.0 m)
  Visits-one path done todo new other (visited _ _ e rest _ below mid c k n w x) v =
      go v (λ m u. Visits-one (to e ∷ path) done below mid m w u)
      (λ u. Visits-one path (mid ++ to e ∷ []) rest new other x u)
    where
      go : Visits to next blocks path done (e ∷ rest) other
          → ((m : List A) → Visits to next blocks (to e ∷ path) done below m → mid ≡ m)
          → (Visits to next blocks path (mid ++ to e ∷ []) rest other → new ≡ other) → new ≡ other
      go (met _ _ _ _ _ d m y) f g = absurd (k.0 m)
      go (visited _ _ _ _ _ below' mid' d k' n' y z) f g =
          let e' = f mid' (subst (λ b. Visits to next blocks (to e ∷ path) done b mid')
          (one (to e) below' below n' n) y) in
          g (subst (λ m. Visits to next blocks path (m ++ to e ∷ []) rest other) (sym e') z)

  pub Stuck-never : (path done : List A) (todo : List E) (new : List A) (s : WalkStop A R)
      → Visits to next blocks path done todo new → Stuck to next blocks path done todo s → ⊥
  Stuck-never path done todo new s (finished _ _) v = none path done s v
    where
      none : (path done : List A) (s : WalkStop A R) → Stuck to next blocks path done [] s → ⊥
      none path done s v = elim v [ ]
  Stuck-never path done todo new s (met _ _ e rest _ c d w) v = go s v (λ t. Stuck-never path done rest new s w t)
    where
      go : (s : WalkStop A R) → Stuck to next blocks path done (e ∷ rest) s
          → (Stuck to next blocks path done rest s → ⊥) → ⊥
      go _ (blocked _ _ _ _ r q) f = c r q
      go _ (on_cycle _ _ _ _ _ n p) f = n d
      go s (below_it _ _ _ _ b _ _ k z t) f = k.0 d
      go s (past_met _ _ _ _ _ _ _ t) f = f t
      go s (past_it _ _ _ _ b mid _ _ k z t _) f = k.0 d
  Stuck-never path done todo new s (visited _ _ e rest _ below mid c k n u w) v =
      go s v (λ m t. Visits-one (to e ∷ path) done below mid m u t)
      (λ t. Stuck-never (to e ∷ path) done below mid s u t)
      (λ t. Stuck-never path (mid ++ to e ∷ []) rest new s w t)
    where
      go : (s : WalkStop A R) → Stuck to next blocks path done (e ∷ rest) s
          → ((m : List A) → Visits to next blocks (to e ∷ path) done below m → mid ≡ m)
          → (Stuck to next blocks (to e ∷ path) done below s → ⊥)
          → (Stuck to next blocks path (mid ++ to e ∷ []) rest s → ⊥) → ⊥
      go _ (blocked _ _ _ _ r q) f g h = c r q
      go _ (on_cycle _ _ _ _ _ _ p) f g h = k.1 p
      go s (below_it _ _ _ _ b _ _ _ z t) f g h = g
          (subst (λ x. Stuck to next blocks (to e ∷ path) done x s) (one (to e) b below z n) t)
      go s (past_met _ _ _ _ _ _ d _) f g h = k.0 d
      go s (past_it _ _ _ _ b m _ _ _ z t y) f g h =
          h (subst (λ x. Stuck to next blocks path (x ++ to e ∷ []) rest s)
          (sym (f m (subst (λ x. Visits to next blocks (to e ∷ path) done x m) (one (to e) b below z n) t))) y)

  pub Stuck-one : (path done : List A) (todo : List E) (s t : WalkStop A R) → Stuck to next blocks path done todo s
      → Stuck to next blocks path done todo t → s ≡ t
  Stuck-one path done todo s t (blocked _ _ e rest r q) v = go t v
    where
      go : (t : WalkStop A R) → Stuck to next blocks path done (e ∷ rest) t → Blocked r ≡ t
      go _ (blocked _ _ _ _ x y) = ap Blocked (single path e r x q y)
      go _ (on_cycle _ _ _ _ c _ _) = absurd (c r q)
      go t (below_it _ _ _ _ _ _ c _ _ _) = absurd (c r q)
      go t (past_met _ _ _ _ _ c _ _) = absurd (c r q)
      go t (past_it _ _ _ _ _ _ _ c _ _ _ _) = absurd (c r q)
  Stuck-one path done todo s t (on_cycle _ _ e rest c n p) v = go t v
    where
      go : (t : WalkStop A R) → Stuck to next blocks path done (e ∷ rest) t → Cycle (to e) ≡ t
      go _ (blocked _ _ _ _ r q) = absurd (c r q)
      go _ (on_cycle _ _ _ _ _ _ _) = refl
      go t (below_it _ _ _ _ _ _ _ k _ _) = absurd (k.1 p)
      go t (past_met _ _ _ _ _ _ m _) = absurd (n m)
      go t (past_it _ _ _ _ _ _ _ _ k _ _ _) = absurd (k.1 p)
  Stuck-one path done todo s t (below_it _ _ e rest below _ c k n w) v =
      go t v (λ x. Stuck-one (to e ∷ path) done below s t w x) (λ mid x. Stuck-never (to e ∷ path) done below mid s x w)
    where
      go : (t : WalkStop A R) → Stuck to next blocks path done (e ∷ rest) t
          → (Stuck to next blocks (to e ∷ path) done below t → s ≡ t)
          → ((mid : List A) → Visits to next blocks (to e ∷ path) done below mid → ⊥) → s ≡ t
      go _ (blocked _ _ _ _ r q) f g = absurd (c r q)
      go _ (on_cycle _ _ _ _ _ _ p) f g = absurd (k.1 p)
      go t (below_it _ _ _ _ b _ _ _ z x) f g = f (subst (λ y. Stuck to next blocks (to e ∷ path) done y t)
          (one (to e) b below z n) x)
      go t (past_met _ _ _ _ _ _ d _) f g = absurd (k.0 d)
      go t (past_it _ _ _ _ b mid _ _ _ z x _) f g =
          absurd (g mid (subst (λ y. Visits to next blocks (to e ∷ path) done y mid) (one (to e) b below z n) x))
  Stuck-one path done todo s t (past_met _ _ e rest _ c d w) v = go t v (λ x. Stuck-one path done rest s t w x)
    where
      go : (t : WalkStop A R) → Stuck to next blocks path done (e ∷ rest) t
          → (Stuck to next blocks path done rest t → s ≡ t) → s ≡ t
      go _ (blocked _ _ _ _ r q) f = absurd (c r q)
      go _ (on_cycle _ _ _ _ _ n p) f = absurd (n d)
      go t (below_it _ _ _ _ b _ _ k z x) f = absurd (k.0 d)
      go t (past_met _ _ _ _ _ _ _ x) f = f x
      go t (past_it _ _ _ _ b mid _ _ k z x _) f = absurd (k.0 d)
  Stuck-one path done todo s t (past_it _ _ e rest below mid _ c k n u w) v =
      go t v (λ m x. Visits-one (to e ∷ path) done below mid m u x)
      (λ x. Stuck-one path (mid ++ to e ∷ []) rest s t w x) (λ x. Stuck-never (to e ∷ path) done below mid t u x)
    where
      go : (t : WalkStop A R) → Stuck to next blocks path done (e ∷ rest) t
          → ((m : List A) → Visits to next blocks (to e ∷ path) done below m → mid ≡ m)
          → (Stuck to next blocks path (mid ++ to e ∷ []) rest t → s ≡ t)
          → (Stuck to next blocks (to e ∷ path) done below t → ⊥) → s ≡ t
      go _ (blocked _ _ _ _ r q) f g h = absurd (c r q)
      go _ (on_cycle _ _ _ _ _ _ p) f g h = absurd (k.1 p)
      go t (below_it _ _ _ _ b _ _ _ z x) f g h = absurd
          (h (subst (λ y. Stuck to next blocks (to e ∷ path) done y t) (one (to e) b below z n) x))
      go t (past_met _ _ _ _ _ _ d _) f g h = absurd (k.0 d)
      go t (past_it _ _ _ _ b m _ _ _ z x y) f g h =
          g (subst (λ l. Stuck to next blocks path (l ++ to e ∷ []) rest t)
          (sym (f m (subst (λ l. Visits to next blocks (to e ∷ path) done l m) (one (to e) b below z n) x))) y)

  pub IsExact-walk : (todo : List E) → IsExact (walk to next blocks todo)
  IsExact-walk todo = record {
    one_answer = λ new other u v. Visits-one [] [] todo new other u v;
    one_refusal = λ r q u v. Stuck-one [] [] todo r q u v;
    never_both = λ new r u v. Stuck-never [] [] todo new r u v;
  }
