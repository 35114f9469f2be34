-- A walk along which a number falls, and which nothing blocks, comes to its end.
use Rattle.std.proofs.Common.{◌≡◌, ◌<◌, ◌+◌, inl, inr, ℕ, zero, suc, List, [], ◌∷◌, ◌++◌, refl, subst, arith}
use Rattle.bp_base.specs.Lists.{Among}
use Rattle.bp_checks.specs.Walk.{IsClear, Visits}
use Rattle.bp_checks.specs.Walk.Visits.{finished, met, visited}

module _ {E A R : Type 0} (to : E → A) (next : A → List E) (blocks : List A → E → R
    → Type 0) (clear : (path : List A) (e : E) → IsClear blocks path e)
    (m : A → ℕ) (falls : (a : A) (e : E) → Among e (next a) → m (to e) < m a) (among : (a : A) (xs : List A)
    → Dec (Among a xs)) where
  abbrev pub AreBelow : ℕ → List E → Type 0
  AreBelow n es = (e : E) → Among e es → m (to e) < n

  abbrev pub AreUnder : List A → List E → Type 0
  AreUnder path es = (p : A) (e : E) → Among p path → Among e es → m (to e) < m p

  abbrev pub IsWalked : List A → List A → List E → Type 0
  IsWalked path done todo = (new : List A) × Visits to (λ a es. es ≡ next a) blocks path done todo new

  one_level : (n : ℕ) → ((path done : List A) (todo : List E) → AreBelow n todo → AreUnder path todo
      → IsWalked path done todo)
      → (path done : List A) (todo : List E) → AreBelow (n + 1) todo → AreUnder path todo → IsWalked path done todo
  one_level n ih path done [] b o = (done, finished path done)
  one_level n ih path done (e ∷ todo) b o = go (among (to e) done)
      (λ d. one_level n ih path d todo (λ x h. b x (inr h)) (λ p x k h. o p x k (inr h)))
    where
      go : Dec (Among (to e) done) → ((d : List A) → IsWalked path d todo) → IsWalked path done (e ∷ todo)
      go (yes h) f = let r = f done in (r.0, met path done e todo r.0 (clear path e) h r.1)
      go (no h) f =
          let r = ih (to e ∷ path) done (next (to e)) (λ x k. let p = falls (to e) x k in let q = b e (inl refl) in
          omega (arith, p, q)) under in
          let s = f (r.0 ++ to e ∷ []) in (
            s.0,
            visited path done e todo s.0 (next (to e)) r.0 (clear path e)
                (h, (λ k. let p = o (to e) e k (inl refl) in omega (arith, p))) refl r.1 s.1,
          )
        where
          under : AreUnder (to e ∷ path) (next (to e))
          under p x (inl q) k = subst (λ y. m (to x) < m y) q (falls (to e) x k)
          under p x (inr q) k = let z = falls (to e) x k in let t = o p e q (inl refl) in omega (arith, z, t)

  pub walk-comes_to_its_end : (n : ℕ) (path done : List A) (todo : List E) → AreBelow n todo → AreUnder path todo
      → IsWalked path done todo
  walk-comes_to_its_end zero path done [] b o = (done, finished path done)
  walk-comes_to_its_end zero path done (e ∷ todo) b o = absurd (let p = b e (inl refl) in omega (arith, p))
  walk-comes_to_its_end (suc n) path done todo b o =
      one_level n (walk-comes_to_its_end n) path done todo (λ x h. let p = b x h in omega (arith, p)) o

-- what a loop over pending steps cites for its end
pub ruleset walk_ends = (walk-comes_to_its_end)
