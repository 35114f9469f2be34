-- Steps that are counted along a list: the start, one more item, an item that stops, and the end.
use Rattle.std.proofs.Common.{◌≡◌, ◌≤◌, ◌<◌, ◌+◌, ℕ, List, ◌∷◌, drop, length, get_or, subst, sym, ap, ◌∙◌, refl, arith}
use Rattle.std.proofs.lemmas.List.{drop_more, drop_all}
use Rattle.bp_checks.specs.Steps.{Spends, Pays, Totals, Spending}

-- what is counted is this number
pub paid : {X : Type 0} (meant : X → Type 0) (counts : X → ℕ → Type 0) (k old new : ℕ) (D E : Type 0)
    → ((x : X) (n : ℕ) → meant x → counts x n → n ≡ k) → Spends k old new D → (E → D) → Pays meant counts old new E
paid meant counts k old new D E c s d = record {
  later = s.later;
  most = λ x n m p. subst (λ z. new ≤ old + z) (sym (c x n m p)) s.most;
  all = λ x n m p e. s.all (d e) ∙ ap (λ z. old + z) (sym (c x n m p));
}

module _ {X A : Type 0} (meant : X → Type 0) (counts : X → A → ℕ → Type 0) (items : List A) where
  pub spend_start : (start : ℕ) → Spending meant counts items items start start
  spend_start start = record { later = refl_le start; left = λ x n m t. (n, t, refl) }
    where
      refl_le : (n : ℕ) → n ≤ n
      refl_le n = omega arith

  cut : (x : X) (n : ℕ) (a : A) (rest : List A) (start now : ℕ) → Spending meant counts items (a ∷ rest) start now
      → meant x → Totals (counts x) items n
      → (k : ℕ) × (m : ℕ) × counts x a k × Totals (counts x) rest m × (now + (k + m) ≡ start + n)
  cut x n a rest start now s m t =
      let l = s.left x n m t in
      let f = l.1 in
      (f.0, f.1, f.2, f.3, subst (λ z. now + z ≡ start + n) f.4 l.2)

  pub spend_more : (i : ℕ) (a : A) (start now new : ℕ) (D : Type 0)
      → Spending meant counts items (drop i items) start now → i < length items → a ≡ get_or items i a
      → Pays meant (λ x n. counts x a n) now new D → D → Spending meant counts items (drop (i + 1) items) start new
  spend_more i a start now new D s l is p d = record {
    later = let u = s.later in let v = p.later in omega (arith, u, v);
    left = λ x n m t.
        let r = subst (λ z. Spending meant counts items z start now) (drop_more items i a l) s in
        let k = cut x n (get_or items i a) (drop (i + 1) items) start now r m t in
        let e = p.all x k.0 m (subst (λ z. counts x z k.0) (sym is) k.2) d in
        (k.1, k.3, let f = k.4 in omega (arith, e, f));
  }

  pub spend_stopped : (i : ℕ) (a : A) (start now new : ℕ) (D E : Type 0)
      → Spending meant counts items (drop i items) start now → i < length items → a ≡ get_or items i a
      → Pays meant (λ x n. counts x a n) now new D → (E → ⊥) → Pays meant (λ x n. Totals (counts x) items n) start new E
  spend_stopped i a start now new D E s l is p none = record {
    later = let u = s.later in let v = p.later in omega (arith, u, v);
    most = λ x n m t.
        let r = subst (λ z. Spending meant counts items z start now) (drop_more items i a l) s in
        let k = cut x n (get_or items i a) (drop (i + 1) items) start now r m t in
        let e = p.most x k.0 m (subst (λ z. counts x z k.0) (sym is) k.2) in
        let f = k.4 in omega (arith, e, f);
    all = λ x n m t e. absurd (none e);
  }

  pub spend_end : (i : ℕ) (start now : ℕ) (E : Type 0) → Spending meant counts items (drop i items) start now
      → length items ≤ i
      → Pays meant (λ x n. Totals (counts x) items n) start now E
  spend_end i start now E s l = record {
    later = s.later;
    most = λ x n m t. let e = same x n m t in omega (arith, e);
    all = λ x n m t d. same x n m t;
  }
    where
      same : (x : X) (n : ℕ) → meant x → Totals (counts x) items n → now ≡ start + n
      same x n m t =
          let r = subst (λ z. Spending meant counts items z start now) (drop_all i items l) s in
          let k = r.left x n m t in
          let e = k.1 in let f = k.2 in omega (arith, e, f)

  pub spend_quit : (rest : List A) (start now : ℕ) (E : Type 0) → Spending meant counts items rest start now → (E → ⊥)
      → Pays meant (λ x n. Totals (counts x) items n) start now E
  spend_quit rest start now E s none = record {
    later = s.later;
    most = λ x n m t. let k = s.left x n m t in let e = k.2 in omega (arith, e);
    all = λ x n m t e. absurd (none e);
  }

-- what that loop cites of its steps
pub ruleset step_laws = (paid, spend_start, spend_more, spend_stopped, spend_end, spend_quit)
