-- What stands at the front of a text: one byte, runs, and pieces whose length the text determines.
use Rattle.std.proofs.Common.{◌≡◌, ℕ, zero, suc, ◌+◌, ◌<◌, ◌≤◌, Bool, true, false, List, [], ◌∷◌, ◌++◌, length, take}
use Rattle.std.proofs.Common.{drop, refl, sym, ap, ◌∙◌, subst, true≢false, arith, Some, None, cond, zero-add}
use Rattle.std.specs.Prelude.{not, ◌&&◌, ◌==◌}
use Rattle.std.specs.List.{prefix_len}
use Rattle.std.proofs.lemmas.Bool.Decides.{nat_tests}
use Rattle.std.proofs.lemmas.List.{take-append-drop, length-take-le}
use Rattle.hs_lex.specs.Classes.{all, begins, is_empty}
use Rattle.hs_lex.specs.Numbers.{only}
use Rattle.hs_lex.specs.Longest.{Spelling, Longest, Never}

pub prefix_yes : (f : ℕ → Bool) (b : ℕ) (bs : List ℕ) → f b ≡ true → prefix_len f (b ∷ bs) ≡ suc (prefix_len f bs)
prefix_yes f b bs e = ap (λ v. cond v (1 + prefix_len f bs) 0) e ∙ omega arith

pub prefix_no : (f : ℕ → Bool) (b : ℕ) (bs : List ℕ) → f b ≡ false → prefix_len f (b ∷ bs) ≡ 0
prefix_no f b bs e = ap (λ v. cond v (1 + prefix_len f bs) 0) e

pub all_prefix : (f : ℕ → Bool) (bs : List ℕ) → all f (take (prefix_len f bs) bs) ≡ true
all_prefix f [] = refl
all_prefix f (b ∷ bs) = go (f b) refl (all_prefix f bs)
  where
    go : (v : Bool) → f b ≡ v → all f (take (prefix_len f bs) bs) ≡ true
        → all f (take (prefix_len f (b ∷ bs)) (b ∷ bs)) ≡ true
    go true e h = ap (λ n. all f (take n (b ∷ bs))) (prefix_yes f b bs e)
        ∙ ap (λ v. v && all f (take (prefix_len f bs) bs)) e ∙ h
    go false e h = ap (λ n. all f (take n (b ∷ bs))) (prefix_no f b bs e)

pub all_past : (f : ℕ → Bool) (bs : List ℕ) (m : ℕ) → m ≤ length bs → prefix_len f bs < m → all f (take m bs) ≡ false
all_past f [] m le lt = absurd (omega arith)
all_past f (b ∷ bs) zero le lt = absurd (omega arith)
all_past f (b ∷ bs) (suc m) le lt = go (f b) refl (all_past f bs m (omega arith))
  where
    go : (v : Bool) → f b ≡ v → (prefix_len f bs < m → all f (take m bs) ≡ false) → all f (b ∷ take m bs) ≡ false
    go true e h = ap (λ v. v && all f (take m bs)) e ∙ h (let p = prefix_yes f b bs e in omega arith)
    go false e h = ap (λ v. v && all f (take m bs)) e

pub prefix_stop : (f : ℕ → Bool) (bs : List ℕ) (x : ℕ) (r : List ℕ) → drop (prefix_len f bs) bs ≡ x ∷ r → f x ≡ false
prefix_stop f [] x r e = cc
prefix_stop f (b ∷ bs) x r e = go (f b) refl (prefix_stop f bs x r)
  where
    head_is : (a b : ℕ) (xs ys : List ℕ) → a ∷ xs ≡ b ∷ ys → a ≡ b
    head_is a b xs ys e = cc

    go : (v : Bool) → f b ≡ v → (drop (prefix_len f bs) bs ≡ x ∷ r → f x ≡ false) → f x ≡ false
    go true is h = h (sym (ap (λ n. drop n (b ∷ bs)) (prefix_yes f b bs is)) ∙ e)
    go false is h = ap f (sym (head_is _ _ _ _ (sym (ap (λ n. drop n (b ∷ bs)) (prefix_no f b bs is)) ∙ e))) ∙ is

-- a whole run: all of it is in the class, and what follows does not begin with the class
pub whole_run : (f : ℕ → Bool) (bs : List ℕ) (m : ℕ) → m ≤ length bs → all f (take m bs) ≡ true
    → begins f (drop m bs) ≡ false → m ≡ prefix_len f bs
whole_run f [] m le a e = omega arith
whole_run f (b ∷ bs) zero le a e = sym (prefix_no f b bs e)
whole_run f (b ∷ bs) (suc m) le a e = go (f b) refl (whole_run f bs m (omega arith))
  where
    go : (v : Bool) → f b ≡ v → (all f (take m bs) ≡ true → begins f (drop m bs) ≡ false → m ≡ prefix_len f bs)
        → suc m ≡ prefix_len f (b ∷ bs)
    go true is h = ap suc (h (sym (ap (λ v. v && all f (take m bs)) is) ∙ a) e) ∙ sym (prefix_yes f b bs is)
    go false is h = absurd (true≢false (sym a ∙ ap (λ v. v && all f (take m bs)) is))

pub run_ends : (f : ℕ → Bool) (bs : List ℕ) → begins f (drop (prefix_len f bs) bs) ≡ false
run_ends f bs = go (drop (prefix_len f bs) bs) refl
  where
    go : (r : List ℕ) → drop (prefix_len f bs) bs ≡ r → begins f r ≡ false
    go [] e = refl
    go (x ∷ r) e = prefix_stop f bs x r e

-- one byte alone
pub one_longest : {A : Type 0} (g : Spelling A) (x : A) (bs : List ℕ)
    → ((ys r : List ℕ) → g ys r ≡ only (is_empty ys) x) → Longest g bs x 0
one_longest g x bs by = record {
  within = omega arith;
  spelled = by [] bs;
  longest = λ m le lt. go bs m le lt;
}
  where
    go : (bs : List ℕ) (m : ℕ) → m ≤ length bs → 0 < m → g (take m bs) (drop m bs) ≡ None
    go [] m le lt = absurd (omega arith)
    go (b ∷ bs) zero le lt = absurd (omega arith)
    go (b ∷ bs) (suc m) le lt = by (b ∷ take m bs) (drop m bs)

-- as many of a class as stand there
pub run_longest : {A : Type 0} (f : ℕ → Bool) (g : Spelling A) (h : List ℕ → A) (bs : List ℕ) (n : ℕ)
    → n ≡ prefix_len f bs → n ≤ length bs →
    ((ys r : List ℕ) → g ys r ≡ only (all f ys) (h ys)) → Longest g bs (h (take n bs)) n
run_longest f g h bs n is le by = record {
  within = le;
  spelled = by (take n bs) (drop n bs) ∙ ap (λ v. only v (h (take n bs))) (ap (λ m. all f (take m bs)) is
      ∙ all_prefix f bs);
  longest = λ m le' lt. by (take m bs) (drop m bs)
      ∙ ap (λ v. only v (h (take m bs))) (all_past f bs m le' (omega arith));
}

-- the text determines how many
pub fixed_longest : {A : Type 0} (g : Spelling A) (h : List ℕ → A) (bs : List ℕ) (n : ℕ) → n ≤ length bs →
    ((ys r : List ℕ) → ys ++ r ≡ bs → g ys r ≡ only (length ys == n) (h ys)) → Longest g bs (h (take n bs)) n
fixed_longest g h bs n le by = record {
  within = le;
  spelled = by (take n bs) (drop n bs) (take-append-drop n bs) ∙ ap (λ v. only v (h (take n bs))) (same n le);
  longest = λ m le' lt. by (take m bs) (drop m bs) (take-append-drop m bs)
      ∙ ap (λ v. only v (h (take m bs))) (other m le' lt);
}
  where
    same : (n : ℕ) → n ≤ length bs → (length (take n bs) == n) ≡ true
    same n le = let l = length-take-le n bs le in grind (arith, nat_tests)

    other : (m : ℕ) → m ≤ length bs → n < m → (length (take m bs) == n) ≡ false
    other m le' lt = let l = length-take-le m bs le' in grind (arith, nat_tests)

-- one byte ahead of what stands behind it
pub ahead_longest : {A : Type 0} (g g' : Spelling A) (b : ℕ) (bs : List ℕ) (x : A) (n : ℕ)
    → ((ys r : List ℕ) → g (b ∷ ys) r ≡ g' ys r) →
    Longest g' bs x n → Longest g (b ∷ bs) x (suc n)
ahead_longest g g' b bs x n by l = record {
  within = omega (arith, l.within);
  spelled = by (take n bs) (drop n bs) ∙ l.spelled;
  longest = λ m le lt. go m le lt;
}
  where
    go : (m : ℕ) → m ≤ length (b ∷ bs) → suc n < m → g (take m (b ∷ bs)) (drop m (b ∷ bs)) ≡ None
    go zero le lt = absurd (omega arith)
    go (suc m) le lt = by (take m bs) (drop m bs) ∙ l.longest m (omega arith) (omega arith)

-- nothing stands behind a byte, so that what stands before it is the longest
pub here_longest : {A : Type 0} (g g' : Spelling A) (b : ℕ) (bs : List ℕ) (x : A)
    → ((ys r : List ℕ) → g (b ∷ ys) r ≡ g' ys r) → g [] (b ∷ bs) ≡ Some x →
    Never g' bs → Longest g (b ∷ bs) x 0
here_longest g g' b bs x by e none = record {
  within = omega arith;
  spelled = e;
  longest = λ m le lt. go m le lt;
}
  where
    go : (m : ℕ) → m ≤ length (b ∷ bs) → 0 < m → g (take m (b ∷ bs)) (drop m (b ∷ bs)) ≡ None
    go zero le lt = absurd (omega arith)
    go (suc m) le lt = by (take m bs) (drop m bs) ∙ none m (omega arith)

pub never_ahead : {A : Type 0} (g g' : Spelling A) (b : ℕ) (bs : List ℕ) → ((ys r : List ℕ) → g (b ∷ ys) r ≡ g' ys r)
    → g [] (b ∷ bs) ≡ None →
    Never g' bs → Never g (b ∷ bs)
never_ahead g g' b bs by e none = λ m le. go m le
  where
    go : (m : ℕ) → m ≤ length (b ∷ bs) → g (take m (b ∷ bs)) (drop m (b ∷ bs)) ≡ None
    go zero le = e
    go (suc m) le = by (take m bs) (drop m bs) ∙ none m (omega arith)

-- over a run that changes nothing
pub over_longest : {A : Type 0} (f : ℕ → Bool) (g : Spelling A) (bs : List ℕ) (x : A) (k : ℕ)
    → ((b : ℕ) (ys r : List ℕ) → f b ≡ true → g (b ∷ ys) r ≡ g ys r) →
    Longest g (drop (prefix_len f bs) bs) x k → Longest g bs x (prefix_len f bs + k)
over_longest f g [] x k by l = subst (λ n. Longest g [] x n) (sym (zero-add k)) l
over_longest f g (b ∷ bs) x k by l = go (f b) refl (over_longest f g bs x k by)
  where
    go : (v : Bool) → f b ≡ v → (Longest g (drop (prefix_len f bs) bs) x k → Longest g bs x (prefix_len f bs + k))
        → Longest g (b ∷ bs) x (prefix_len f (b ∷ bs) + k)
    go true is h =
        let p = prefix_yes f b bs is in
        let inner = h (subst (λ n. Longest g (drop n (b ∷ bs)) x k) p l) in
        let eq : suc (prefix_len f bs + k) ≡ prefix_len f (b ∷ bs) + k = omega arith in
        subst (λ n. Longest g (b ∷ bs) x n) eq (ahead_longest g g b bs x (prefix_len f bs + k)
        (λ ys r. by b ys r is) inner)
    go false is h =
        let p = prefix_no f b bs is in
        let eq : k ≡ prefix_len f (b ∷ bs) + k = omega arith in
        subst (λ n. Longest g (b ∷ bs) x n) eq (subst (λ n. Longest g (drop n (b ∷ bs)) x k) p l)
