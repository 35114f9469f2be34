-- The nodes of a table's numbers, and what is built for them.
use Rattle.std.proofs.Common.{◌≡◌, ℕ, zero, suc, ◌+◌, ◌<◌, ◌≤◌, List, [], ◌∷◌, ◌++◌, length, get_or, set, drop, ◌⊎◌}
use Rattle.std.proofs.Common.{inl, inr, refl, ap, sym, ◌∙◌, subst, arith}
use Rattle.std.proofs.Math.ListN.{get_or-append}
use Rattle.std.specs.Prelude.{Option, Some, None}
use Rattle.std.specs.Option.{option_map}
use Rattle.std.proofs.lemmas.Option.{same_Some}
use Rattle.bp_base.specs.declared.ident.Ident.{Ident}
use Rattle.bp_base.specs.declared.ident.Ident.TheVariants.{Hole}
use Rattle.bp_base.specs.Lists.{Among}
use Rattle.bp_base.specs.Texts.{Text}
use Rattle.ident_table.specs.declared.node.NumberFill.{NumberFill}
use Rattle.ident_table.specs.Numbers.{ident_of, fills_of, AreFillsBelow, IsIdentTable, Grows}
use Rattle.hole_unify.specs.Table.{nodes_of}
use Rattle.hole_unify.specs.Build.{number_built, built_of, AreBuiltBelow, at_class, ident_built, with_fill, fills_built}
use Rattle.hole_unify.specs.Stages.{node_at, built_for, with_number, numbers_built}
use Rattle.hole_unify.proofs.NumberingLemmas.{class-of}

-- ---- nodes of numbers

-- the node of each number
pub node-front : (table : List Ident) (classes : List ℕ) (i : ℕ) → length classes ≤ length table
    → i < length classes
    → drop i (nodes_of table classes) ≡ node_at table classes i ∷ drop (i + 1) (nodes_of table classes)
node-front table classes i le lt = let e : i + 1 ≡ suc i = omega arith in
    go table classes i le lt ∙ ap (λ n. node_at table classes i ∷ drop n (nodes_of table classes)) (sym e)
  where
    go : (ts : List Ident)
        (ks : List ℕ) (i : ℕ) → length ks ≤ length ts → i < length ks
        → drop i (nodes_of ts ks) ≡ node_at ts ks i ∷ drop (suc i) (nodes_of ts ks)
    go ts [] i le lt = absurd (omega (arith, lt))
    go [] (k ∷ ks) i le lt = absurd (omega (arith, le))
    go (t ∷ ts) (k ∷ ks) zero le lt = refl
    go (t ∷ ts) (k ∷ ks) (suc i) le lt = go ts ks i (omega (arith, le)) (omega (arith, lt))

-- the nodes do not change where a table grows
pub nodes-grow : (table more : List Ident) (classes : List ℕ) → length classes ≤ length table
    → nodes_of (table ++ more) classes ≡ nodes_of table classes
nodes-grow [] [] [] le = refl
nodes-grow [] (t ∷ ts) [] le = refl
nodes-grow [] more (k ∷ ks) le = absurd (omega (arith, le))
nodes-grow (t ∷ ts) more [] le = refl
nodes-grow (t ∷ ts) more (k ∷ ks) le = ap (λ l. record { ident = t; class = k } ∷ l)
    (nodes-grow ts more ks (omega (arith, le)))

pub nodes-later : (table later : List Ident) (classes : List ℕ) → Grows table later → length classes ≤ length table
    → nodes_of later classes ≡ nodes_of table classes
nodes-later table later classes (more, is) le = ap (λ t. nodes_of t classes) is ∙ nodes-grow table more classes le

-- ---- what is built

pub built-at : (table : List Ident) (built : List (Option ℕ)) (k : ℕ)
    → get_or (built_of table built) k None ≡ number_built table (get_or built k None)
built-at table [] k = refl
built-at table (o ∷ built) zero = refl
built-at table (o ∷ built) (suc k) = built-at table built k

pub ident-of-later : (table later : List Ident) (n : ℕ) → Grows table later → n < length table
    → ident_of later n ≡ ident_of table n
ident-of-later table later n (more, is) lt = ap (λ t. ident_of t n) is ∙ get_or-append table more (Hole []) n lt

pub built-later : (table later : List Ident) (built : List (Option ℕ)) → Grows table later
    → AreBuiltBelow (length table) built → built_of later built ≡ built_of table built
built-later table later [] g below = refl
built-later table later (o ∷ built) g below = (λ w. one o refl w ∷ built-later table later built g
    (λ k h. below k (inr h)) w)
  where
    one : (p : Option ℕ) → o ≡ p → number_built later o ≡ number_built table o
    one None e = ap (number_built later) e ∙ sym (ap (number_built table) e)
    one (Some n) e = ap (number_built later) e ∙ ap Some (ident-of-later table later n g (below n (inl e)))
        ∙ sym (ap (number_built table) e)

pub below-later : (n m : ℕ) (built : List (Option ℕ)) → n ≤ m → AreBuiltBelow n built → AreBuiltBelow m built
below-later n m built le below k h = let b = below k h in omega (arith, b, le)

Among-set : {A : Type 0} (x : A) (l : List A) (i : ℕ) (y : A) → Among x (set l i y) → (x ≡ y) ⊎ Among x l
Among-set x [] i y h = absurd h
Among-set x (z ∷ l) zero y (inl e) = inl (sym e)
Among-set x (z ∷ l) zero y (inr h) = inr (inr h)
Among-set x (z ∷ l) (suc i) y (inl e) = inr (inl e)
Among-set x (z ∷ l) (suc i) y (inr h) = elim (Among-set x l i y h) [ inl e ↦ inl e | inr g ↦ inr (inr g) ]

pub below-set : (n : ℕ) (built : List (Option ℕ)) (k m : ℕ) → AreBuiltBelow n built → m < n
    → AreBuiltBelow n (set built k (Some m))
below-set n built k m below lt j h = elim (Among-set (Some j) built k (Some m) h) [
  | inl e ↦ (let i : j ≡ m = same_Some j m e in omega (arith, i, lt))
  | inr g ↦ below j g
]

pub Among-built : (built : List (Option ℕ)) (k n : ℕ) → get_or built k None ≡ Some n → Among (Some n) built
Among-built [] k n e = cc
Among-built (o ∷ built) zero n e = inl e
Among-built (o ∷ built) (suc k) n e = inr (Among-built built k n e)

-- ---- the fills of a unit

module _ (table : List Ident) (classes : List ℕ) (built : List (Option ℕ)) (is : IsIdentTable table)
    (le : length classes ≤ length table) where
  pub number-built : (i : ℕ) → i < length classes → ident_built (nodes_of table classes) (built_of table built)
      (ident_of table i) ≡ number_built table (built_for classes built i)
  number-built i lt = ap (at_class (built_of table built)) (class-of table classes i is le lt)
      ∙ built-at table built (get_or classes i 0)

  joined : (h : Text) (o : Option ℕ) (r : Option (List NumberFill))
      → with_fill h (number_built table o) (option_map (fills_of table) r) ≡ option_map (fills_of table)
      (with_number h o r)
  joined h None r = refl
  joined h (Some n) None = refl
  joined h (Some n) (Some fs) = refl

  pub fills-built : (fs : List NumberFill) → AreFillsBelow (length classes) fs
      → fills_built (nodes_of table classes) (built_of table built) (fills_of table fs) ≡ option_map (fills_of table)
      (numbers_built classes built fs)
  fills-built [] below = refl
  fills-built (f ∷ fs) below =
      let first = number-built f.ident (below f (inl refl)) in
      let rest = fills-built fs (λ g h. below g (inr h)) in
      (λ w. with_fill f.hole (first w) (rest w)) ∙ joined f.hole (built_for classes built f.ident)
      (numbers_built classes built fs)

pub numbers-below : (n : ℕ) (classes : List ℕ) (built : List (Option ℕ)) (fs l : List NumberFill)
    → AreBuiltBelow n built → numbers_built classes built fs ≡ Some l → AreFillsBelow n l
numbers-below n classes built [] l below e = λ g h. absurd (subst (Among g) (sym (same_Some [] l e)) h)
numbers-below n classes built (f ∷ fs) l below e =
    by (built_for classes built f.ident) (numbers_built classes built fs) refl e
    (λ r d. numbers-below n classes built fs r below d) refl
  where
    by : (o : Option ℕ) (r : Option (List NumberFill)) → built_for classes built f.ident ≡ o
        → with_number f.hole o r ≡ Some l → ((k : List NumberFill) → numbers_built classes built fs ≡ Some k
        → AreFillsBelow n k) → numbers_built classes built fs ≡ r → AreFillsBelow n l
    by None r p q rest d = cc
    by (Some m) None p q rest d = cc
    by (Some m) (Some k) p q rest d = λ g h. elim (subst (Among g)
        (sym (same_Some (record { hole = f.hole; ident = m } ∷ k) l q)) h) [
          | inl is ↦ subst (λ z. z.ident < n) is (below m (Among-built built (get_or classes f.ident 0) m p))
          | inr a ↦ rest k d g a
        ]
