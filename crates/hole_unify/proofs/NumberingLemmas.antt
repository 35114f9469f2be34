-- Identities of a table with their classes: what the numbers say of the nodes.
use Rattle.std.proofs.Common.{◌≡◌, ℕ, zero, suc, ◌+◌, ◌<◌, ◌≤◌, Bool, true, false, ◌&&◌, cond, nat_eq, List, [], ◌∷◌}
use Rattle.std.proofs.Common.{◌++◌, length, map, get_or, set, take, drop, inl, inr, refl, ap, sym, ◌∙◌, subst, arith}
use Rattle.std.proofs.Common.{length-append}
use Rattle.std.proofs.Math.Seq.{drop-cons}
use Rattle.std.proofs.lemmas.Grind.{get_or_default_zero}
use Rattle.std.proofs.lemmas.List.{length-map, length-take-le, length-drop}
use Rattle.std.proofs.lemmas.List.Edits.{map_over_more}
use Rattle.std.proofs.lemmas.Option.{get_or_from_slice_get, slice_get-get_or, slice_get_within, same_Some}
use Rattle.std.specs.Prelude.{Option, Some, None, slice_get}
use Rattle.ident_table.proofs.NodeLemmas.{get-either}
use Rattle.bp_base.specs.declared.ident.Ident.{Ident}
use Rattle.bp_base.specs.declared.ident.Ident.TheVariants.{Hole}
use Rattle.bp_base.specs.Lists.{Among}
use Rattle.ident_table.specs.Numbers.{ident_of, IsIdentTable}
use Rattle.hole_unify.specs.declared.equation.Equation.{Equation}
use Rattle.hole_unify.specs.Classes.{Same, Itself}
use Rattle.hole_unify.specs.Table.{Node, HasTerms, is_module, is_same, class_at, renumbered, moved, nodes_of, upto}
use Rattle.hole_unify.specs.Tables.{In, IsTable}
use Rattle.hole_unify.specs.Close.{module_at}
use Rattle.hole_unify.proofs.TermLemmas.{same_terms, terms_same}

-- ---- items and their places

pub Among-place : {A : Type 0} (x : A) (xs : List A) → Among x xs → (i : ℕ) × (slice_get xs i ≡ Some x)
Among-place x [] h = absurd h
Among-place x (y ∷ xs) (inl e) = (0, ap Some e)
Among-place x (y ∷ xs) (inr h) = let r = Among-place x xs h in (suc r.0, r.1)

pub place-Among : {A : Type 0} (x : A) (xs : List A) (i : ℕ) → slice_get xs i ≡ Some x → Among x xs
place-Among x [] i e = cc
place-Among x (y ∷ xs) zero e = inl (same_Some y x e)
place-Among x (y ∷ xs) (suc i) e = inr (place-Among x xs i e)

-- ---- numbers of a table

pub ident_of-place : (table : List Ident) (i : ℕ) (t : Ident) → slice_get table i ≡ Some t → ident_of table i ≡ t
ident_of-place table i t e = get_or_from_slice_get table i t _ e

pub place-ident_of : (table : List Ident) (i : ℕ) → i < length table → slice_get table i ≡ Some (ident_of table i)
place-ident_of table i lt = slice_get-get_or table i _ lt

-- ---- the nodes

pub nodes_of-length : (table : List Ident) (classes : List ℕ) → length classes ≤ length table
    → length (nodes_of table classes) ≡ length classes
nodes_of-length [] [] le = refl
nodes_of-length [] (k ∷ ks) le = absurd (omega (arith, le))
nodes_of-length (t ∷ ts) [] le = refl
nodes_of-length (t ∷ ts) (k ∷ ks) le = ap suc (nodes_of-length ts ks (omega (arith, le)))

-- joining of classes by number is that of nodes
pub nodes_of-moved : (from to : ℕ) (table : List Ident) (classes : List ℕ)
    → nodes_of table (map (renumbered from to) classes) ≡ moved from to (nodes_of table classes)
nodes_of-moved from to [] ks = refl
nodes_of-moved from to (t ∷ ts) [] = refl
nodes_of-moved from to (t ∷ ts) (k ∷ ks) = ap (λ l. record { ident = t; class = renumbered from to k } ∷ l)
    (nodes_of-moved from to ts ks)

-- one class more is renumbered
pub join-step : (from to : ℕ) (all now : List ℕ) (i y : ℕ) → i < length all
    → now ≡ map (renumbered from to) (take i all) ++ drop i all
    → y ≡ renumbered from to (get_or now i 0) → set now i y ≡ map (renumbered from to) (take (i + 1) all)
    ++ drop (i + 1) all
join-step from to all now i y lt so new =
    let same : length now ≡ length all = ap length so
    ∙ length-append (map (renumbered from to) (take i all)) (drop i all) ∙ parts in
    let below : i < length now = omega (arith, same, lt) in
    ap (set now i) new ∙ map_over_more (renumbered from to) all now i (get_or now i 0) lt so
    (sym (get_or_default_zero now i (get_or now i 0) below))
  where
    parts : length (map (renumbered from to) (take i all)) + length (drop i all) ≡ length all
    parts = let a = length-map (take i all) (renumbered from to) in let b = length-take-le i all le in
        let c = length-drop i all in omega (arith, a, b, c, lt)
      where
        le : i ≤ length all
        le = omega (arith, lt)

-- a node has a number, that of its identity and of its class
pub node-place : (table : List Ident) (classes : List ℕ) (x : Node) → Among x (nodes_of table classes)
    → (i : ℕ) × (slice_get table i ≡ Some x.ident) × (slice_get classes i ≡ Some x.class)
node-place [] ks x h = absurd h
node-place (t ∷ ts) [] x h = absurd h
node-place (t ∷ ts) (k ∷ ks) x (inl e) = (0, ap (λ y. Some y.ident) e, ap (λ y. Some y.class) e)
node-place (t ∷ ts) (k ∷ ks) x (inr h) = let r = node-place ts ks x h in (suc r.0, r.1, r.2)

pub place-node : (table : List Ident) (classes : List ℕ) (i : ℕ) (t : Ident) (k : ℕ) → slice_get table i ≡ Some t
    → slice_get classes i ≡ Some k → In (nodes_of table classes) t k
place-node [] ks i t k p q = cc
place-node (s ∷ ts) [] i t k p q = cc
place-node (s ∷ ts) (l ∷ ks) zero t k p q = (
  record {
    ident = s;
    class = l;
  },
  inl refl,
  same_Some s t p,
  same_Some l k q,
)
place-node (s ∷ ts) (l ∷ ks) (suc i) t k p q = let r = place-node ts ks i t k p q in (r.0, inr r.1, r.2, r.3)

-- ---- the first module of a class, from a number on

no-more : {A : Type 0} (xs : List A) (n : ℕ) → length xs ≤ n → drop n xs ≡ []
no-more [] zero le = refl
no-more [] (suc n) le = refl
no-more (x ∷ xs) zero le = absurd (omega (arith, le))
no-more (x ∷ xs) (suc n) le = let rest : length xs ≤ n = omega (arith, le) in no-more xs n rest

no-classes : (table : List Ident) → nodes_of table [] ≡ []
no-classes [] = refl
no-classes (t ∷ ts) = refl

nodes-front : (table : List Ident) (classes : List ℕ) (i : ℕ) → i < length classes → length classes ≤ length table
    → nodes_of (drop i table) (drop i classes) ≡ record {
      ident = ident_of table i;
      class = get_or classes i 0;
    } ∷ nodes_of (drop (i + 1) table) (drop (i + 1) classes)
nodes-front table classes i lt le =
    let one : suc i ≡ i + 1 = omega arith in
    let within : i < length table = omega (arith, lt, le) in
    (λ w. nodes_of (drop-cons table i (Hole []) within w) (drop-cons classes i 0 lt w))
    ∙ (λ w. record {
      ident = ident_of table i;
      class = get_or classes i 0;
    } ∷ nodes_of (drop (one w) table) (drop (one w) classes))

pub module-step : (table : List Ident) (classes : List ℕ) (k i : ℕ) (r : Option Ident) → i < length classes
    → length classes ≤ length table → nat_eq (get_or classes i 0) k && is_module (ident_of table i) ≡ false
    → module_at k (nodes_of (drop i table) (drop i classes)) ≡ r
    → module_at k (nodes_of (drop (i + 1) table) (drop (i + 1) classes)) ≡ r
module-step table classes k i r lt le off so =
    ap (λ b. cond b (Some (ident_of table i)) (module_at k (nodes_of (drop (i + 1) table) (drop (i + 1) classes))))
    (sym off)
    ∙ ap (module_at k) (sym (nodes-front table classes i lt le)) ∙ so

pub module-none : (table : List Ident) (classes : List ℕ) (k n : ℕ) (r : Option Ident) → length classes ≤ n
    → module_at k (nodes_of (drop n table) (drop n classes)) ≡ r → None ≡ r
module-none table classes k n r le so = ap (module_at k)
    (sym (ap (nodes_of (drop n table)) (no-more classes n le) ∙ no-classes (drop n table))) ∙ so

-- ---- the class of a number

-- an identity of a number of a table has that number's class
pub class-of : (table : List Ident) (classes : List ℕ) (i : ℕ) → IsIdentTable table → length classes ≤ length table
    → i < length classes → class_at (ident_of table i) (nodes_of table classes) ≡ Some (get_or classes i 0)
class-of table classes i is le lt = go table classes i le lt (λ j less same. apart j less same)
  where
    apart : (j : ℕ) → j < i → ident_of table j ≡ ident_of table i → ⊥
    apart j less same =
        let one : j ≡ i = is.once j i (ident_of table i) (slice_get-get_or table j (Hole []) (omega arith)
        ∙ ap Some same) (slice_get-get_or table i (Hole []) (omega arith)) in
        omega (arith, one, less)

    go : (ts : List Ident) (ks : List ℕ) (i : ℕ) → length ks ≤ length ts → i < length ks
        → ((j : ℕ) → j < i → ident_of ts j ≡ ident_of ts i → ⊥)
        → class_at (ident_of ts i) (nodes_of ts ks) ≡ Some (get_or ks i 0)
    go ts [] i le lt d = absurd (omega (arith, lt))
    go [] (k ∷ ks) i le lt d = absurd (omega (arith, le))
    go (t ∷ ts) (k ∷ ks) zero le lt d = ap (λ b. cond b (Some k) (class_at t (nodes_of ts ks))) (terms_same t)
    go (t ∷ ts) (k ∷ ks) (suc i) le lt d = by (is_same t (ident_of ts i)) refl
        (go ts ks i (omega (arith, le)) (omega (arith, lt)) (λ j l s. d (suc j) (omega (arith, l)) s))
      where
        by : (b : Bool) → is_same t (ident_of ts i) ≡ b
            → class_at (ident_of ts i) (nodes_of ts ks) ≡ Some (get_or ks i 0)
            → cond (is_same t (ident_of ts i)) (Some k) (class_at (ident_of ts i) (nodes_of ts ks)) ≡ Some
            (get_or ks i 0)
        by true e r = absurd (d zero (omega arith) (same_terms t (ident_of ts i) e))
        by false e r = ap (λ b. cond b (Some k) (class_at (ident_of ts i) (nodes_of ts ks))) e ∙ r

pub class_at-number : (table : List Ident) (classes : List ℕ) (i : ℕ) → IsIdentTable table
    → length classes ≡ length table → i < length table
    → class_at (ident_of table i) (nodes_of table classes) ≡ Some (get_or classes i 0)
class_at-number table classes i is e lt = class-of table classes i is (omega (arith, e)) (omega (arith, e, lt))

-- what holds of the classes at two numbers holds of those of their identities
pub at-numbers : (table : List Ident) (classes : List ℕ) (i j : ℕ) → IsIdentTable table → length classes ≡ length table
    → (i < length table) × (j < length table) → (P : Option ℕ → Option ℕ → Type 0)
    → P (Some (get_or classes i 0)) (Some (get_or classes j 0))
    → P (class_at (ident_of table i) (nodes_of table classes)) (class_at (ident_of table j) (nodes_of table classes))
at-numbers table classes i j is e lt P so =
    subst (λ o. P o (class_at (ident_of table j) (nodes_of table classes)))
    (sym (class_at-number table classes i is e lt.0))
    (subst (P (Some (get_or classes i 0))) (sym (class_at-number table classes j is e lt.1)) so)

-- ---- the first classes

pub upto-length : (n : ℕ) → length (upto n) ≡ n
upto-length zero = refl
upto-length (suc n) = let r = upto-length n in let s = length-append (upto n) (n ∷ []) in omega (arith, r, s)

pub upto-place : (n i k : ℕ) → slice_get (upto n) i ≡ Some k → i ≡ k
upto-place zero i k e = cc
upto-place (suc n) i k e = elim (get-either (upto n) n k i e) [
  | inl a ↦ upto-place n i k a
  | inr b ↦ b.0 ∙ upto-length n
      ∙ b.1
]

pub place-upto : (n i : ℕ) → i < n → slice_get (upto n) i ≡ Some i
place-upto n i lt =
    let same = upto-length n in
    let below : i < length (upto n) = omega (arith, same, lt) in
    let at = slice_get-get_or (upto n) i 0 below in
    at ∙ ap Some (sym (upto-place n i (get_or (upto n) i 0) at))

-- at first the class of an identity is its number
module _ (table : List Ident) where
  abbrev first : List Node
  first = nodes_of table (upto (length table))

  first-number : (x : Node) → Among x first → slice_get table x.class ≡ Some x.ident
  first-number x h =
      let p = node-place table (upto (length table)) x h in
      ap (slice_get table) (sym (upto-place (length table) p.0 x.class p.2)) ∙ p.1

  first-In : (t : Ident) (k : ℕ) → In first t k → slice_get table k ≡ Some t
  first-In t k (x, h, i, c) = ap (slice_get table) (sym c) ∙ first-number x h ∙ ap Some i

  -- a class has one identity
  pub first-apart : (a b : Ident) (k : ℕ) → In first a k → In first b k → a ≡ b
  first-apart a b k p q = same_Some a b (sym (first-In a k p) ∙ first-In b k q)

  first-listed : (t : Ident) → Among t table → (k : ℕ) × In first t k
  first-listed t h =
      let p = Among-place t table h in (
        p.0,
        place-node table (upto (length table)) p.0 t p.0 p.1
            (place-upto (length table) p.0 (slice_get_within table p.0 t p.1)),
      )

pub first-table : (es : List Equation) (table : List Ident) → IsIdentTable table
    → HasTerms es table → IsTable es (nodes_of table (upto (length table)))
first-table es table is terms = record {
  listed = λ t h. first-listed table t (terms.listed t h);
  only = λ x h. terms.only x.ident (place-Among x.ident table x.class (first-number table x h));
  one = λ t k l p q. is.once k l t (first-In table t k p) (first-In table t l q);
  below = λ x h. below x (slice_get_within table x.class x.ident (first-number table x h));
  sound = λ x y h g e. subst (λ z. Same es x.ident z)
      (same_Some x.ident y.ident (sym (first-number table x h) ∙ ap (slice_get table) e ∙ first-number table y g))
      (Itself x.ident);
}
  where
    below : (x : Node) → x.class < length table → x.class < length (nodes_of table (upto (length table)))
    below x lt =
        let a = upto-length (length table) in
        let b = nodes_of-length table (upto (length table)) (omega (arith, a)) in omega (arith, a, b, lt)
