-- Types as trees: what they are as terms, on a stack, and with variables replaced.
use Rattle.std.proofs.Common.{◌≡◌, ℕ, zero, suc, ◌+◌, ◌<◌, ◌≤◌, List, [], ◌∷◌, ◌++◌, length, get_or, take, drop, refl}
use Rattle.std.proofs.Common.{sym, ap}
use Rattle.std.proofs.Common.{ap₂, subst, ◌∙◌, arith, ◌-◌, max, Bool, true, false, ◌&&◌, true≢false, inl, inr}
use Rattle.std.specs.Prelude.{map, ◌↔◌, IsTrue}
use Rattle.std.proofs.Math.Nat.{le-max_left, le-max_right, max-le}
use Rattle.std.proofs.lemmas.Bool.{and_parts, and_from}
use Rattle.std.proofs.lemmas.List.{reverse-append, map-append}
use Rattle.bp_base.specs.declared.ty.Ty.{Ty}
use Rattle.bp_base.specs.declared.ty.Ty.TheVariants.{Var, App}
use Rattle.bp_base.specs.declared.ty.Ty.TheBlock.{hidden-the_row-Ty-0}
use denote.Hole.Carrier.{hidden}
use Rattle.type_terms.specs.Terms.{var, con, app, applied}
use Rattle.hs_core.specs.Types.{TypeTerm, type_term, applied_to, listed, depth}
use Rattle.type_expand.specs.Expanding.{stacked_types, IsMoved}

pub type_app : (f a : Ty) → type_term (App f a) ≡ app (type_term f) (type_term a)
unfolding hidden-the_row-Ty-0 hidden
type_app f a = refl

-- one more type on top
pub stacked_types-push : (ts : List Ty) (t : Ty) → stacked_types (ts ++ t ∷ []) ≡ type_term t ∷ stacked_types ts
stacked_types-push ts t = ap (map type_term) (reverse-append ts (t ∷ []))

-- ---- the first arguments

take_next : {A : Type 0} (xs rest : List A) (i : ℕ) (x : A) → drop i xs ≡ x ∷ rest
    → (take (suc i) xs ≡ take i xs ++ x ∷ []) × (drop (suc i) xs ≡ rest)
take_next [] rest zero x e = absurd (subst told e tt)
  where
    told : {A : Type 0} → List A → Type 0
    told [] = Unit {0}
    told (y ∷ ys) = ⊥
take_next [] rest (suc i) x e = absurd (subst told e tt)
  where
    told : {A : Type 0} → List A → Type 0
    told [] = Unit {0}
    told (y ∷ ys) = ⊥
take_next (y ∷ ys) rest zero x e = (ap front e, ap back e)
  where
    front : {A : Type 0} → List A → List A
    front [] = []
    front (z ∷ zs) = z ∷ []

    back : {A : Type 0} → List A → List A
    back [] = []
    back (z ∷ zs) = zs
take_next (y ∷ ys) rest (suc i) x e =
    let h = take_next ys rest i x e in (ap (λ zs. y ∷ zs) h.0, h.1)

take_none : {A : Type 0} (xs : List A) (i : ℕ) → drop i xs ≡ []
    → (take (suc i) xs ≡ take i xs) × (drop (suc i) xs ≡ [])
take_none [] zero e = (refl, refl)
take_none [] (suc i) e = (refl, refl)
take_none (y ∷ ys) zero e = absurd (subst told e tt)
  where
    told : {A : Type 0} → List A → Type 0
    told [] = ⊥
    told (y ∷ ys) = Unit {0}
take_none (y ∷ ys) (suc i) e = let h = take_none ys i e in (ap (λ zs. y ∷ zs) h.0, h.1)

-- the first so many arguments are taken, and the others are left
pub record Taken (all : List TypeTerm) (i : ℕ) (front rest : List Ty) : Type 0 where
  pub fronts : map type_term front ≡ take i all
  pub rests : stacked_types rest ≡ drop i all

pub taken-next : (all : List TypeTerm) (i : ℕ) (front rest more left : List Ty) (arg : Ty) → rest ≡ left ++ arg ∷ []
    → more ≡ front ++ arg ∷ [] → Taken all i front rest → Taken all (i + 1) more left
taken-next all i front rest more left arg e f t =
    let s : suc i ≡ i + 1 = omega arith in
    let h = take_next all (stacked_types left) i (type_term arg)
    (sym t.rests ∙ ap stacked_types e ∙ stacked_types-push left arg) in
    record {
      fronts = ap (map type_term) f ∙ map-append type_term front (arg ∷ [])
          ∙ ap (λ xs. xs ++ type_term arg ∷ []) t.fronts
          ∙ sym h.0 ∙ ap (λ j. take j all) s;
      rests = sym h.1 ∙ ap (λ j. drop j all) s;
    }

pub taken-none : (all : List TypeTerm) (i : ℕ) (front rest left : List Ty) → rest ≡ [] → left ≡ []
    → Taken all i front rest → Taken all (i + 1) front left
taken-none all i front rest left e f t =
    let s : suc i ≡ i + 1 = omega arith in
    let h = take_none all i (sym t.rests ∙ ap stacked_types e) in
    record {
      fronts = t.fronts ∙ sym h.0 ∙ ap (λ j. take j all) s;
      rests = ap stacked_types f ∙ sym h.1 ∙ ap (λ j. drop j all) s;
    }

-- ---- variables replaced

pub listed-in : (ts : List Ty) (i : ℕ) (d : Ty) → i < length ts
    → listed (map type_term ts) i ≡ type_term (get_or ts i d)
listed-in [] i d l = absurd (omega (arith, l))
listed-in (t ∷ ts) zero d l = refl
listed-in (t ∷ ts) (suc i) d l = listed-in ts i d (omega (arith, l))

pub listed-past : (ts : List Ty) (i : ℕ) → length ts ≤ i → listed (map type_term ts) i ≡ var (i - length ts)
listed-past [] i l = let e : i ≡ i - 0 = omega arith in ap var e
listed-past (t ∷ ts) zero l = absurd (omega (arith, l))
listed-past (t ∷ ts) (suc i) l =
    let m : length ts ≤ i = omega (arith, l) in
    let e : i - length ts ≡ suc i - suc (length ts) = omega (arith, m) in listed-past ts i m ∙ ap var e

pub var_in : (ts : List Ty) (i : ℕ) (ty t d : Ty) → ty ≡ Var i → i < length ts → t ≡ get_or ts i d
    → type_term t ≡ applied (listed (map type_term ts)) (type_term ty)
var_in ts i ty t d e l g =
    ap type_term g ∙ sym (listed-in ts i d l) ∙ sym (ap (λ x. applied (listed (map type_term ts)) (type_term x)) e)

pub var_past : (ts : List Ty) (i j : ℕ) (ty : Ty) → ty ≡ Var i → length ts ≤ i → j ≡ i - length ts
    → var j ≡ applied (listed (map type_term ts)) (type_term ty)
var_past ts i j ty e l g =
    ap var g ∙ sym (listed-past ts i l) ∙ sym (ap (λ x. applied (listed (map type_term ts)) (type_term x)) e)

pub replaced_app : (ts : List Ty) (ty f a g b u v t : Ty) → ty ≡ App f a → g ≡ f → b ≡ a
    → type_term u ≡ applied (listed (map type_term ts)) (type_term g)
    → type_term v ≡ applied (listed (map type_term ts)) (type_term b)
    → type_term t ≡ app (type_term u) (type_term v)
    → type_term t ≡ applied (listed (map type_term ts)) (type_term ty)
replaced_app ts ty f a g b u v t e p q x y z =
    z ∙ ap₂ app (x ∙ ap (λ i. applied (listed (map type_term ts)) (type_term i)) p)
    (y ∙ ap (λ i. applied (listed (map type_term ts)) (type_term i)) q)
    ∙ sym (ap (applied (listed (map type_term ts))) (ap type_term e ∙ type_app f a))

-- one more argument is taken, where there is one
pub taken-more : (all : List TypeTerm) (i : ℕ) (front rest more left : List Ty) → IsMoved rest left front more
    → Taken all i front rest → Taken all (i + 1) more left
taken-more all i front rest more left (inl p) t =
    subst (λ x. Taken all (i + 1) x left) (sym p.2) (taken-none all i front rest left p.0 p.1 t)
taken-more all i front rest more left (inr p) t = taken-next all i front rest more left p.0 p.1 p.2 t

-- ---- depth

pub depth-positive : (t : TypeTerm) → 1 ≤ depth t
depth-positive (var i) = omega arith
depth-positive (con n) = omega arith
depth-positive (app f a) = omega arith

-- no type has no depth
pub within_nothing : (t : TypeTerm) (m : ℕ) → m ≡ 0 → IsTrue false ↔ (depth t ≤ m)
within_nothing t m e =
    let p = depth-positive t in (λ h. absurd (true≢false (sym h)), λ l. absurd (omega (arith, e, l, p)))

within_parts : (f a : TypeTerm) (m : ℕ) → (m ≡ 0 → ⊥)
    → ((depth f ≤ m - 1) × (depth a ≤ m - 1)) ↔ (depth (app f a) ≤ m)
within_parts f a zero n = absurd (n refl)
within_parts f a (suc k) n =
    let z : suc k - 1 ≡ k = omega arith in
    let l = le-max_left (depth f) (depth a) in
    let r = le-max_right (depth f) (depth a) in (
      λ h.
          let p = h.0 in
          let q = h.1 in
          let b : max (depth f) (depth a) ≤ k = max-le {k = k} (omega (arith, p)) (omega (arith, q)) in omega
          (arith, b),
      λ h. (omega (arith, h, l), omega (arith, h, r)),
    )

both_within : (ty f a g b : Ty) (m : ℕ) (x y : Bool) → ty ≡ App f a → g ≡ f → b ≡ a → (m ≡ 0 → ⊥)
    → IsTrue x ↔ (depth (type_term g) ≤ m - 1) → IsTrue y ↔ (depth (type_term b) ≤ m - 1)
    → IsTrue (x && y) ↔ (depth (type_term ty) ≤ m)
both_within ty f a g b m x y e p q n h k =
    let one = subst (λ i. IsTrue x ↔ (depth (type_term i) ≤ m - 1)) p h in
    let two = subst (λ i. IsTrue y ↔ (depth (type_term i) ≤ m - 1)) q k in
    let w = within_parts (type_term f) (type_term a) m n in
    subst (λ i. IsTrue (x && y) ↔ (depth i ≤ m)) (sym (ap type_term e ∙ type_app f a)) (
      λ t. let z = and_parts x y t in w.0 (one.0 z.0, two.0 z.1),
      λ t. let z = w.1 t in and_from x y (one.1 z.0) (two.1 z.1),
    )

pub then_within : (ty f a g b : Ty) (m : ℕ) (x y : Bool) → ty ≡ App f a → g ≡ f → b ≡ a → (m ≡ 0 → ⊥)
    → IsTrue x ↔ (depth (type_term g) ≤ m - 1) → IsTrue y ↔ (depth (type_term b) ≤ m - 1) → x ≡ true
    → IsTrue y ↔ (depth (type_term ty) ≤ m)
then_within ty f a g b m x y e p q n h k is =
    subst (λ z. IsTrue (z && y) ↔ (depth (type_term ty) ≤ m)) is (both_within ty f a g b m x y e p q n h k)

pub else_within : (ty f a g : Ty) (m : ℕ) (x : Bool) → ty ≡ App f a → g ≡ f → (m ≡ 0 → ⊥)
    → IsTrue x ↔ (depth (type_term g) ≤ m - 1) → x ≡ false → IsTrue x ↔ (depth (type_term ty) ≤ m)
else_within ty f a g m x e p n h is =
    let w = within_parts (type_term f) (type_term a) m n in (
      λ t. absurd (true≢false (sym t ∙ is)),
      λ l. h.1 (subst (λ i. depth (type_term i) ≤ m - 1) (sym p)
          (w.1 (subst (λ i. depth i ≤ m) (ap type_term e ∙ type_app f a) l)).0),
    )
