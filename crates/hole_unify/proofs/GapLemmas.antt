-- What a closed table says, and that closing ends.
use Rattle.std.proofs.Common.{◌≡◌, ℕ, ◌+◌, ◌<◌, ◌≤◌, Bool, true, false, cond, nat_eq, List, [], ◌∷◌, ◌⊎◌, inl, inr}
use Rattle.std.proofs.Common.{refl, ap, sym, ◌∙◌, subst, arith}
use Rattle.std.proofs.lemmas.Bool.{eqb-true, eq-eqb}
use Rattle.std.specs.Prelude.{Some}
use Rattle.bp_base.specs.declared.ident.Ident.{Ident}
use Rattle.bp_base.specs.declared.ident.Ident.TheVariants.{Module}
use Rattle.bp_base.specs.declared.ident.Unit.{Unit as OfUnit, out-Unit}
use Rattle.bp_base.specs.Lists.{Among}
use Rattle.bp_base.specs.Texts.{Text}
use Rattle.unit_identity.specs.Fill.{found}
use Rattle.hole_unify.specs.declared.equation.Equation.{Equation}
use Rattle.hole_unify.specs.declared.equation.Head.{Head}
use Rattle.hole_unify.specs.Table.{Node}
use Rattle.hole_unify.specs.Classes.{Same, HasHeads, head_of}
use Rattle.hole_unify.specs.Table.{class_at, renumbered, moved, terms_in}
use Rattle.hole_unify.specs.Tables.{In, One, IsTable}
use Rattle.hole_unify.specs.Close.{IsEven, IsSettled}
use Rattle.hole_unify.proofs.TableLemmas.{class_at-found, fill-listed, listed-class}
use Rattle.hole_unify.proofs.UnifyingLemmas.{Module-unit, Module-name}
use Rattle.hole_unify.proofs.ClosingLemmas.{IsClosed, Same-closed}

-- heads of one class are one
pub one_head : (nodes : List Node) → IsEven nodes → (u v : OfUnit) (m n : Text) (k : ℕ) → In nodes (Module u m) k
    → In nodes (Module v n) k → ((out-Unit u).component ≡ (out-Unit v).component) × (m ≡ n)
one_head nodes c = c.heads

-- fills at one hole of one class are of one class
pub one_fill : (nodes : List Node) → IsEven nodes → (u v : OfUnit) (m n h : Text) (k p q : ℕ) (i j : Ident)
    → In nodes (Module u m) k → In nodes (Module v n) k
    → found h (out-Unit u).fills ≡ Some i → found h (out-Unit v).fills ≡ Some j → class_at i nodes ≡ Some p
    → class_at j nodes ≡ Some q → p ≡ q
one_fill nodes c = c.fills

-- the class of a fill of a listed module
pub fill-class : (es : List Equation) (nodes : List Node) → IsTable es nodes
    → (u : OfUnit) (m h : Text) (k : ℕ) (i : Ident) → In nodes (Module u m) k → found h (out-Unit u).fills ≡ Some i
    → (l : ℕ) × (class_at i nodes ≡ Some l)
fill-class es nodes t u m h k i p f = listed-class es nodes t i
    (fill-listed es u m h i (subst (λ v. Among v (terms_in es)) p.2 (t.only p.0 p.1)) f)

module _ (es : List Equation) (nodes : List Node) (s : IsSettled es nodes) where
  table : IsTable es nodes
  table = s.joined.table

  at_hole-closed : (u v : OfUnit) (m h : Text) (i j : Ident) → (out-Unit u).component ≡ (out-Unit v).component
      → One nodes (Module u m) (Module v m) → found h (out-Unit u).fills ≡ Some i → found h (out-Unit v).fills ≡ Some j
      → One nodes i j
  at_hole-closed u v m h i j e (k, a, b) f g =
      let p = fill-class es nodes table u m h k i a f in
      let q = fill-class es nodes table v m h k j b g in
      let one = one_fill nodes s.closed u v m m h k p.0 q.0 i j a b f g p.1 q.1 in
      (p.0, class_at-found i nodes p.0 p.1, subst (λ z. In nodes j z) (sym one) (class_at-found j nodes q.0 q.1))

  pub settled-closed : IsClosed es (One nodes)
  settled-closed = record {
    stated = s.joined.stated;
    turned = λ a b o. (o.0, o.2, o.1);
    joined = λ a b c o p. (o.0, o.1, subst (λ z. In nodes c z) (table.one b p.0 o.0 p.1 o.2) p.2);
    at_hole = at_hole-closed;
  }

  -- what is in one class stands in one class of the table
  pub settled-same : (a b : Ident) → Same es a b → (a ≡ b) ⊎ One nodes a b
  settled-same = Same-closed es (One nodes) settled-closed

  pub settled-heads : (one other : Head) → HasHeads es one other → ⊥
  settled-heads one other h = by h.class
    where
      by : (u : OfUnit) × (v : OfUnit) × (m : Text) × (n : Text) × Same es (Module u m) (Module v n)
          × (head_of u m ≡ one) × (head_of v n ≡ other) → ⊥
      by (u, v, m, n, same, p, q) = elim (settled-same (Module u m) (Module v n) same) [
        | inl e ↦ h.differ (sym p ∙ (λ w. record {
          component = (out-Unit (Module-unit u v m n e w)).component;
          «module» = Module-name u v m n e w;
        }) ∙ q)
        | inr o ↦ let e = one_head nodes s.closed u v m n o.0 o.1 o.2 in
            h.differ (sym p ∙ (λ w. record { component = e.0 w; «module» = e.1 w }) ∙ q)
      ]

-- ---- closing ends: the sum of the class numbers falls

abbrev pub total : List Node → ℕ
total [] = 0
total (x ∷ xs) = x.class + total xs

renumbered-less : (from to k : ℕ) → to < from → renumbered from to k ≤ k
renumbered-less from to k lt = by (nat_eq k from) refl
  where
    by : (b : Bool) → nat_eq k from ≡ b → cond (nat_eq k from) to k ≤ k
    by true e = let c : cond (nat_eq k from) to k ≡ to = ap (λ b. cond b to k) e in let d = eqb-true k from e in
        omega (arith, c, d, lt)
    by false e = let c : cond (nat_eq k from) to k ≡ k = ap (λ b. cond b to k) e in omega (arith, c)

moved-less : (nodes : List Node) (from to : ℕ) → to < from → total (moved from to nodes) ≤ total nodes
moved-less [] from to lt = omega arith
moved-less (x ∷ xs) from to lt = let a = renumbered-less from to x.class lt in let b = moved-less xs from to lt in
    omega (arith, a, b)

pub moved-falls : (nodes : List Node) (from to : ℕ) (a : Ident) → to < from → In nodes a from
    → total (moved from to nodes) < total nodes
moved-falls [] from to a lt (x, h, i, c) = absurd h
moved-falls (y ∷ ys) from to a lt (x, inl e, i, c) =
    let is : y.class ≡ from = ap (λ v. v.class) e ∙ c in
    let one : renumbered from to y.class ≡ to = ap (λ b. cond b to y.class) (eq-eqb y.class from is) in
    let b = moved-less ys from to lt in omega (arith, is, one, b, lt)
moved-falls (y ∷ ys) from to a lt (x, inr h, i, c) =
    let p = renumbered-less from to y.class lt in let q = moved-falls ys from to a lt (x, h, i, c) in
    omega (arith, p, q)
