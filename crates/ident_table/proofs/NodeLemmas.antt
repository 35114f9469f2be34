-- What the nodes of a table stand for.
use Rattle.std.proofs.Common.{◌≡◌, ℕ, zero, suc, ◌+◌, ◌<◌, ◌≤◌, ◌⊎◌, inl, inr, List, [], ◌∷◌, ◌++◌, length, get_or}
use Rattle.std.proofs.Common.{drop, refl, ap, sym, subst, ◌∙◌, arith, length-append}
use Rattle.std.specs.Prelude.{slice_get, Some}
use Rattle.std.proofs.Math.ListN.{get_or-append}
use Rattle.std.proofs.lemmas.Option.{slice_get_within, slice_get-get_or, same_Some}
use Rattle.std.proofs.lemmas.List.{append-nil}
use Rattle.bp_base.proofs.IdentLemmas.{Hole-name, Hole-not-Module}
use Rattle.bp_base.specs.declared.ident.Ident.{Ident}
use Rattle.bp_base.specs.declared.ident.Ident.TheVariants.{Hole, Module, Module'}
use Rattle.bp_base.specs.declared.ident.Ident.TheViews.{roll-Unit, out-roll-Unit}
use Rattle.bp_base.specs.declared.ident.Unit.{Unit as OfUnit, out-Unit}
use Rattle.bp_base.specs.declared.ident.Fill.{Fill}
use Rattle.bp_base.specs.declared.ident.Ident.TheBlock.{hidden-the_row-Unit-0, end_of-Unit, more_of-Unit}
use Rattle.bp_base.specs.Lists.{Among}
use Rattle.bp_base.specs.Texts.{Text}
use Rattle.bp_base.proofs.SetLemmas.{among-image}
use Rattle.ident_table.specs.declared.node.NumberFill.{NumberFill}
use Rattle.ident_table.specs.declared.node.IdentNode.{IdentNode}
use Rattle.ident_table.specs.declared.node.IdentNode.TheVariants as node
use Rattle.ident_table.specs.Numbers.{fill_of, fills_of, node_of, idents_of, AreFillsBelow, IsNodeBelow, IsIdentTable}
use Rattle.ident_table.specs.Numbers.{Grows}
use Rattle.ident_table.specs.Nodes.{StandOnce, AreNodes}
use denote.Hole.Carrier.{hidden}

-- ---- places of lists

pub append-append : {A : Type 0} (xs ys zs : List A) → (xs ++ ys) ++ zs ≡ xs ++ (ys ++ zs)
append-append [] ys zs = refl
append-append (x ∷ xs) ys zs = ap (λ l. x ∷ l) (append-append xs ys zs)

pub get-front : {A : Type 0} (xs ys : List A) (i : ℕ) (x : A) → slice_get xs i ≡ Some x
    → slice_get (xs ++ ys) i ≡ Some x
get-front [] ys i x h = absurd (cc h)
get-front (y ∷ xs) ys zero x h = h
get-front (y ∷ xs) ys (suc i) x h = get-front xs ys i x h

pub get-end : {A : Type 0} (xs ys : List A) (y : A) → slice_get (xs ++ y ∷ ys) (length xs) ≡ Some y
get-end [] ys y = refl
get-end (x ∷ xs) ys y = get-end xs ys y

pub get-either : {A : Type 0} (xs : List A) (y x : A) (i : ℕ) → slice_get (xs ++ y ∷ []) i ≡ Some x
    → (slice_get xs i ≡ Some x) ⊎ ((i ≡ length xs) × (y ≡ x))
get-either [] y x zero h = inr (refl, same_Some y x h)
get-either [] y x (suc i) h = absurd (cc h)
get-either (z ∷ xs) y x zero h = inl h
get-either (z ∷ xs) y x (suc i) h = elim (get-either xs y x i h) [ inl k ↦ inl k | inr k ↦ inr (ap suc k.0, k.1) ]

get-there : {A : Type 0} (xs : List A) (i : ℕ) → i < length xs → (x : A) × (slice_get xs i ≡ Some x)
get-there [] i h = absurd (omega arith)
get-there (x ∷ xs) zero h = (x, refl)
get-there (x ∷ xs) (suc i) h = get-there xs i (omega arith)

-- ---- growing tables

pub Grows-not : (a : List Ident) → Grows a a
Grows-not a = ([], sym (append-nil a))

pub Grows-again : (a b c : List Ident) → Grows a b → Grows b c → Grows a c
Grows-again a b c g h = (g.0 ++ h.0, h.1 ∙ ap (λ l. l ++ h.0) g.1 ∙ append-append a g.0 h.0)

pub Grows-longer : (a b : List Ident) → Grows a b → length a ≤ length b
Grows-longer a b g = rw g.1 (omega (arith, length-append a g.0))

pub below-longer : (m n : ℕ) (fs : List NumberFill) → m ≤ n → AreFillsBelow m fs → AreFillsBelow n fs
below-longer m n fs l h f k = omega (arith, l, h f k)

pub node-below : (m n : ℕ) (x : IdentNode) → m ≤ n → IsNodeBelow m x → IsNodeBelow n x
node-below m n (node.Hole name) l h = tt
node-below m n (node.Module c fs name) l h = below-longer m n fs l h

fills-longer : (a b : List Ident) (fs : List NumberFill) → AreFillsBelow (length a) fs
    → fills_of (a ++ b) fs ≡ fills_of a fs
fills-longer a b [] h = refl
fills-longer a b (f ∷ fs) h =
    let first = get_or-append a b (Hole []) f.ident (h f (inl refl)) in
    let rest = fills-longer a b fs (λ g k. h g (inr k)) in
    λ i. record { hole = f.hole; ident = first i } ∷ rest i

pub fills-grown : (a b : List Ident) (fs : List NumberFill) → Grows a b → AreFillsBelow (length a) fs
    → fills_of b fs ≡ fills_of a fs
fills-grown a b fs g h = ap (λ t. fills_of t fs) g.1 ∙ fills-longer a g.0 fs h

pub node-grown : (a b : List Ident) (x : IdentNode) → Grows a b → IsNodeBelow (length a) x → node_of b x ≡ node_of a x
node-grown a b (node.Hole n) g h = refl
node-grown a b (node.Module c fs m) g h = ap (λ l. Module (roll-Unit (record { component = c; fills = l })) m)
    (fills-grown a b fs g h)

-- ---- identities of nodes

pub idents-push : (done : List Ident) (xs : List IdentNode) (x : IdentNode)
    → idents_of done (xs ++ x ∷ []) ≡ idents_of done xs ++ node_of (idents_of done xs) x ∷ []
idents-push done [] x = refl
idents-push done (y ∷ ys) x = idents-push (done ++ node_of done y ∷ []) ys x

idents-grow : (done : List Ident) (xs : List IdentNode) → Grows done (idents_of done xs)
idents-grow done [] = Grows-not done
idents-grow done (y ∷ ys) = Grows-again done (done ++ node_of done y ∷ []) _ (node_of done y ∷ [], refl)
    (idents-grow (done ++ node_of done y ∷ []) ys)

length-after : (done : List Ident) (xs : List IdentNode) → length (idents_of done xs) ≡ length done + length xs
length-after done [] = omega arith
length-after done (y ∷ ys) = omega (
  arith,
  length-after (done ++ node_of done y ∷ []) ys,
  length-append done (node_of done y ∷ []),
)

pub length-idents : (xs : List IdentNode) → length (idents_of [] xs) ≡ length xs
length-idents xs = omega (arith, length-after [] xs)

ident-after : (done : List Ident) (xs : List IdentNode) (k n : ℕ) (x : IdentNode) → n ≡ length done + k
    → slice_get xs k ≡ Some x → IsNodeBelow n x
    → slice_get (idents_of done xs) n ≡ Some (node_of (idents_of done xs) x)
ident-after done [] k n x e is h = absurd (cc is)
ident-after done (y ∷ ys) zero n x e is h =
    let one : y ≡ x = same_Some y x is in
    let at : n ≡ length done = omega (arith, e) in
    let grown = idents-grow (done ++ node_of done y ∷ []) ys in
    let there : slice_get (idents_of (done ++ node_of done y ∷ []) ys) (length done) ≡ Some (node_of done y) =
    ap (λ l. slice_get l (length done)) grown.1 ∙ get-front (done ++ node_of done y ∷ []) grown.0 (length done)
    (node_of done y) (get-end done [] (node_of done y)) in
    let same = node-grown done (idents_of (done ++ node_of done y ∷ []) ys) x (idents-grow done (y ∷ ys))
    (subst (λ w. IsNodeBelow w x) at h) in
    ap (slice_get (idents_of done (y ∷ ys))) at ∙ there ∙ ap Some (ap (node_of done) one ∙ sym same)
ident-after done (y ∷ ys) (suc k) n x e is h = ident-after (done ++ node_of done y ∷ []) ys k n x
    (omega (arith, e, length-append done (node_of done y ∷ []))) is h

pub ident-of-node : (nodes : List IdentNode) (k : ℕ) (x : IdentNode) → AreNodes nodes → slice_get nodes k ≡ Some x
    → slice_get (idents_of [] nodes) k ≡ Some (node_of (idents_of [] nodes) x)
ident-of-node nodes k x h is = ident-after [] nodes k k x (omega arith) is (h.below k x is)

-- ---- parts of an identity

unit_in : OfUnit → Ident → OfUnit
unit_in d (Hole n) = d
unit_in d (Module' s (more_of-Unit u end_of-Unit) m) = u

unit_in-Module : (d u : OfUnit) (m : Text) → unit_in d (Module u m) ≡ u
unfolding unit_in hidden-the_row-Unit-0 hidden
unit_in-Module d u m = refl

name_in : Ident → Text
name_in (Hole n) = n
name_in (Module' s r m) = m

name_in-Module : (u : OfUnit) (m : Text) → name_in (Module u m) ≡ m
unfolding name_in
name_in-Module u m = refl

Module-unit : (u v : OfUnit) (m n : Text) → Module u m ≡ Module v n → u ≡ v
Module-unit u v m n e = sym (unit_in-Module u u m) ∙ ap (unit_in u) e ∙ unit_in-Module u v n

Module-name : (u v : OfUnit) (m n : Text) → Module u m ≡ Module v n → m ≡ n
Module-name u v m n e = sym (name_in-Module u m) ∙ ap name_in e ∙ name_in-Module v n

-- ---- a table has each identity once

module _ (table : List Ident) (once : StandOnce table) where
  number-one : (i j : ℕ) → i < length table → j < length table → get_or table i (Hole []) ≡ get_or table j (Hole [])
      → i ≡ j
  number-one i j p q e = once i j (get_or table i (Hole [])) (slice_get-get_or table i (Hole []) p)
      (slice_get-get_or table j (Hole []) q ∙ ap Some (sym e))

  fills-one : (fs gs : List NumberFill) → AreFillsBelow (length table) fs → AreFillsBelow (length table) gs
      → fills_of table fs ≡ fills_of table gs → fs ≡ gs
  fills-one [] [] p q e = refl
  fills-one [] (g ∷ gs) p q e = absurd (cc e)
  fills-one (f ∷ fs) [] p q e = absurd (cc e)
  fills-one (f ∷ fs) (g ∷ gs) p q e =
      let first : fill_of table f ≡ fill_of table g = ap (λ l. get_or l 0 (fill_of table f)) e in
      let rest = fills-one fs gs (λ x k. p x (inr k)) (λ x k. q x (inr k)) (ap (drop 1) e) in
      let hole : f.hole ≡ g.hole = ap (λ x. x.hole) first in
      let ident = number-one f.ident g.ident (p f (inl refl)) (q g (inl refl)) (ap (λ x. x.ident) first) in
      λ i. record { hole = hole i; ident = ident i } ∷ rest i

  node-one : (x y : IdentNode) → IsNodeBelow (length table) x → IsNodeBelow (length table) y
      → node_of table x ≡ node_of table y → x ≡ y
  node-one (node.Hole n) (node.Hole m) p q e = ap node.Hole (Hole-name n m e)
  node-one (node.Hole n) (node.Module d gs m) p q e = absurd (Hole-not-Module n _ m e)
  node-one (node.Module c fs n) (node.Hole m) p q e = absurd (Hole-not-Module m _ n (sym e))
  node-one (node.Module c fs n) (node.Module d gs m) p q e =
      let out = sym (out-roll-Unit (record { component = c; fills = fills_of table fs }))
      ∙ ap out-Unit (Module-unit _ _ n m e) ∙ out-roll-Unit (record { component = d; fills = fills_of table gs }) in
      let component : c ≡ d = ap (λ u. u.component) out in
      let fills = fills-one fs gs p q (ap (λ u. u.fills) out) in
      let name = Module-name _ _ n m e in
      λ i. node.Module (component i) (fills i) (name i)

once-push : (table : List Ident) (t : Ident) → StandOnce table → ((i : ℕ) → slice_get table i ≡ Some t → ⊥)
    → StandOnce (table ++ t ∷ [])
once-push table t once new i j s p q = by (get-either table t s i p) (get-either table t s j q)
  where
    by : (slice_get table i ≡ Some s) ⊎ ((i ≡ length table) × (t ≡ s))
        → (slice_get table j ≡ Some s) ⊎ ((j ≡ length table) × (t ≡ s)) → i ≡ j
    by (inl a) (inl b) = once i j s a b
    by (inl a) (inr b) = absurd (new i (a ∙ ap Some (sym b.1)))
    by (inr a) (inl b) = absurd (new j (b ∙ ap Some (sym a.1)))
    by (inr a) (inr b) = a.0 ∙ sym b.0

module _ (nodes : List IdentNode) (h : AreNodes nodes) where
  node-there : (i : ℕ) (t : Ident) → slice_get (idents_of [] nodes) i ≡ Some t
      → (y : IdentNode) × (slice_get nodes i ≡ Some y) × (node_of (idents_of [] nodes) y ≡ t)
  node-there i t is =
      let within = slice_get_within (idents_of [] nodes) i t is in
      let y = get-there nodes i (omega (arith, within, length-idents nodes)) in
      (y.0, y.1, same_Some _ _ (sym (ident-of-node nodes i y.0 h y.1) ∙ is))

  new-ident : (x : IdentNode) → IsNodeBelow (length nodes) x → ((k : ℕ) → slice_get nodes k ≡ Some x → ⊥) → (i : ℕ)
      → slice_get (idents_of [] nodes) i ≡ Some (node_of (idents_of [] nodes) x) → ⊥
  new-ident x low new i is =
      let y = node-there i _ is in
      let within = slice_get_within nodes i y.0 y.1 in
      let one = node-one (idents_of [] nodes) h.once y.0 x
      (node-below i _ y.0 (omega (arith, within, length-idents nodes)) (h.below i y.0 y.1))
      (node-below (length nodes) _ x (omega (arith, length-idents nodes)) low) y.2 in
      new i (y.1 ∙ ap Some one)

  pub AreNodes-push : (x : IdentNode) → IsNodeBelow (length nodes) x → ((k : ℕ) → slice_get nodes k ≡ Some x → ⊥)
      → AreNodes (nodes ++ x ∷ [])
  AreNodes-push x low new =
      record {
        below = λ k y is. elim (get-either nodes x y k is) [
          | inl a ↦ h.below k y a
          | inr a ↦
              subst (λ z. IsNodeBelow k z) a.1 (subst (λ w. IsNodeBelow w x) (sym a.0) low)
        ];
        once = subst StandOnce (sym (idents-push [] nodes x))
            (once-push (idents_of [] nodes) _ h.once (new-ident x low new));
      }

  parts-before : (k : ℕ) (y : IdentNode) (u : OfUnit) (m : Text) → IsNodeBelow k y → k < length nodes
      → node_of (idents_of [] nodes) y ≡ Module u m
      → (f : Fill) → Among f (out-Unit u).fills → (j : ℕ) × (j < k) × (slice_get (idents_of [] nodes) j ≡ Some f.ident)
  parts-before k (node.Hole n) u m low within is f k-in = absurd (Hole-not-Module n u m is)
  parts-before k (node.Module c fs n) u m low within is f there =
      let out = ap out-Unit (sym (Module-unit _ u n m is))
      ∙ out-roll-Unit (record { component = c; fills = fills_of (idents_of [] nodes) fs }) in
      let g = among-image (fill_of (idents_of [] nodes)) f fs (subst (λ l. Among f l) (ap (λ v. v.fills) out) there) in (
        g.0.ident,
        low g.0 g.1,
        slice_get-get_or (idents_of [] nodes) g.0.ident (Hole [])
            (omega (arith, low g.0 g.1, within, length-idents nodes)) ∙ ap Some (ap (λ v. v.ident) g.2),
      )

  pub IsIdentTable-nodes : IsIdentTable (idents_of [] nodes)
  IsIdentTable-nodes =
      record {
        once = h.once;
        below = λ k u m is f there.
            let y = node-there k (Module u m) is in
            parts-before k y.0 u m (h.below k y.0 y.1) (slice_get_within nodes k y.0 y.1) y.2 f there;
      }
