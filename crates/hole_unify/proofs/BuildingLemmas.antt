-- What is built from closed classes, none of whose holes reaches itself.
use Rattle.std.proofs.Common.{◌≡◌, ℕ, zero, suc, ◌+◌, ◌<◌, ◌≤◌, Bool, true, false, ◌&&◌, ◌||◌, cond, nat_eq, nat_lt}
use Rattle.std.proofs.Common.{List, [], ◌∷◌, length, set, map, ◌⊎◌, inl, inr, refl, ap, sym, ◌∙◌, subst, arith}
use Rattle.std.proofs.lemmas.Bool.{eqb-true, eq-eqb, ltb-true, ltb-false, or_right}
use Rattle.std.proofs.lemmas.List.{get_or-set_same, get_or-set_other, get_or-replicate, get_or_past, length-set}
use Rattle.std.proofs.lemmas.List.{length-replicate}
use Rattle.std.specs.Prelude.{Option, Some, None, replicate}
use Rattle.std.specs.Option.{option_or}
use Rattle.std.proofs.lemmas.Option.{same_Some}
use Rattle.bp_base.proofs.SetLemmas.{among-map, among-image}
use Rattle.bp_base.proofs.IdentLemmas.{Module-is}
use Rattle.bp_base.specs.declared.ident.Ident.{Ident}
use Rattle.bp_base.specs.declared.ident.Ident.TheVariants.{Hole, Module, Module'}
use Rattle.bp_base.specs.declared.ident.Unit.{Unit as OfUnit, out-Unit}
use Rattle.bp_base.specs.declared.ident.Ident.TheViews.{roll-Unit}
use Rattle.bp_base.specs.declared.ident.Fill.{Fill}
use Rattle.bp_base.specs.declared.ident.Ident.TheBlock.{end_of-Unit, more_of-Unit}
use Rattle.bp_base.specs.Lists.{Among}
use Rattle.bp_base.specs.Texts.{Text, Before}
use Rattle.unit_identity.specs.Fill.{filled, composed}
use Rattle.unit_identity.proofs.FillLemmas.{filled-Module, filled_unit-out, filled_unit-roll}
use Rattle.hole_unify.specs.declared.equation.Equation.{Equation}
use Rattle.hole_unify.specs.Unifiers.{IsUnifier}
use Rattle.hole_unify.specs.Table.{Node, class_at, is_module}
use Rattle.hole_unify.specs.Tables.{In, IsTable}
use Rattle.hole_unify.specs.Build.{ClassBuilt, built_at, at_class, ident_built, with_fill, fills_built, module_of}
use Rattle.hole_unify.specs.Build.{has_module, term_hole, class_hole, least_hole, hole_of, term_ready, entry_of}
use Rattle.hole_unify.specs.Build.{node_ready, first_ready}
use Rattle.hole_unify.specs.IsFaithful.{Builds, NoFills, MoreFills, made, IsEntry, IsFaithful}
use Rattle.hole_unify.proofs.TermLemmas.{is_module-Module}
use Rattle.hole_unify.proofs.TableLemmas.{class_at-found, sound-In}
use Rattle.hole_unify.proofs.UnitLemmas.{not-both, module-of}
use Rattle.hole_unify.proofs.ReachingLemmas.{least-of, least-of-none}
use Rattle.hole_unify.proofs.UnifyingLemmas.{Same-filled}

-- ---- look-ups in what is built

-- an entry of a class that is not built
pub record IsNew (built : List (Option Ident)) (k : ℕ) : Type 0 where
  pub within : k < length built
  pub none : built_at k built ≡ None

built-put : (k : ℕ) (built : List (Option Ident)) (e : ClassBuilt) (t : Ident) → IsNew built e.class
    → built_at k built ≡ Some t → built_at k (set built e.class (Some e.ident)) ≡ Some t
built-put k built e t new p = by (nat_eq k e.class) refl
  where
    by : (b : Bool) → nat_eq k e.class ≡ b → built_at k (set built e.class (Some e.ident)) ≡ Some t
    by true d = absurd (not-both (built_at k built) t p (ap (λ z. built_at z built) (eqb-true k e.class d) ∙ new.none))
    by false d = get_or-set_other built e.class k (Some e.ident) None (λ is. let f : true ≡ false =
        sym (eq-eqb k e.class is) ∙ d in cc) ∙ p

built-after : (k : ℕ) (built : List (Option Ident)) (e : ClassBuilt) (t : Ident) → IsNew built e.class
    → built_at k (set built e.class (Some e.ident)) ≡ Some t
    → (built_at k built ≡ Some t) ⊎ ((e.class ≡ k) × (e.ident ≡ t))
built-after k built e t new p = by (nat_eq k e.class) refl
  where
    by : (b : Bool) → nat_eq k e.class ≡ b → (built_at k built ≡ Some t) ⊎ ((e.class ≡ k) × (e.ident ≡ t))
    by true d =
        let is : k ≡ e.class = eqb-true k e.class d in
        inr (
          sym is,
          same_Some e.ident t (sym (get_or-set_same built e.class (Some e.ident) None new.within)
              ∙ ap (λ z. built_at z (set built e.class (Some e.ident))) (sym is) ∙ p),
        )
    by false d = inl (sym (get_or-set_other built e.class k (Some e.ident) None (λ is. let f : true ≡ false =
        sym (eq-eqb k e.class is) ∙ d in cc)) ∙ p)

built-here : (built : List (Option Ident)) (k : ℕ) (t : Ident) → k < length built
    → built_at k (set built k (Some t)) ≡ Some t
built-here built k t lt = get_or-set_same built k (Some t) None lt

module _ (nodes : List Node) (built : List (Option Ident)) where
  ident-built : (i t : Ident) → ident_built nodes built i ≡ Some t
      → (k : ℕ) × (class_at i nodes ≡ Some k) × (built_at k built ≡ Some t)
  ident-built i t = by (class_at i nodes) refl
    where
      by : (o : Option ℕ) → class_at i nodes ≡ o → at_class built (class_at i nodes) ≡ Some t
          → (k : ℕ) × (class_at i nodes ≡ Some k) × (built_at k built ≡ Some t)
      by None p q = let f : None ≡ Some t = ap (at_class built) (sym p) ∙ q in cc
      by (Some k) p q = (k, p, ap (at_class built) (sym p) ∙ q)

  with-fill : (h : Text) (o : Option Ident) (r : Option (List Fill)) (l : List Fill) → with_fill h o r ≡ Some l
      → (t : Ident) × (fs : List Fill) × (o ≡ Some t) × (r ≡ Some fs) × (record { hole = h; ident = t } ∷ fs ≡ l)
  with-fill h None r l e = cc
  with-fill h (Some t) None l e = cc
  with-fill h (Some t) (Some fs) l e = (t, fs, refl, refl, same_Some _ l e)

  fills-build : (fs l : List Fill) → fills_built nodes built fs ≡ Some l → Builds nodes built fs l
  fills-build [] l e = subst (Builds nodes built []) (same_Some [] l e) NoFills
  fills-build (f ∷ fs) l e = by (with-fill f.hole (ident_built nodes built f.ident) (fills_built nodes built fs) l e)
      (λ r g. fills-build fs r g)
    where
      by : (t : Ident) × (r : List Fill) × (ident_built nodes built f.ident ≡ Some t)
          × (fills_built nodes built fs ≡ Some r) × (record { hole = f.hole; ident = t } ∷ r ≡ l)
          → ((r : List Fill) → fills_built nodes built fs ≡ Some r → Builds nodes built fs r)
          → Builds nodes built (f ∷ fs) l
      by (t, r, p, q, is) k = let x = ident-built f.ident t p in
          subst (Builds nodes built (f ∷ fs)) is (MoreFills f x.0 t fs r x.1 x.2 (k r q))

  -- where each fill is built, all are
  pub all-built : (fs : List Fill) → ((f : Fill) → Among f fs
      → (t : Ident) × (ident_built nodes built f.ident ≡ Some t))
      → (l : List Fill) × (fills_built nodes built fs ≡ Some l)
  all-built [] each = ([], refl)
  all-built (f ∷ fs) each =
      let first = each f (inl refl) in
      let rest = all-built fs (λ g h. each g (inr h)) in
      (record { hole = f.hole; ident = first.0 } ∷ rest.0, (λ w. with_fill f.hole (first.1 w) (rest.1 w)))

Builds-put : (nodes : List Node) (built : List (Option Ident)) (e : ClassBuilt) (fs l : List Fill) → IsNew built e.class
    → Builds nodes built fs l → Builds nodes (set built e.class (Some e.ident)) fs l
Builds-put nodes built e fs l new NoFills = NoFills
Builds-put nodes built e fs l new (MoreFills f k t gs r p q b) =
    MoreFills f k t gs r p (built-put k built e t new q) (Builds-put nodes built e gs r new b)

-- ---- holes and modules of a class

term-hole : (i : Ident) (n : Text) → term_hole i ≡ Some n → i ≡ Hole n
term-hole (Hole m) n e = ap Hole (same_Some m n e)
term-hole (Module' s r m) n e = cc

class-hole : (k : ℕ) (x : Node) (n : Text) → class_hole k x ≡ Some n → (x.ident ≡ Hole n) × (x.class ≡ k)
class-hole k x n = by (nat_eq x.class k) refl
  where
    by : (b : Bool) → nat_eq x.class k ≡ b → cond (nat_eq x.class k) (term_hole x.ident) None ≡ Some n
        → (x.ident ≡ Hole n) × (x.class ≡ k)
    by true d e = (term-hole x.ident n (ap (λ b. cond b (term_hole x.ident) None) (sym d) ∙ e), eqb-true x.class k d)
    by false d e = let f : None ≡ Some n = ap (λ b. cond b (term_hole x.ident) None) (sym d) ∙ e in cc

hole-class : (k : ℕ) (nodes : List Node) (n : Text) → In nodes (Hole n) k → Among (Some n) (map (class_hole k) nodes)
hole-class k nodes n (x, h, i, c) =
    let e : class_hole k x ≡ Some n = ap (λ b. cond b (term_hole x.ident) None) (eq-eqb x.class k c) ∙ ap term_hole i in
    subst (λ o. Among o (map (class_hole k) nodes)) e (among-map (class_hole k) x nodes h)

pub least-hole : (k : ℕ) (nodes : List Node) (n : Text) → least_hole k nodes ≡ Some n
    → In nodes (Hole n) k × ((m : Text) → In nodes (Hole m) k → Before m n → ⊥)
least-hole k nodes n e =
    let l = least-of (map (class_hole k) nodes) n e in
    let x = among-image (class_hole k) (Some n) nodes l.0 in
    let c = class-hole k x.0 n x.2 in
    ((x.0, x.1, c.0, c.1), λ m h. l.1 m (hole-class k nodes m h))

pub no-least : (k : ℕ) (nodes : List Node) → least_hole k nodes ≡ None → (n : Text) → In nodes (Hole n) k → ⊥
no-least k nodes e n p = least-of-none (map (class_hole k) nodes) e n (hole-class k nodes n p)

has-module : (k : ℕ) (nodes : List Node) (u : OfUnit) (m : Text) → In nodes (Module u m) k → has_module k nodes ≡ true
has-module k [] u m (x, h, i, c) = absurd h
has-module k (y ∷ ys) u m (x, inl e, i, c) =
    let one : nat_eq y.class k ≡ true = eq-eqb y.class k (ap (λ v. v.class) e ∙ c) in
    let kind : is_module y.ident ≡ true = ap is_module (ap (λ v. v.ident) e ∙ i) ∙ is_module-Module u m in
    (λ w. (one w && kind w) || has_module k ys)
has-module k (y ∷ ys) u m (x, inr h, i, c) = or_right (nat_eq y.class k && is_module y.ident) (has_module k ys)
    (has-module k ys u m (x, h, i, c))

-- a module of a class that has one
pub find-module : (k : ℕ) (nodes : List Node) → has_module k nodes ≡ true
    → (u : OfUnit) × (m : Text) × In nodes (Module u m) k
find-module k [] e = cc
find-module k (y ∷ ys) e = by (nat_eq y.class k) (is_module y.ident) refl refl e (find-module k ys)
  where
    by : (a b : Bool) → nat_eq y.class k ≡ a → is_module y.ident ≡ b → (a && b) || has_module k ys ≡ true
        → (has_module k ys ≡ true → (u : OfUnit) × (m : Text) × In ys (Module u m) k)
        → (u : OfUnit) × (m : Text) × In (y ∷ ys) (Module u m) k
    by true true p q f r = let x = module-of y.ident q in (x.0, x.1, (y, inl refl, x.2, eqb-true y.class k p))
    by true false p q f r = let x = r f in (x.0, x.1, (x.2.0, inr x.2.1, x.2.2, x.2.3))
    by false b p q f r = let x = r f in (x.0, x.1, (x.2.0, inr x.2.1, x.2.2, x.2.3))

-- ---- one entry more

ready-is : (nodes : List Node) (built : List (Option Ident)) (k : ℕ) (a t : Ident) → In nodes a k
    → term_ready nodes built k a ≡ Some t → IsEntry nodes built k t
ready-is nodes built k (Hole n) t p e = by (has_module k nodes) refl
  where
    hole : (o : Option Text) → least_hole k nodes ≡ o → hole_of o ≡ Some t → has_module k nodes ≡ false
        → IsEntry nodes built k t
    hole None q f g = cc
    hole (Some m) q f g =
        let l = least-hole k nodes m q in
        inl (record {
          name = m;
          is = sym (same_Some (Hole m) t f);
          listed = l.0;
          first = l.1;
          no_module = λ u x h. let z : true ≡ false = sym (has-module k nodes u x h) ∙ g in cc;
        })

    by : (b : Bool) → has_module k nodes ≡ b → IsEntry nodes built k t
    by true d = let f : None ≡ Some t = ap (λ b. cond b None (hole_of (least_hole k nodes))) (sym d) ∙ e in cc
    by false d = hole (least_hole k nodes) refl (ap (λ b. cond b None (hole_of (least_hole k nodes))) (sym d) ∙ e) d
ready-is nodes built k (Module' s (more_of-Unit u end_of-Unit) m) t p e =
    by (fills_built nodes built (out-Unit u).fills) refl
  where
    by : (o : Option (List Fill)) → fills_built nodes built (out-Unit u).fills ≡ o → IsEntry nodes built k t
    by None q = let f : None ≡ Some t = ap (module_of u m) (sym q) ∙ e in cc
    by (Some l) q = inr (record {
      unit = u;
      name = m;
      fills = l;
      listed = subst (λ v. In nodes v k) (Module-is s u m) p;
      builds = fills-build nodes built (out-Unit u).fills l q;
      is = sym (same_Some (made u l m) t (ap (module_of u m) (sym q) ∙ e));
    })

-- a class that is not built, and what it is
pub record IsReady (nodes : List Node) (built : List (Option Ident)) (e : ClassBuilt) : Type 0 where
  pub new : built_at e.class built ≡ None
  pub is : IsEntry nodes built e.class e.ident
  pub listed : (a : Ident) × In nodes a e.class

pub node-ready : (nodes : List Node) (built : List (Option Ident)) (x : Node) (e : ClassBuilt) → Among x nodes
    → node_ready nodes built x ≡ Some e → IsReady nodes built e
node-ready nodes built x e h = by (built_at x.class built) (term_ready nodes built x.class x.ident) refl refl
  where
    by : (o r : Option Ident) → built_at x.class built ≡ o → term_ready nodes built x.class x.ident ≡ r
        → entry_of x.class (built_at x.class built) (term_ready nodes built x.class x.ident) ≡ Some e
        → IsReady nodes built e
    by (Some t) r p q f = let g : None ≡ Some e = ap (λ o. entry_of x.class o (term_ready nodes built x.class x.ident))
        (sym p) ∙ f in cc
    by None None p q f = let g : None ≡ Some e = (λ w. entry_of x.class (sym p w) (sym q w)) ∙ f in cc
    by None (Some t) p q f =
        let is : record { class = x.class; ident = t } ≡ e =
        same_Some _ e ((λ w. entry_of x.class (sym p w) (sym q w)) ∙ f) in
        subst (IsReady nodes built) is (record {
          new = p;
          is = ready-is nodes built x.class x.ident t (x, h, refl, refl) q;
          listed = (x.ident, (x, h, refl, refl));
        })

pub or-either : {A : Type 0} (a b : Option A) (o : A) → option_or a b ≡ Some o → (a ≡ Some o) ⊎ (b ≡ Some o)
or-either None b o e = inr e
or-either (Some x) b o e = inl e

or-neither : {A : Type 0} (a b : Option A) → option_or a b ≡ None → (a ≡ None) × (b ≡ None)
or-neither None b e = (refl, e)
or-neither (Some x) b e = cc

first-in : (nodes : List Node) (built : List (Option Ident)) (rest : List Node) (e : ClassBuilt)
    → ((x : Node) → Among x rest → Among x nodes) → first_ready nodes built rest ≡ Some e → IsReady nodes built e
first-in nodes built [] e inside f = cc
first-in nodes built (x ∷ rest) e inside f = elim (or-either (node_ready nodes built x)
    (first_ready nodes built rest) e f) [
      | inl a ↦ node-ready nodes built x e (inside x (inl refl)) a
      | inr b ↦ first-in nodes built rest e (λ y h. inside y (inr h)) b
    ]

pub first-ready : (nodes : List Node) (built : List (Option Ident)) (e : ClassBuilt)
    → first_ready nodes built nodes ≡ Some e
    → IsReady nodes built e
first-ready nodes built e f = first-in nodes built nodes e (λ x h. h) f

pub none-in : (nodes : List Node) (built : List (Option Ident)) (rest : List Node) → first_ready nodes built rest ≡ None
    → (x : Node) → Among x rest → node_ready nodes built x ≡ None
none-in nodes built [] f x h = absurd h
none-in nodes built (y ∷ rest) f x h = elim h [
  | inl e ↦ subst (λ z. node_ready nodes built z ≡ None) e
      (or-neither (node_ready nodes built y) (first_ready nodes built rest) f).0
  | inr g ↦ none-in nodes built rest (or-neither (node_ready nodes built y) (first_ready nodes built rest) f).1 x g
]

-- ---- what is built keeps

none-at : (n k : ℕ) → built_at k (replicate n None) ≡ None
none-at n k = by (nat_lt k n) refl
  where
    by : (b : Bool) → nat_lt k n ≡ b → built_at k (replicate n None) ≡ None
    by true d = get_or-replicate n k None None (ltb-true k n d)
    by false d = get_or_past (replicate n None) k None (let a = ltb-false k n d in
        let b = length-replicate {A = Option Ident} n None in omega (arith, a, b))

pub no-entries : (es : List Equation) (nodes : List Node) (n : ℕ) → IsFaithful es nodes (replicate n None)
no-entries es nodes n = record {
  entries = λ k t e. absurd (not-both (built_at k (replicate n None)) t e (none-at n k));
  general = λ g u k a t e p. absurd (not-both (built_at k (replicate n None)) t e (none-at n k));
}

entry-put : (nodes : List Node) (built : List (Option Ident)) (e : ClassBuilt) (k : ℕ) (t : Ident) → IsNew built e.class
    → IsEntry nodes built k t → IsEntry nodes (set built e.class (Some e.ident)) k t
entry-put nodes built e k t new (inl h) = inl h
entry-put nodes built e k t new (inr m) = inr (record {
  unit = m.unit;
  name = m.name;
  fills = m.fills;
  listed = m.listed;
  builds = Builds-put nodes built e (out-Unit m.unit).fills m.fills new m.builds;
  is = m.is;
})

module _ (es : List Equation) (nodes : List Node) (table : IsTable es nodes) where
  module _ (built : List (Option Ident)) (st : IsFaithful es nodes built) (g : List Fill) (u : IsUnifier es g) where
    Builds-filled : (fs l : List Fill) → Builds nodes built fs l → composed l g ≡ composed fs g
    Builds-filled fs l NoFills = refl
    Builds-filled fs l (MoreFills f k t gs r p q b) =
        let first = st.general g u k f.ident t q (class_at-found f.ident nodes k p) in
        let rest = Builds-filled gs r b in
        λ w. record { hole = f.hole; ident = first w } ∷ rest w

    entry-filled : (k : ℕ) (a t : Ident) → IsEntry nodes built k t → In nodes a k → filled t g ≡ filled a g
    entry-filled k a t (inl h) p = ap (λ v. filled v g) h.is
        ∙ Same-filled es g u (Hole h.name) a (sound-In es nodes table (Hole h.name) a k h.listed p)
    entry-filled k a t (inr m) p =
        ap (λ v. filled v g) m.is
        ∙ filled-Module (roll-Unit (record { component = (out-Unit m.unit).component; fills = m.fills })) m.name g
        ∙ ap (λ v. Module v m.name) (filled_unit-roll (out-Unit m.unit).component m.fills g
        ∙ ap (λ l. roll-Unit (record { component = (out-Unit m.unit).component; fills = l }))
        (Builds-filled (out-Unit m.unit).fills m.fills m.builds) ∙ sym (filled_unit-out m.unit g))
        ∙ sym (filled-Module m.unit m.name g)
        ∙ Same-filled es g u (Module m.unit m.name) a (sound-In es nodes table (Module m.unit m.name) a k m.listed p)

  pub stands-put : (built : List (Option Ident)) (e : ClassBuilt) → IsFaithful es nodes built → IsReady nodes built e
      → e.class < length built → IsFaithful es nodes (set built e.class (Some e.ident))
  stands-put built e st r lt = record {
    entries = λ k t p. entry-put nodes built e k t new (entries k t (built-after k built e t new p));
    general = λ g u k a t p q. general g u k a t (built-after k built e t new p) q;
  }
    where
      new : IsNew built e.class
      new = record { within = lt; none = r.new }

      entries : (k : ℕ) (t : Ident) → (built_at k built ≡ Some t) ⊎ ((e.class ≡ k) × (e.ident ≡ t))
          → IsEntry nodes built k t
      entries k t (inl p) = st.entries k t p
      entries k t (inr (c, i)) = subst (λ x. IsEntry nodes built x t) c
          (subst (λ x. IsEntry nodes built e.class x) i r.is)

      general : (g : List Fill) → IsUnifier es g → (k : ℕ) (a t : Ident)
          → (built_at k built ≡ Some t) ⊎ ((e.class ≡ k) × (e.ident ≡ t)) → In nodes a k → filled t g ≡ filled a g
      general g u k a t (inl p) q = st.general g u k a t p q
      general g u k a t (inr (c, i)) q = ap (λ x. filled x g) (sym i)
          ∙ entry-filled built st g u e.class a e.ident r.is (subst (λ x. In nodes a x) (sym c) q)

-- ---- building ends

pub missing : Option Ident → ℕ
missing None = 1
missing (Some t) = 0

-- how many nodes are not built
pub unbuilt : List Node → List (Option Ident) → ℕ
unbuilt [] built = 0
unbuilt (x ∷ xs) built = missing (built_at x.class built) + unbuilt xs built

missing-less : (built : List (Option Ident)) (e : ClassBuilt) (k : ℕ) → IsNew built e.class
    → missing (built_at k (set built e.class (Some e.ident))) ≤ missing (built_at k built)
unfolding missing
missing-less built e k new = by (built_at k built) refl (built_at k (set built e.class (Some e.ident))) refl
  where
    by : (o : Option Ident) → built_at k built ≡ o → (r : Option Ident)
        → built_at k (set built e.class (Some e.ident)) ≡ r
        → missing (built_at k (set built e.class (Some e.ident))) ≤ missing (built_at k built)
    by (Some t) p r q = let x : missing (built_at k (set built e.class (Some e.ident))) ≡ 0 =
        ap missing (built-put k built e t new p) in omega (arith, x)
    by None p (Some t) q = let x : missing (built_at k (set built e.class (Some e.ident))) ≡ 0 = ap missing q in
        omega (arith, x)
    by None p None q = let x : missing (built_at k (set built e.class (Some e.ident))) ≡ 1 = ap missing q in
        let y : missing (built_at k built) ≡ 1 = ap missing p in omega (arith, x, y)

unbuilt-less : (nodes : List Node) (built : List (Option Ident)) (e : ClassBuilt) → IsNew built e.class
    → unbuilt nodes (set built e.class (Some e.ident)) ≤ unbuilt nodes built
unfolding unbuilt
unbuilt-less [] built e new = omega arith
unbuilt-less (x ∷ xs) built e new = let a = missing-less built e x.class new in let b = unbuilt-less xs built e new in
    omega (arith, a, b)

unbuilt-falls : (nodes : List Node) (built : List (Option Ident)) (e : ClassBuilt) (a : Ident) → In nodes a e.class
    → IsNew built e.class → unbuilt nodes (set built e.class (Some e.ident)) < unbuilt nodes built
unfolding unbuilt missing
unbuilt-falls [] built e a (x, h, i, c) n = absurd h
unbuilt-falls (y ∷ ys) built e a (x, inl is, i, c) n =
    let class : y.class ≡ e.class = ap (λ v. v.class) is ∙ c in
    let old : missing (built_at y.class built) ≡ 1 = ap missing (ap (λ k. built_at k built) class ∙ n.none) in
    let new : missing (built_at y.class (set built e.class (Some e.ident))) ≡ 0 =
    ap missing (ap (λ k. built_at k (set built e.class (Some e.ident))) class
    ∙ built-here built e.class e.ident n.within) in
    let b = unbuilt-less ys built e n in omega (arith, old, new, b)
unbuilt-falls (y ∷ ys) built e a (x, inr h, i, c) n = let p = missing-less built e y.class n in
    let q = unbuilt-falls ys built e a (x, h, i, c) n in omega (arith, p, q)

pub ready-falls : (nodes : List Node) (built : List (Option Ident)) (e : ClassBuilt) → IsReady nodes built e
    → e.class < length built → unbuilt nodes (set built e.class (Some e.ident)) < unbuilt nodes built
ready-falls nodes built e r lt = unbuilt-falls nodes built e r.listed.0 r.listed.1
    (record { within = lt; none = r.new })

-- the class of a ready entry has a place
ready-within : (es : List Equation) (nodes : List Node)
    → IsTable es nodes → (built : List (Option Ident)) (e : ClassBuilt)
    → length built ≡ length nodes → IsReady nodes built e → e.class < length built
ready-within es nodes table built e len r = let p = r.listed.1 in let lt = table.below p.0 p.1 in let c = p.3 in
    omega (arith, lt, c, len)

-- building comes to an end
pub build-ends : (es : List Equation) (nodes : List Node) → IsTable es nodes → (n : ℕ) (built : List (Option Ident))
    → length built ≡ length nodes → unbuilt nodes built ≤ n → IsFaithful es nodes built
    → (all : List (Option Ident)) × IsFaithful es nodes all × (first_ready nodes all nodes ≡ None)
build-ends es nodes table zero built len le st = by (first_ready nodes built nodes) refl
  where
    by : (o : Option ClassBuilt) → first_ready nodes built nodes ≡ o
        → (all : List (Option Ident)) × IsFaithful es nodes all × (first_ready nodes all nodes ≡ None)
    by None e = (built, st, e)
    by (Some x) e =
        let ready = first-ready nodes built x e in
        absurd (let f = ready-falls nodes built x ready (ready-within es nodes table built x len ready) in
        omega (arith, f, le))
build-ends es nodes table (suc n) built len le st =
    by (first_ready nodes built nodes) refl (λ b k l s. build-ends es nodes table n b k l s)
  where
    by : (o : Option ClassBuilt) → first_ready nodes built nodes ≡ o
        → ((b : List (Option Ident)) → length b ≡ length nodes → unbuilt nodes b ≤ n → IsFaithful es nodes b
        → (all : List (Option Ident)) × IsFaithful es nodes all × (first_ready nodes all nodes ≡ None))
        → (all : List (Option Ident)) × IsFaithful es nodes all × (first_ready nodes all nodes ≡ None)
    by None e r = (built, st, e)
    by (Some x) e r =
        let ready = first-ready nodes built x e in
        let lt = ready-within es nodes table built x len ready in
        r (set built x.class (Some x.ident)) (length-set built x.class (Some x.ident)
        ∙ len) (let f = ready-falls nodes built x ready lt in
        omega (arith, f, le)) (stands-put es nodes table built x st ready lt)
