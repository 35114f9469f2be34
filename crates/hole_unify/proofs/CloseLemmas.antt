-- Closing: what a step keeps, and that the steps end.
use Rattle.std.proofs.Common.{◌≡◌, ◌≢◌, ℕ, zero, suc, ◌+◌, ◌<◌, ◌≤◌, Bool, true, false, ◌&&◌, cond, nat_eq, nat_lt}
use Rattle.std.proofs.Common.{List, [], ◌∷◌, ◌++◌, length, map, ◌⊎◌, inl, inr, refl, sym, ap, ◌∙◌, subst, arith}
use Rattle.std.proofs.Common.{length-append, append-nil}
use Rattle.std.proofs.lemmas.Bool.{eqb-true, eq-eqb, ltb-true, ltb-false}
use Rattle.std.proofs.lemmas.List.{map-append}
use Rattle.std.specs.Prelude.{Option, Some, None, option_to_list}
use Rattle.std.specs.Str.{bytes_eq}
use Rattle.std.proofs.lemmas.Option.{same_Some}
use Rattle.bp_base.proofs.SetLemmas.{among-left, among-right, among-either}
use Rattle.bp_base.specs.declared.ident.Ident.{Ident}
use Rattle.bp_base.specs.declared.ident.Ident.TheVariants.{Hole, Module, Module'}
use Rattle.bp_base.specs.declared.ident.Unit.{Unit as OfUnit, out-Unit}
use Rattle.bp_base.specs.declared.ident.Fill.{Fill}
use Rattle.bp_base.specs.declared.ident.Ident.TheBlock.{end_of-Unit, more_of-Unit}
use Rattle.bp_base.specs.Lists.{Among}
use Rattle.bp_base.specs.Texts.{Text}
use Rattle.bp_base.proofs.TextLemmas.{same_texts, other_texts}
use Rattle.unit_identity.specs.Fill.{found}
use Rattle.hole_unify.specs.declared.equation.Equation.{Equation}
use Rattle.hole_unify.specs.declared.equation.Head.{Head}
use Rattle.hole_unify.specs.declared.pair.NumberPair.{NumberPair}
use Rattle.ident_table.specs.Numbers.{ident_of, IsIdentTable}
use Rattle.hole_unify.specs.Causes.{IsLawful, holes_of}
use Rattle.hole_unify.specs.Classes.{Same, Stated, Turned, Joined, AtHole, HasHeads, head_of}
use Rattle.hole_unify.specs.Table.{Node, HasTerms, class_at, is_module, moved, nodes_of, terms_in, upto}
use Rattle.hole_unify.specs.Tables.{In, One, IsTable}
use Rattle.hole_unify.specs.Close.{Pair, fill_pair, fills_pairs, units_pairs, units_heads, terms_pairs, terms_heads}
use Rattle.hole_unify.specs.Close.{module_at, modules_pairs, modules_heads, classes_pairs, classes_heads, classes_moved}
use Rattle.hole_unify.specs.Close.{stated_pairs, IsSettled, pair_of, pairs_of, ArePairsBelow}
use Rattle.hole_unify.proofs.UnifyingLemmas.{Module-unit, Module-name}
use Rattle.hole_unify.proofs.TermLemmas.{is_module-Module}
use Rattle.hole_unify.proofs.TableLemmas.{class_at-found, renumbered-cases, In-unmoved, One-moved, One-joined, sound-In}
use Rattle.hole_unify.proofs.TableLemmas.{moved-table, listed-class, left-listed, right-listed, fill-listed}
use Rattle.hole_unify.proofs.OpeningLemmas.{terms_pairs-Modules, terms_heads-Modules}
use Rattle.hole_unify.proofs.GapLemmas.{total, moved-falls}
use Rattle.hole_unify.proofs.UnitLemmas.{listed-unit, module-of}
use Rattle.hole_unify.proofs.NumberingLemmas.{first-table, first-apart}

-- ---- what two units of one component have at a hole

-- where one has a fill, so has the other
same-found : (us vs : List Fill) (h : Text) (i : Ident) → map (λ f. f.hole) us ≡ map (λ f. f.hole) vs
    → found h us ≡ Some i → (j : Ident) × (found h vs ≡ Some j)
same-found [] vs h i e f = cc
same-found (x ∷ us) [] h i e f = let y : x.hole ∷ map (λ z. z.hole) us ≡ List.[] = e in cc
same-found (x ∷ us) (y ∷ vs) h i e f = by (bytes_eq x.hole h) (bytes_eq y.hole h) refl refl f
    (λ g. same-found us vs h i rest g)
  where
    first : x.hole ≡ y.hole
    first = let d : x.hole ∷ map (λ z. z.hole) us ≡ y.hole ∷ map (λ z. z.hole) vs = e in cc

    rest : map (λ z. z.hole) us ≡ map (λ z. z.hole) vs
    rest = let d : x.hole ∷ map (λ z. z.hole) us ≡ y.hole ∷ map (λ z. z.hole) vs = e in cc

    by : (b c : Bool) → bytes_eq x.hole h ≡ b → bytes_eq y.hole h ≡ c → cond b (Some x.ident) (found h us) ≡ Some i
        → (found h us ≡ Some i → (j : Ident) × (found h vs ≡ Some j))
        → (j : Ident) × (cond c (Some y.ident) (found h vs) ≡ Some j)
    by true true p q g r = (y.ident, refl)
    by true false p q g r = let d : true ≡ false = sym p ∙ ap (λ z. bytes_eq z h) first ∙ q in cc
    by false true p q g r = (y.ident, refl)
    by false false p q g r = r g

pair-among : (ours theirs fs : List Fill) (h : Text) (i j k : Ident) → found h fs ≡ Some k → found h ours ≡ Some i
    → found h theirs ≡ Some j → Among (record { one = i; other = j }) (fills_pairs ours theirs fs)
pair-among ours theirs [] h i j k e p q = cc
pair-among ours theirs (x ∷ fs) h i j k e p q = by (bytes_eq x.hole h) refl e
    (λ g. pair-among ours theirs fs h i j k g p q)
  where
    pair : Pair
    pair = record { one = i; other = j }

    by : (b : Bool) → bytes_eq x.hole h ≡ b → cond b (Some x.ident) (found h fs) ≡ Some k
        → (found h fs ≡ Some k → Among pair (fills_pairs ours theirs fs))
        → Among pair (fills_pairs ours theirs (x ∷ fs))
    by true d g r =
        let is = same_texts x.hole h d in
        let first : fill_pair (found x.hole ours) (found x.hole theirs) ≡ pair ∷ [] =
        (λ w. fill_pair ((ap (λ z. found z ours) is ∙ p) w) ((ap (λ z. found z theirs) is ∙ q) w)) in
        among-left pair (fill_pair (found x.hole ours) (found x.hole theirs)) _
        (subst (λ l. Among pair l) (sym first) (inl refl))
    by false d g r = among-right pair (fill_pair (found x.hole ours) (found x.hole theirs)) _ (r g)

-- a pair of fills at one hole
record AtOne (us vs : List Fill) (p : Pair) : Type 0 where
  hole : Text
  left : found hole us ≡ Some p.one
  right : found hole vs ≡ Some p.other

among-pair : (ours theirs fs : List Fill) (p : Pair) → Among p (fills_pairs ours theirs fs) → AtOne ours theirs p
among-pair ours theirs [] p a = absurd a
among-pair ours theirs (x ∷ fs) p a = elim (among-either p (fill_pair (found x.hole ours) (found x.hole theirs)) _ a) [
  | inl b ↦ by (found x.hole ours) (found x.hole theirs) refl refl b
  | inr c ↦ among-pair ours theirs fs p c
]
  where
    by : (o q : Option Ident) → found x.hole ours ≡ o → found x.hole theirs ≡ q → Among p (fill_pair o q)
        → AtOne ours theirs p
    by None q d e b = absurd b
    by (Some i) None d e b = absurd b
    by (Some i) (Some j) d e (inl is) = record {
      hole = x.hole;
      left = d ∙ ap (λ z. Some z.one) is;
      right = e
          ∙ ap (λ z. Some z.other) is;
    }
    by (Some i) (Some j) d e (inr n) = absurd n

-- two units whose heads are one
record Alike (u v : OfUnit) (m n : Text) : Type 0 where
  component : (out-Unit u).component ≡ (out-Unit v).component
  name : m ≡ n
  pairs : units_pairs u m v n ≡ fills_pairs (out-Unit u).fills (out-Unit v).fills (out-Unit u).fills

-- the heads of two modules
abbrev two : OfUnit → Text → OfUnit → Text → Option (Head × Head)
two u m v n = Some (head_of u m, head_of v n)

units-alike : (u v : OfUnit) (m n : Text) → units_heads u m v n ≡ None → Alike u v m n
units-alike u v m n e = by (bytes_eq (out-Unit u).component (out-Unit v).component) (bytes_eq m n) refl refl e
  where
    by : (b c : Bool) → bytes_eq (out-Unit u).component (out-Unit v).component ≡ b → bytes_eq m n ≡ c
        → cond (b && c) None (two u m v n) ≡ None → Alike u v m n
    by true true p q f = record {
      component = same_texts _ _ p;
      name = same_texts m n q;
      pairs = λ w. cond (p w && q w) (fills_pairs (out-Unit u).fills (out-Unit v).fills (out-Unit u).fills) [];
    }
    by true false p q f = cc
    by false c p q f = cc

units-clash : (u v : OfUnit) (m n : Text) (h : Head × Head) → units_heads u m v n ≡ Some h
    → (h.0 ≢ h.1) × (head_of u m ≡ h.0) × (head_of v n ≡ h.1)
units-clash u v m n h e = by (bytes_eq (out-Unit u).component (out-Unit v).component) (bytes_eq m n) refl refl e
  where
    is : two u m v n ≡ Some h → (head_of u m ≡ h.0) × (head_of v n ≡ h.1)
    is f = let pair : Head × Head = (head_of u m, head_of v n) in let g : pair ≡ h = same_Some pair h f in
        (ap (λ z. z.0) g, ap (λ z. z.1) g)

    by : (b c : Bool) → bytes_eq (out-Unit u).component (out-Unit v).component ≡ b → bytes_eq m n ≡ c
        → cond (b && c) None (two u m v n) ≡ Some h → (h.0 ≢ h.1) × (head_of u m ≡ h.0) × (head_of v n ≡ h.1)
    by true true p q f = cc
    by true false p q f = let g = is f in (λ d. other_texts m n q (ap (λ x. x.«module») (g.0 ∙ d ∙ sym g.1)), g.0, g.1)
    by false c p q f = let g = is f in (λ d. other_texts _ _ p (ap (λ x. x.component) (g.0 ∙ d ∙ sym g.1)), g.0, g.1)

-- ---- the first module of a class

-- a module of a class is found, and what is found is one
record IsModuleAt (nodes : List Node) (k : ℕ) (a : Ident) : Type 0 where
  unit : OfUnit
  name : Text
  is : a ≡ Module unit name
  listed : In nodes (Module unit name) k

module-found : (k : ℕ) (nodes : List Node) (a : Ident) → module_at k nodes ≡ Some a → IsModuleAt nodes k a
module-found k [] a e = cc
module-found k (x ∷ xs) a e = by (nat_eq x.class k) (is_module x.ident) refl refl e (module-found k xs a)
  where
    more : IsModuleAt xs k a → IsModuleAt (x ∷ xs) k a
    more r = record {
      unit = r.unit;
      name = r.name;
      is = r.is;
      listed = (r.listed.0, inr r.listed.1, r.listed.2, r.listed.3);
    }

    by : (b c : Bool) → nat_eq x.class k ≡ b → is_module x.ident ≡ c
        → cond (b && c) (Some x.ident) (module_at k xs) ≡ Some a → (module_at k xs ≡ Some a → IsModuleAt xs k a)
        → IsModuleAt (x ∷ xs) k a
    by true true p q f r = let o = module-of x.ident q in
        record {
          unit = o.0;
          name = o.1;
          is = sym (same_Some x.ident a f) ∙ o.2;
          listed = (x, inl refl, o.2, eqb-true x.class k p);
        }
    by true false p q f r = more (r f)
    by false c p q f r = more (r f)

module-first : (k : ℕ) (nodes : List Node) (u : OfUnit) (m : Text) → In nodes (Module u m) k
    → (a : Ident) × (module_at k nodes ≡ Some a)
module-first k [] u m p = absurd p.1
module-first k (x ∷ xs) u m (y, h, i, c) = by (nat_eq x.class k && is_module x.ident) refl h
    (λ g. module-first k xs u m (y, g, i, c))
  where
    by : (b : Bool) → nat_eq x.class k && is_module x.ident ≡ b → (x ≡ y) ⊎ Among y xs
        → (Among y xs → (a : Ident) × (module_at k xs ≡ Some a))
        → (a : Ident) × (cond b (Some x.ident) (module_at k xs) ≡ Some a)
    by true d g r = (x.ident, refl)
    by false d (inr g) r = r g
    by false d (inl e) r =
        let class : nat_eq x.class k ≡ true = eq-eqb x.class k (ap (λ z. z.class) e ∙ c) in
        let kind : is_module x.ident ≡ true = ap is_module (ap (λ z. z.ident) e ∙ i) ∙ is_module-Module u m in
        let f : true ≡ false = (λ w. sym class w && sym kind w) ∙ d in cc

-- ---- classes and what waits

-- made one by the classes and the pairs that wait
pub data Linked (nodes : List Node) (pending : List Pair) : Ident → Ident → Type 0 where
  Equal : (a : Ident) → Linked nodes pending a a
  Here : (a b : Ident) → One nodes a b → Linked nodes pending a b
  Waits : (p : Pair) → Among p pending → Linked nodes pending p.one p.other
  Back : (a b : Ident) → Linked nodes pending a b → Linked nodes pending b a
  On : (a b c : Ident) → Linked nodes pending a b → Linked nodes pending b c → Linked nodes pending a c

Linked-map : (nodes new : List Node) (pending then : List Pair) → ((a b : Ident) → One nodes a b → One new a b)
    → ((p : Pair) → Among p pending → Linked new then p.one p.other) → (a b : Ident) → Linked nodes pending a b
    → Linked new then a b
Linked-map nodes new pending then one pair a b (Equal x) = Equal x
Linked-map nodes new pending then one pair a b (Here x y o) = Here x y (one x y o)
Linked-map nodes new pending then one pair a b (Waits p h) = pair p h
Linked-map nodes new pending then one pair a b (Back x y l) =
    Back x y (Linked-map nodes new pending then one pair x y l)
Linked-map nodes new pending then one pair a b (On x y z l m) =
    On x y z (Linked-map nodes new pending then one pair x y l) (Linked-map nodes new pending then one pair y z m)

-- the relation that the equations generate is that of the classes and of the pairs that wait
pub record IsClosing (es : List Equation) (nodes : List Node) (pending : List Pair) : Type 0 where
  pub table : IsTable es nodes
  pub sound : (p : Pair) → Among p pending → Same es p.one p.other
  pub listed : (p : Pair) → Among p pending → Among p.one (terms_in es) × Among p.other (terms_in es)
  pub stated : (e : Equation) → Among e es → Linked nodes pending e.left e.right
  pub heads : (u v : OfUnit) (m n : Text) (k : ℕ) → In nodes (Module u m) k → In nodes (Module v n) k
      → ((out-Unit u).component ≡ (out-Unit v).component) × (m ≡ n)
  pub fills : (u v : OfUnit) (m n h : Text) (k : ℕ) (i j : Ident) → In nodes (Module u m) k → In nodes (Module v n) k
      → found h (out-Unit u).fills ≡ Some i → found h (out-Unit v).fills ≡ Some j → Linked nodes pending i j

-- ---- at the start

stated-among : (es : List Equation) (e : Equation) → Among e es
    → Among (record { one = e.left; other = e.right }) (stated_pairs es)
stated-among [] e h = absurd h
stated-among (x ∷ es) e (inl is) = among-right _ (stated_pairs es) _
    (inl (λ w. record { one = (is w).left; other = (is w).right }))
stated-among (x ∷ es) e (inr h) = among-left _ (stated_pairs es) _ (stated-among es e h)

among-stated : (es : List Equation) (p : Pair) → Among p (stated_pairs es)
    → (e : Equation) × Among e es × (record { one = e.left; other = e.right } ≡ p)
among-stated [] p h = absurd h
among-stated (x ∷ es) p h = elim (among-either p (stated_pairs es) _ h) [
  | inl a ↦ let r = among-stated es p a in (r.0, inr r.1, r.2)
  | inr b ↦ elim b [ inl is ↦ (x, inl refl, is) | inr n ↦ absurd n ]
]

pub closing-start : (es : List Equation) (table : List Ident) → IsIdentTable table → HasTerms es table
    → IsClosing es (nodes_of table (upto (length table))) (stated_pairs es)
closing-start es table t terms = record {
  table = first-table es table t terms;
  sound = λ p h. let r = among-stated es p h in subst (λ z. Same es z.one z.other) r.2 (Stated r.0 r.1);
  listed = λ p h. let r = among-stated es p h in subst (λ z. Among z.one (terms_in es)
      × Among z.other (terms_in es)) r.2 (left-listed es r.0 r.1, right-listed es r.0 r.1);
  stated = λ e h. Waits (record { one = e.left; other = e.right }) (stated-among es e h);
  heads = λ u v m n k p q. let e = first-apart table (Module u m) (Module v n) k p q in
      (ap (λ z. (out-Unit z).component) (Module-unit u v m n e), Module-name u v m n e);
  fills = λ u v m n h k i j p q f g.
      let e = Module-unit u v m n (first-apart table (Module u m) (Module v n) k p q) in
      let is : i ≡ j = same_Some i j (sym f ∙ ap (λ z. found h (out-Unit z).fills) e ∙ g) in
      subst (λ z. Linked (nodes_of table (upto (length table))) (stated_pairs es) i z) is (Equal i);
}

-- ---- at the end

linked-end : (nodes : List Node) → ((t : Ident) (k l : ℕ) → In nodes t k → In nodes t l → k ≡ l) → (a b : Ident)
    → Linked nodes [] a b → (a ≡ b) ⊎ One nodes a b
linked-end nodes one a b (Equal x) = inl refl
linked-end nodes one a b (Here x y o) = inr o
linked-end nodes one a b (Waits p h) = absurd h
linked-end nodes one a b (Back x y l) = elim (linked-end nodes one x y l) [
  | inl e ↦ inl (sym e)
  | inr o ↦
      inr (o.0, o.2, o.1)
]
linked-end nodes one a b (On x y z l m) = elim (linked-end nodes one x y l) [
  | inl e ↦ elim (linked-end nodes one y z m) [
    | inl f ↦ inl (e ∙ f)
    | inr o ↦
        inr (subst (λ w. One nodes w z) (sym e) o)
  ]
  | inr o ↦ elim (linked-end nodes one y z m) [
    | inl f ↦ inr (subst (λ w. One nodes x w) f o)
    | inr q ↦
        inr (o.0, o.1, subst (λ w. In nodes z w) (one y q.0 o.0 q.1 o.2) q.2)
  ]
]

pub closing-end : (es : List Equation) (nodes : List Node) → IsClosing es nodes [] → IsSettled es nodes
closing-end es nodes c = record {
  joined = record {
    table = c.table;
    stated = λ e h. stated e h
        (linked-end nodes c.table.one e.left e.right (c.stated e h));
  };
  closed = record {
    heads = c.heads;
    fills = λ u v m n h k p q i j a b f g d e. fills p q i j
        (linked-end nodes c.table.one i j (c.fills u v m n h k i j a b f g)) d e;
  };
}
  where
    stated : (e : Equation) → Among e es → (e.left ≡ e.right) ⊎ One nodes e.left e.right → One nodes e.left e.right
    stated e h (inr o) = o
    stated e h (inl is) = let k = c.table.listed e.left (left-listed es e h) in
        (k.0, k.1, subst (λ z. In nodes z k.0) is k.1)

    fills : (p q : ℕ) (i j : Ident) → (i ≡ j) ⊎ One nodes i j → class_at i nodes ≡ Some p → class_at j nodes ≡ Some q
        → p ≡ q
    fills p q i j (inl is) d e = same_Some p q (sym d ∙ ap (λ z. class_at z nodes) is ∙ e)
    fills p q i j (inr o) d e = c.table.one i p o.0 (class_at-found i nodes p d) o.1
        ∙ c.table.one j o.0 q o.2 (class_at-found j nodes q e)

-- ---- two classes become one

module _ (es : List Equation) (lawful : IsLawful es) (nodes : List Node) (rest : List Pair) (p : Pair)
    (c : IsClosing es nodes (rest ++ p ∷ [])) where
  module _ (to from : ℕ) (x y : Ident) (px : In nodes x to) (py : In nodes y from) (same : Same es y x)
      (link : One (moved from to nodes) p.one p.other) where
    grown : (a b : Ident) → Linked nodes (rest ++ p ∷ []) a b
        → Linked (moved from to nodes) (rest ++ modules_pairs (module_at to nodes) (module_at from nodes)) a b
    grown = Linked-map nodes (moved from to nodes) (rest ++ p ∷ [])
        (rest ++ modules_pairs (module_at to nodes) (module_at from nodes)) (λ a b o. One-moved nodes from to a b o)
        (λ q h. kept q (among-either q rest (p ∷ []) h))
      where
        kept : (q : Pair) → Among q rest ⊎ Among q (p ∷ [])
            → Linked (moved from to nodes) (rest ++ modules_pairs (module_at to nodes) (module_at from nodes)) q.one
            q.other
        kept q (inl a) = Waits q (among-left q rest _ a)
        kept q (inr (inl e)) = subst (λ z. Linked (moved from to nodes)
            (rest ++ modules_pairs (module_at to nodes) (module_at from nodes)) z.one z.other) e
            (Here p.one p.other link)
        kept q (inr (inr n)) = absurd n

    -- terms of the two classes are the same
    across-same : (a b : Ident) → In nodes a to → In nodes b from → Same es a b
    across-same a b pa pb = Joined a x b (sound-In es nodes c.table a x to pa px)
        (Joined x y b (Turned y x same) (sound-In es nodes c.table y b from py pb))

    unit-listed : (u : OfUnit) (m : Text) (k : ℕ) → In nodes (Module u m) k → Among (Module u m) (terms_in es)
    unit-listed u m k q = subst (λ v. Among v (terms_in es)) q.2 (c.table.only q.0 q.1)

    holes-alike : (u v : OfUnit) (m n : Text) (k l : ℕ) → In nodes (Module u m) k → In nodes (Module v n) l
        → (out-Unit u).component ≡ (out-Unit v).component → holes_of u ≡ holes_of v
    holes-alike u v m n k l a b e = lawful.same_holes u v (listed-unit es u m (unit-listed u m k a))
        (listed-unit es v n (unit-listed v n l b)) e

    -- what the first modules of the two classes come to
    clash : (h : Head × Head) → modules_heads (module_at to nodes) (module_at from nodes) ≡ Some h → HasHeads es h.0 h.1
    clash h e = by (module_at to nodes) (module_at from nodes) refl refl e
      where
        of : (a b : Ident) → IsModuleAt nodes to a → IsModuleAt nodes from b → terms_heads a b ≡ Some h
            → HasHeads es h.0 h.1
        of a b ma mb f =
            let g : units_heads ma.unit ma.name mb.unit mb.name ≡ Some h =
            sym (terms_heads-Modules ma.unit mb.unit ma.name mb.name)
            ∙ (λ w. terms_heads (sym ma.is w) (sym mb.is w)) ∙ f in
            let d = units-clash ma.unit mb.unit ma.name mb.name h g in
            record {
              differ = d.0;
              class = (
                ma.unit,
                mb.unit,
                ma.name,
                mb.name,
                across-same (Module ma.unit ma.name) (Module mb.unit mb.name) ma.listed mb.listed,
                d.1,
                d.2,
              );
            }

        by : (o q : Option Ident) → module_at to nodes ≡ o → module_at from nodes ≡ q → modules_heads o q ≡ Some h
            → HasHeads es h.0 h.1
        by None q d f g = cc
        by (Some a) None d f g = cc
        by (Some a) (Some b) d f g = of a b (module-found to nodes a d) (module-found from nodes b f) g

    module _ (none : modules_heads (module_at to nodes) (module_at from nodes) ≡ None) where
      -- the first modules of the two classes
      record Firsts : Type 0 where
        one : OfUnit
        name : Text
        other : OfUnit
        name' : Text
        here : In nodes (Module one name) to
        there : In nodes (Module other name') from
        alike : Alike one other name name'
        pairs : modules_pairs (module_at to nodes) (module_at from nodes) ≡ fills_pairs (out-Unit one).fills
            (out-Unit other).fills (out-Unit one).fills

      firsts : (a b : Ident) → module_at to nodes ≡ Some a → module_at from nodes ≡ Some b → Firsts
      firsts a b d e =
          let ma = module-found to nodes a d in
          let mb = module-found from nodes b e in
          let heads : units_heads ma.unit ma.name mb.unit mb.name ≡ None =
          sym (terms_heads-Modules ma.unit mb.unit ma.name mb.name)
          ∙ (λ w. modules_heads ((ap Some (sym ma.is) ∙ sym d) w) ((ap Some (sym mb.is) ∙ sym e) w)) ∙ none in
          let alike = units-alike ma.unit mb.unit ma.name mb.name heads in
          let pairs : modules_pairs (module_at to nodes) (module_at from nodes) ≡ fills_pairs (out-Unit ma.unit).fills
          (out-Unit mb.unit).fills (out-Unit ma.unit).fills =
          (λ w. modules_pairs ((d ∙ ap Some ma.is) w) ((e ∙ ap Some mb.is) w))
          ∙ terms_pairs-Modules ma.unit mb.unit ma.name mb.name ∙ alike.pairs in
          record {
            one = ma.unit;
            name = ma.name;
            other = mb.unit;
            name' = mb.name;
            here = ma.listed;
            there = mb.listed;
            alike = alike;
            pairs = pairs;
          }

      -- the pairs that wait now
      record Good (q : Pair) : Type 0 where
        one_class : Same es q.one q.other
        one : Among q.one (terms_in es)
        other : Among q.other (terms_in es)

      more-good : (q : Pair) → Among q (modules_pairs (module_at to nodes) (module_at from nodes)) → Good q
      more-good q h = by (module_at to nodes) (module_at from nodes) refl refl h
        where
          of : Firsts → Good q
          of f =
              let a = among-pair (out-Unit f.one).fills (out-Unit f.other).fills (out-Unit f.one).fills q
              (subst (λ l. Among q l) f.pairs h) in
              let s : Same es (Module f.one f.name) (Module f.other f.name) =
              subst (λ n. Same es (Module f.one f.name) (Module f.other n)) (sym f.alike.name)
              (across-same (Module f.one f.name) (Module f.other f.name') f.here f.there) in
              record {
                one_class = AtHole f.one f.other f.name a.hole q.one q.other f.alike.component s a.left a.right;
                one = fill-listed es f.one f.name a.hole q.one (unit-listed f.one f.name to f.here) a.left;
                other = fill-listed es f.other f.name' a.hole q.other
                    (unit-listed f.other f.name' from f.there) a.right;
              }

          by : (o r : Option Ident) → module_at to nodes ≡ o → module_at from nodes ≡ r → Among q (modules_pairs o r)
              → Good q
          by None r d e g = absurd g
          by (Some a) None d e g = absurd g
          by (Some a) (Some b) d e g = of (firsts a b d e)

      all-good : (q : Pair) → Among q (rest ++ modules_pairs (module_at to nodes) (module_at from nodes)) → Good q
      all-good q h = elim (among-either q rest _ h) [
        | inl a ↦ let k = among-left q rest (p ∷ []) a in let l = c.listed q k in
            record { one_class = c.sound q k; one = l.0; other = l.1 }
        | inr b ↦ more-good q b
      ]

      -- a module of the one class and a module of the other one
      record Across (u v : OfUnit) (m n : Text) : Type 0 where
        heads : ((out-Unit u).component ≡ (out-Unit v).component) × (m ≡ n)
        fills : (h : Text) (i j : Ident) → found h (out-Unit u).fills ≡ Some i → found h (out-Unit v).fills ≡ Some j
            → Linked (moved from to nodes) (rest ++ modules_pairs (module_at to nodes) (module_at from nodes)) i j

      across : (u v : OfUnit) (m n : Text) → In nodes (Module u m) to → In nodes (Module v n) from → Across u v m n
      across u v m n a b =
          let o = module-first to nodes u m a in
          let q = module-first from nodes v n b in
          of (firsts o.0 q.0 o.1 q.1)
        where
          of : Firsts → Across u v m n
          of f =
              let left = c.heads u f.one m f.name to a f.here in
              let right = c.heads f.other v f.name' n from f.there b in
              record {
                heads = (left.0 ∙ f.alike.component ∙ right.0, left.1 ∙ f.alike.name ∙ right.1);
                fills = λ h i j d e.
                    let k = same-found (out-Unit u).fills (out-Unit f.one).fills h i
                    (holes-alike u f.one m f.name to to a f.here left.0) d in
                    let l = same-found (out-Unit v).fills (out-Unit f.other).fills h j
                    (holes-alike v f.other n f.name' from from b f.there (sym right.0)) e in
                    let pair = pair-among (out-Unit f.one).fills (out-Unit f.other).fills
                    (out-Unit f.one).fills h k.0 l.0 k.0 k.1 k.1 l.1 in
                    let waits = Waits (record { one = k.0; other = l.0 })
                    (among-right (record { one = k.0; other = l.0 }) rest
                    (modules_pairs (module_at to nodes) (module_at from nodes))
                    (subst (λ z. Among (record { one = k.0; other = l.0 }) z) (sym f.pairs) pair)) in
                    On i k.0 j (grown i k.0 (c.fills u f.one m f.name h to i k.0 a f.here d k.1))
                    (On k.0 l.0 j waits (grown l.0 j (c.fills f.other v f.name' n h from l.0 j f.there b l.1 e)));
              }

      -- two modules of one class of the new table
      both : (u v : OfUnit) (m n : Text) (k : ℕ) → In (moved from to nodes) (Module u m) k
          → In (moved from to nodes) (Module v n) k → Across u v m n
      both u v m n k a b =
          let q = In-unmoved nodes from to (Module u m) k a in
          let r = In-unmoved nodes from to (Module v n) k b in
          of q.0 r.0 q.1 r.1 (renumbered-cases from to q.0 r.0 (q.2 ∙ sym r.2))
        where
          of : (k l : ℕ) → In nodes (Module u m) k → In nodes (Module v n) l
              → (k ≡ l) ⊎ (((k ≡ from) × (l ≡ to)) ⊎ ((k ≡ to) × (l ≡ from))) → Across u v m n
          of k l a b (inl e) =
              let there = subst (λ z. In nodes (Module v n) z) (sym e) b in
              record {
                heads = c.heads u v m n k a there;
                fills = λ h i j d f. grown i j (c.fills u v m n h k i j a there d f);
              }
          of k l a b (inr (inl e)) =
              let r = across v u n m (subst (λ z. In nodes (Module v n) z) e.1 b)
              (subst (λ z. In nodes (Module u m) z) e.0 a) in
              record { heads = (sym r.heads.0, sym r.heads.1); fills = λ h i j d f. Back j i (r.fills h j i f d) }
          of k l a b (inr (inr e)) = across u v m n (subst (λ z. In nodes (Module u m) z) e.0 a)
              (subst (λ z. In nodes (Module v n) z) e.1 b)

      joined : IsClosing es (moved from to nodes) (rest ++ modules_pairs (module_at to nodes) (module_at from nodes))
      joined = record {
        table = moved-table es nodes from to y x py px same c.table;
        sound = λ q h. (all-good q h).one_class;
        listed = λ q h. let g = all-good q h in (g.one, g.other);
        stated = λ e h. grown e.left e.right (c.stated e h);
        heads = λ u v m n k a b. (both u v m n k a b).heads;
        fills = λ u v m n h k i j a b f g. (both u v m n k a b).fills h i j f g;
      }

-- ---- one pair less

module _ (es : List Equation) (lawful : IsLawful es) (nodes : List Node) (rest : List Pair) (p : Pair)
    (c : IsClosing es nodes (rest ++ p ∷ [])) where
  sides : Same es p.one p.other
  sides = c.sound p (among-right p rest (p ∷ []) (inl refl))

  class : (t : Ident) → Among t (terms_in es) → (k : ℕ) × (class_at t nodes ≡ Some k)
  class t h = listed-class es nodes c.table t h

  -- the two are of one class already
  dropped : (k : ℕ) → In nodes p.one k → In nodes p.other k → IsClosing es nodes rest
  dropped k a b = record {
    table = c.table;
    sound = λ q h. c.sound q (among-left q rest (p ∷ []) h);
    listed = λ q h. c.listed q (among-left q rest (p ∷ []) h);
    stated = λ e h. less e.left e.right (c.stated e h);
    heads = c.heads;
    fills = λ u v m n h k i j d e f g. less i j (c.fills u v m n h k i j d e f g);
  }
    where
      kept : (q : Pair) → Among q rest ⊎ Among q (p ∷ []) → Linked nodes rest q.one q.other
      kept q (inl h) = Waits q h
      kept q (inr (inl e)) = subst (λ z. Linked nodes rest z.one z.other) e (Here p.one p.other (k, a, b))
      kept q (inr (inr n)) = absurd n

      less : (i j : Ident) → Linked nodes (rest ++ p ∷ []) i j → Linked nodes rest i j
      less = Linked-map nodes nodes (rest ++ p ∷ []) rest (λ i j o. o) (λ q h. kept q (among-either q rest (p ∷ []) h))

  abbrev After : Option (Head × Head) → List Node → List Pair → Type 0
  After None new then = IsClosing es new then
  After (Some h) new then = HasHeads es h.0 h.1

  after-join : (to from : ℕ) (x y : Ident) → In nodes x to → In nodes y from → Same es y x
      → One (moved from to nodes) p.one p.other
      → After (modules_heads (module_at to nodes) (module_at from nodes)) (moved from to nodes)
      (rest ++ modules_pairs (module_at to nodes) (module_at from nodes))
  after-join to from x y px py same link = by (modules_heads (module_at to nodes) (module_at from nodes)) refl
    where
      by : (o : Option (Head × Head)) → modules_heads (module_at to nodes) (module_at from nodes) ≡ o
          → After o (moved from to nodes) (rest ++ modules_pairs (module_at to nodes) (module_at from nodes))
      by None e = joined es lawful nodes rest p c to from x y px py same link e
      by (Some h) e = clash es lawful nodes rest p c to from x y px py same link h e

  abbrev AfterClasses : Option ℕ → Option ℕ → Type 0
  AfterClasses left right = After (classes_heads left right nodes) (classes_moved left right nodes)
      (rest ++ classes_pairs left right nodes)

  after-classes : (k l : ℕ) → In nodes p.one k → In nodes p.other l → AfterClasses (Some k) (Some l)
  after-classes k l a b = by (nat_lt k l) (nat_lt l k) refl refl
    where
      by : (d e : Bool) → nat_lt k l ≡ d → nat_lt l k ≡ e
          → After (cond d (modules_heads (module_at k nodes) (module_at l nodes))
          (cond e (modules_heads (module_at l nodes) (module_at k nodes)) None))
          (cond d (moved l k nodes) (cond e (moved k l nodes) nodes))
          (rest ++ cond d (modules_pairs (module_at k nodes) (module_at l nodes))
          (cond e (modules_pairs (module_at l nodes) (module_at k nodes)) []))
      by true e f g = let o = One-joined nodes l k p.other p.one b a in
          after-join k l p.one p.other a b (Turned p.one p.other sides) (o.0, o.2, o.1)
      by false true f g = after-join l k p.other p.one b a sides (One-joined nodes k l p.one p.other a b)
      by false false f g =
          let same : k ≡ l = let x = ltb-false k l f in let y = ltb-false l k g in omega (arith, x, y) in
          subst (λ z. IsClosing es nodes z) (sym (append-nil rest)) (dropped l (subst (λ z. In nodes p.one z) same a) b)

  after-pair : AfterClasses (class_at p.one nodes) (class_at p.other nodes)
  after-pair =
      let l = c.listed p (among-right p rest (p ∷ []) (inl refl)) in
      let k = class p.one l.0 in
      let m = class p.other l.1 in
      subst (λ o. AfterClasses o (class_at p.other nodes)) (sym k.1)
      (subst (λ o. AfterClasses (Some k.0) o) (sym m.1)
      (after-classes k.0 m.0 (class_at-found p.one nodes k.0 k.1) (class_at-found p.other nodes m.0 m.1)))

-- a step that meets two heads
pub step-clash : (es : List Equation) → IsLawful es → (nodes : List Node) (rest : List Pair) (p : Pair)
    → IsClosing es nodes (rest ++ p ∷ []) → (h : Head × Head)
    → Some h ≡ classes_heads (class_at p.one nodes) (class_at p.other nodes) nodes → HasHeads es h.0 h.1
step-clash es lawful nodes rest p c h e =
    subst (λ o. After es lawful nodes rest p c o (classes_moved (class_at p.one nodes) (class_at p.other nodes) nodes)
    (rest ++ classes_pairs (class_at p.one nodes) (class_at p.other nodes) nodes)) (sym e)
    (after-pair es lawful nodes rest p c)

pub step-closing : (es : List Equation) → IsLawful es → (nodes : List Node) (rest : List Pair) (p : Pair)
    → IsClosing es nodes (rest ++ p ∷ []) → None ≡ classes_heads (class_at p.one nodes) (class_at p.other nodes) nodes
    → IsClosing es (classes_moved (class_at p.one nodes) (class_at p.other nodes) nodes)
    (rest ++ classes_pairs (class_at p.one nodes) (class_at p.other nodes) nodes)
step-closing es lawful nodes rest p c e =
    subst (λ o. After es lawful nodes rest p c o (classes_moved (class_at p.one nodes) (class_at p.other nodes) nodes)
    (rest ++ classes_pairs (class_at p.one nodes) (class_at p.other nodes) nodes)) (sym e)
    (after-pair es lawful nodes rest p c)

-- ---- closing ends: with each join the sum of the class numbers falls, and no more pairs come than there are fills

fills_in : Ident → ℕ
fills_in (Hole n) = 0
fills_in (Module' s (more_of-Unit u end_of-Unit) m) = length (out-Unit u).fills

width : List Node → ℕ
width [] = 0
width (x ∷ xs) = fills_in x.ident + width xs

-- a number for each unit of another one
scaled : ℕ → ℕ → ℕ
scaled zero w = 0
scaled (suc n) w = scaled n w + suc w

scaled-less : (a b w : ℕ) → a < b → scaled a w + suc w ≤ scaled b w
unfolding scaled
scaled-less a zero w lt = absurd (omega (arith, lt))
scaled-less a (suc b) w lt = by (nat_eq a b) refl (scaled-less a b w)
  where
    by : (c : Bool) → nat_eq a b ≡ c → (a < b → scaled a w + suc w ≤ scaled b w)
        → scaled a w + suc w ≤ scaled b w + suc w
    by true e r = let is = eqb-true a b e in let s : scaled a w ≡ scaled b w = ap (λ z. scaled z w) is in
        omega (arith, s)
    by false e r = let d : a ≢ b = (λ q. let f : true ≡ false = sym (eq-eqb a b q) ∙ e in cc) in
        let less : a < b = omega (arith, lt, d) in
        let s = r less in omega (arith, s)

pub measure : List Node → List Pair → ℕ
measure nodes pending = scaled (total nodes) (width nodes) + length pending

width-moved : (from to : ℕ) (nodes : List Node) → width (moved from to nodes) ≡ width nodes
unfolding width
width-moved from to [] = refl
width-moved from to (x ∷ xs) = ap (λ n. fills_in x.ident + n) (width-moved from to xs)

fill-few : (o q : Option Ident) → length (fill_pair o q) ≤ 1
fill-few None q = omega arith
fill-few (Some i) None = omega arith
fill-few (Some i) (Some j) = omega arith

fills-few : (ours theirs fs : List Fill) → length (fills_pairs ours theirs fs) ≤ length fs
fills-few ours theirs [] = omega arith
fills-few ours theirs (f ∷ fs) =
    let a = fill-few (found f.hole ours) (found f.hole theirs) in
    let b = fills-few ours theirs fs in
    let s = length-append (fill_pair (found f.hole ours) (found f.hole theirs)) (fills_pairs ours theirs fs) in
    omega (arith, a, b, s)

units-few : (u v : OfUnit) (m n : Text) → length (units_pairs u m v n) ≤ length (out-Unit u).fills
units-few u v m n = by (bytes_eq (out-Unit u).component (out-Unit v).component && bytes_eq m n)
  where
    by : (b : Bool) → length (cond b (fills_pairs (out-Unit u).fills (out-Unit v).fills (out-Unit u).fills) []) ≤ length
        (out-Unit u).fills
    by true = fills-few (out-Unit u).fills (out-Unit v).fills (out-Unit u).fills
    by false = omega arith

terms-few : (a b : Ident) → length (terms_pairs a b) ≤ fills_in a
unfolding fills_in
terms-few (Hole m) b = omega arith
terms-few (Module' s (more_of-Unit u end_of-Unit) m) (Hole n) = omega arith
terms-few (Module' s (more_of-Unit u end_of-Unit) m) (Module' t (more_of-Unit v end_of-Unit) n) = units-few u v m n

module-few : (k : ℕ) (nodes : List Node) (a : Ident) → module_at k nodes ≡ Some a → fills_in a ≤ width nodes
unfolding width
module-few k [] a e = cc
module-few k (x ∷ xs) a e = by (nat_eq x.class k && is_module x.ident) e (module-few k xs a)
  where
    by : (b : Bool) → cond b (Some x.ident) (module_at k xs) ≡ Some a
        → (module_at k xs ≡ Some a → fills_in a ≤ width xs) → fills_in a ≤ fills_in x.ident + width xs
    by true f r = let is : fills_in x.ident ≡ fills_in a = ap fills_in (same_Some x.ident a f) in omega (arith, is)
    by false f r = let le = r f in omega (arith, le)

modules-few : (k l : ℕ) (nodes : List Node) → length
    (modules_pairs (module_at k nodes) (module_at l nodes)) ≤ width nodes
modules-few k l nodes = by (module_at k nodes) (module_at l nodes) refl
  where
    by : (o q : Option Ident) → module_at k nodes ≡ o → length (modules_pairs o q) ≤ width nodes
    by None q e = omega arith
    by (Some a) None e = omega arith
    by (Some a) (Some b) e = let f = terms-few a b in let g = module-few k nodes a e in omega (arith, f, g)

join-falls : (nodes : List Node) (rest : List Pair) (to from : ℕ) (y : Ident) → to < from → In nodes y from
    → measure (moved from to nodes) (rest ++ modules_pairs (module_at to nodes) (module_at from nodes)) < suc
    (measure nodes rest)
unfolding measure
join-falls nodes rest to from y lt p =
    let falls = moved-falls nodes from to y lt p in
    let few = modules-few to from nodes in
    let same : scaled (total (moved from to nodes)) (width (moved from to nodes)) ≡ scaled (total (moved from to nodes))
    (width nodes) = ap (scaled (total (moved from to nodes))) (width-moved from to nodes) in
    let less = scaled-less (total (moved from to nodes)) (total nodes) (width nodes) falls in
    let sum = length-append rest (modules_pairs (module_at to nodes) (module_at from nodes)) in
    omega (arith, few, same, less, sum)

classes-fall : (nodes : List Node) (rest : List Pair) (left right : Option ℕ) (a b : Ident) → class_at a nodes ≡ left
    → class_at b nodes ≡ right → measure (classes_moved left right nodes) (rest ++ classes_pairs left right nodes) < suc
    (measure nodes rest)
classes-fall nodes rest left right a b = by left right
  where
    stay : measure nodes (rest ++ []) < suc (measure nodes rest)
    stay = let e : measure nodes (rest ++ []) ≡ measure nodes rest = ap (measure nodes) (append-nil rest) in
        omega (arith, e)

    by : (o q : Option ℕ) → class_at a nodes ≡ o → class_at b nodes ≡ q
        → measure (classes_moved o q nodes) (rest ++ classes_pairs o q nodes) < suc (measure nodes rest)
    by None q d e = stay
    by (Some k) None d e = stay
    by (Some k) (Some l) d e = order (nat_lt k l) (nat_lt l k) refl refl
      where
        order : (f g : Bool) → nat_lt k l ≡ f → nat_lt l k ≡ g
            → measure (cond f (moved l k nodes) (cond g (moved k l nodes) nodes))
            (rest ++ cond f (modules_pairs (module_at k nodes) (module_at l nodes))
            (cond g (modules_pairs (module_at l nodes) (module_at k nodes)) [])) < suc (measure nodes rest)
        order true g x y = join-falls nodes rest k l b (ltb-true k l x) (class_at-found b nodes l e)
        order false true x y = join-falls nodes rest l k a (ltb-true l k y) (class_at-found a nodes k d)
        order false false x y = stay

pub step-falls : (nodes : List Node) (rest : List Pair) (p : Pair)
    → measure (classes_moved (class_at p.one nodes) (class_at p.other nodes) nodes)
    (rest ++ classes_pairs (class_at p.one nodes) (class_at p.other nodes) nodes) < measure nodes (rest ++ p ∷ [])
unfolding measure
step-falls nodes rest p =
    let f = classes-fall nodes rest (class_at p.one nodes) (class_at p.other nodes) p.one p.other refl refl in
    let s = length-append rest (p ∷ []) in
    omega (arith, f, s)

-- ---- the loop, over numbers

-- closing goes on for all equations whose terms and sides these are
abbrev pub AreClosing : List Ident → List NumberPair → List ℕ → List NumberPair → Type 0
AreClosing table pairs classes pending = (es : List Equation) → IsLawful es → HasTerms es table
    → pairs_of table pairs ≡ stated_pairs es → IsClosing es (nodes_of table classes) (pairs_of table pending)

pub started : (table : List Ident) (pairs : List NumberPair) (classes : List ℕ) → IsIdentTable table
    → classes ≡ upto (length table) → AreClosing table pairs classes pairs
started table pairs classes t is es lawful terms stated =
    subst (λ z. IsClosing es (nodes_of table z) (pairs_of table pairs)) (sym is)
    (subst (IsClosing es (nodes_of table (upto (length table)))) (sym stated) (closing-start es table t terms))

pub ended : (table : List Ident) (pairs : List NumberPair) (classes : List ℕ) (pending : List NumberPair)
    → AreClosing table pairs classes pending → length pending ≡ 0
    → (es : List Equation) → IsLawful es → HasTerms es table → pairs_of table pairs ≡ stated_pairs es
    → IsSettled es (nodes_of table classes)
ended table pairs classes [] c e es lawful terms stated =
    closing-end es (nodes_of table classes) (c es lawful terms stated)
ended table pairs classes (p ∷ pending) c e es lawful terms stated = absurd (omega (arith, e))

-- what was taken off
taken-number : (old rest : List NumberPair) (r : Option NumberPair) (p : NumberPair) → old ≡ rest ++ option_to_list r
    → r ≡ Some p → old ≡ rest ++ p ∷ []
taken-number old rest r p e is = e ∙ ap (λ o. rest ++ option_to_list o) is

taken : (table : List Ident) (old rest : List NumberPair) (r : Option NumberPair) (p : NumberPair)
    → old ≡ rest ++ option_to_list r → r ≡ Some p → pairs_of table old ≡ pairs_of table rest ++ pair_of table p ∷ []
taken table old rest r p e is = ap (pairs_of table) (taken-number old rest r p e is)
    ∙ map-append (pair_of table) rest (p ∷ [])

pub taken-below : (n : ℕ) (old rest : List NumberPair) (r : Option NumberPair) (p : NumberPair) → ArePairsBelow n old
    → old ≡ rest ++ option_to_list r → r ≡ Some p → (p.one < n) × (p.other < n)
taken-below n old rest r p b e is = subst (ArePairsBelow n) (taken-number old rest r p e is) b p
    (among-right p rest (p ∷ []) (inl refl))

pub rest-below : (n : ℕ) (old rest : List NumberPair) (r : Option NumberPair) (p : NumberPair) → ArePairsBelow n old
    → old ≡ rest ++ option_to_list r → r ≡ Some p → ArePairsBelow n rest
rest-below n old rest r p b e is q h = subst (ArePairsBelow n) (taken-number old rest r p e is) b q
    (among-left q rest (p ∷ []) h)

-- the classes of a pair
abbrev left_of : List Ident → List ℕ → NumberPair → Option ℕ
left_of table classes p = class_at (ident_of table p.one) (nodes_of table classes)

abbrev right_of : List Ident → List ℕ → NumberPair → Option ℕ
right_of table classes p = class_at (ident_of table p.other) (nodes_of table classes)

module _ (table : List Ident) (classes : List ℕ) (old rest : List NumberPair) (r : Option NumberPair) (p : NumberPair)
    (e : old ≡ rest ++ option_to_list r) (is : r ≡ Some p) where
  at-pair : (pairs : List NumberPair) → AreClosing table pairs classes old → (es : List Equation) → IsLawful es
      → HasTerms es table → pairs_of table pairs ≡ stated_pairs es
      → IsClosing es (nodes_of table classes) (pairs_of table rest ++ pair_of table p ∷ [])
  at-pair pairs c es lawful terms stated = subst (IsClosing es (nodes_of table classes)) (taken table old rest r p e is)
      (c es lawful terms stated)

  pub clash-met : (pairs : List NumberPair) → AreClosing table pairs classes old
      → (o : Option (Head × Head)) (h : Head × Head) → o ≡ Some h
      → o ≡ classes_heads (left_of table classes p) (right_of table classes p) (nodes_of table classes)
      → (es : List Equation) → IsLawful es → HasTerms es table → pairs_of table pairs ≡ stated_pairs es
      → HasHeads es h.0 h.1
  clash-met pairs c o h some heads es lawful terms stated =
      step-clash es lawful (nodes_of table classes) (pairs_of table rest) (pair_of table p)
      (at-pair pairs c es lawful terms stated) h (sym some ∙ heads)

  module _ (new : List ℕ) (then : List NumberPair)
      (made : pairs_of table then ≡ pairs_of table rest
      ++ classes_pairs (left_of table classes p) (right_of table classes p) (nodes_of table classes))
      (joins : nodes_of table new ≡ classes_moved (left_of table classes p) (right_of table classes p)
      (nodes_of table classes)) where
    pub step-met : (pairs : List NumberPair) → AreClosing table pairs classes old → (o : Option (Head × Head))
        → o ≡ None → o ≡ classes_heads (left_of table classes p) (right_of table classes p) (nodes_of table classes)
        → AreClosing table pairs new then
    step-met pairs c o none heads es lawful terms stated =
        subst (λ z. IsClosing es z (pairs_of table then)) (sym joins)
        (subst (IsClosing es (classes_moved (left_of table classes p) (right_of table classes p)
        (nodes_of table classes))) (sym made)
        (step-closing es lawful (nodes_of table classes) (pairs_of table rest) (pair_of table p)
        (at-pair pairs c es lawful terms stated) (sym none ∙ heads)))

    pub step-less : measure (nodes_of table new) (pairs_of table then) < measure (nodes_of table classes)
        (pairs_of table old)
    step-less =
        subst (λ z. measure z (pairs_of table then) < measure (nodes_of table classes) (pairs_of table old)) (sym joins)
        (subst (λ z. measure (classes_moved (left_of table classes p) (right_of table classes p)
        (nodes_of table classes)) z < measure (nodes_of table classes) (pairs_of table old)) (sym made)
        (subst (λ z. measure (classes_moved (left_of table classes p) (right_of table classes p)
        (nodes_of table classes)) (pairs_of table rest
        ++ classes_pairs (left_of table classes p) (right_of table classes p) (nodes_of table classes)) < measure
        (nodes_of table classes) z) (sym (taken table old rest r p e is))
        (step-falls (nodes_of table classes) (pairs_of table rest) (pair_of table p))))
