-- One stage of building after another.
use Rattle.std.proofs.Common.{◌≡◌, ℕ, zero, suc, ◌+◌, ◌<◌, ◌≤◌, Bool, true, false, ◌&&◌, ◌||◌, cond, nat_eq, List, []}
use Rattle.std.proofs.Common.{◌∷◌, ◌++◌, length, get_or, set, drop, map, inl, inr, refl, ap, sym, ◌∙◌, subst, arith}
use Rattle.std.proofs.Common.{append_assoc}
use Rattle.std.proofs.lemmas.Bool.{eqb-true, eq-eqb}
use Rattle.std.proofs.lemmas.List.{map-set, length-set, length-map, length-replicate}
use Rattle.std.proofs.lemmas.Option.{get_or_from_slice_get, slice_get_within, same_Some}
use Rattle.std.proofs.Math.Seq.{drop-length}
use Rattle.std.specs.Prelude.{Option, Some, None, slice_get, replicate}
use Rattle.std.specs.Option.{option_map, option_or}
use Rattle.ident_table.proofs.NodeLemmas.{Grows-not, Grows-again, Grows-longer}
use Rattle.bp_base.specs.declared.ident.Ident.{Ident}
use Rattle.bp_base.specs.declared.ident.Ident.TheVariants as ident
use Rattle.bp_base.specs.declared.ident.Ident.TheViews.{roll-Unit, out-roll-Unit}
use Rattle.bp_base.specs.declared.ident.Unit.{Unit as OfUnit}
use Rattle.bp_base.specs.Lists.{Among}
use Rattle.bp_base.specs.Texts.{Text}
use Rattle.ident_table.specs.declared.node.NumberFill.{NumberFill}
use Rattle.ident_table.specs.Numbers.{ident_of, fills_of, AreFillsBelow, IsIdentTable, Grows}
use Rattle.ident_table.specs.Numbers as numbers
use Rattle.hole_unify.specs.declared.build.Ready.{Ready}
use Rattle.hole_unify.specs.declared.build.Ready.TheVariants as of
use Rattle.hole_unify.specs.declared.equation.Equation.{Equation}
use Rattle.hole_unify.specs.Table.{Node, is_module, nodes_of}
use Rattle.hole_unify.specs.Tables.{IsTable}
use Rattle.hole_unify.specs.IsFaithful.{IsFaithful}
use Rattle.hole_unify.specs.Reach.{lesser, least_from}
use Rattle.hole_unify.specs.Build.{number_built, built_of, AreBuiltBelow, fills_built, module_of, has_module}
use Rattle.hole_unify.specs.Build.{class_hole, hole_ready, term_ready, node_ready, first_ready}
use Rattle.hole_unify.specs.Stages.{node_at, hole_at, with_number, numbers_built, numbers_fronted, made_of, ready_ident}
use Rattle.hole_unify.specs.Stages.{ready_entry, IsReadyBelow, unbuilt_classes, IsStage, Follows, Steps}
use Rattle.hole_unify.proofs.TableLemmas.{Among-drop, Among-get_or}
use Rattle.hole_unify.proofs.UnitLemmas.{not-both}
use Rattle.hole_unify.proofs.BuildingLemmas.{IsReady, node-ready, stands-put, no-entries}
use Rattle.hole_unify.proofs.GroundedLemmas.{term_ready-Module}
use Rattle.hole_unify.proofs.PlaceLemmas.{node-front, nodes-later, built-at, built-later, below-later, below-set}
use Rattle.hole_unify.proofs.PlaceLemmas.{fills-built, numbers-below}
use Rattle.hole_unify.proofs.NumberingLemmas.{nodes_of-length}

-- ---- the end of a list

pub nodes-end : (table : List Ident) (classes : List ℕ) (i : ℕ) → length classes ≤ length table → i ≡ length classes
    → drop i (nodes_of table classes) ≡ []
nodes-end table classes i le is = ap (λ n. drop n (nodes_of table classes)) (is
    ∙ sym (nodes_of-length table classes le)) ∙ drop-length (nodes_of table classes)

-- ---- a class with a module

pub module-here : (table : List Ident) (classes : List ℕ) (i k : ℕ) (last : Bool) → length classes ≤ length table
    → i < length classes → get_or classes i 0 ≡ k → is_module (ident_of table i) ≡ true
    → has_module k (drop i (nodes_of table classes)) ≡ last → true ≡ last
module-here table classes i k last le lt is kind so =
    sym (λ w. (eq-eqb (get_or classes i 0) k is w && kind w) || has_module k (drop (i + 1) (nodes_of table classes)))
    ∙ sym (ap (has_module k) (node-front table classes i le lt)) ∙ so

pub module-step : (table : List Ident) (classes : List ℕ) (i k : ℕ) (last : Bool) → length classes ≤ length table
    → i < length classes → (get_or classes i 0 ≡ k → is_module (ident_of table i) ≡ true → ⊥)
    → has_module k (drop i (nodes_of table classes)) ≡ last
    → has_module k (drop (i + 1) (nodes_of table classes)) ≡ last
module-step table classes i k last le lt never so =
    by (nat_eq (get_or classes i 0) k) (is_module (ident_of table i)) refl refl
    (sym (ap (has_module k) (node-front table classes i le lt)) ∙ so)
  where
    by : (a b : Bool) → nat_eq (get_or classes i 0) k ≡ a → is_module (ident_of table i) ≡ b
        → (nat_eq (get_or classes i 0) k && is_module (ident_of table i)) || has_module k
        (drop (i + 1) (nodes_of table classes)) ≡ last
        → has_module k (drop (i + 1) (nodes_of table classes)) ≡ last
    by true true d e f = absurd (never (eqb-true (get_or classes i 0) k d) e)
    by true false d e f = sym (λ w. (d w && e w) || has_module k (drop (i + 1) (nodes_of table classes))) ∙ f
    by false b d e f = sym (ap (λ z. (z && is_module (ident_of table i)) || has_module k
        (drop (i + 1) (nodes_of table classes))) d) ∙ f

pub module-none : (table : List Ident) (classes : List ℕ) (i k : ℕ) (last : Bool) → length classes ≤ length table
    → i ≡ length classes → has_module k (drop i (nodes_of table classes)) ≡ last → false ≡ last
module-none table classes i k last le is so = sym (ap (has_module k) (nodes-end table classes i le is)) ∙ so

-- ---- the least hole of a class

module _ (table : List Ident) (classes : List ℕ) (i k : ℕ) (le : length classes ≤ length table)
    (lt : i < length classes) (name last : Option Text)
    (so : least_from name (map (class_hole k) (drop i (nodes_of table classes))) ≡ last) where
  front : least_from (lesser name (class_hole k (node_at table classes i)))
      (map (class_hole k) (drop (i + 1) (nodes_of table classes))) ≡ last
  front = sym (ap (λ l. least_from name (map (class_hole k) l)) (node-front table classes i le lt)) ∙ so

  pub least-here : get_or classes i 0 ≡ k → least_from (lesser name (hole_at table i))
      (map (class_hole k) (drop (i + 1) (nodes_of table classes))) ≡ last
  least-here is = sym (ap (λ b. least_from (lesser name (cond b (hole_at table i) None))
      (map (class_hole k) (drop (i + 1) (nodes_of table classes)))) (eq-eqb (get_or classes i 0) k is)) ∙ front

  pub least-step : (get_or classes i 0 ≡ k → ⊥) → least_from name
      (map (class_hole k) (drop (i + 1) (nodes_of table classes))) ≡ last
  least-step never = by (nat_eq (get_or classes i 0) k) refl
    where
      by : (b : Bool) → nat_eq (get_or classes i 0) k ≡ b
          → least_from name (map (class_hole k) (drop (i + 1) (nodes_of table classes))) ≡ last
      by true d = absurd (never (eqb-true (get_or classes i 0) k d))
      by false d = sym (ap (λ b. least_from (lesser name (cond b (hole_at table i) None))
          (map (class_hole k) (drop (i + 1) (nodes_of table classes)))) d) ∙ front

pub least-end : (table : List Ident) (classes : List ℕ) (i k : ℕ) (name last : Option Text)
    → length classes ≤ length table → i ≡ length classes
    → least_from name (map (class_hole k) (drop i (nodes_of table classes))) ≡ last → name ≡ last
least-end table classes i k name last le is so = sym
    (ap (λ l. least_from name (map (class_hole k) l)) (nodes-end table classes i le is)) ∙ so

-- ---- the fills of a unit

-- ---- what a class is

pub hole-found : (table : List Ident) (hole : Option ℕ) (ready : Option Ready) → ready ≡ option_map of.Hole hole
    → option_map (ready_ident table) ready ≡ number_built table hole
hole-found table None ready is = ap (option_map (ready_ident table)) is
hole-found table (Some n) ready is = ap (option_map (ready_ident table)) is

pub hole-below : (n : ℕ) (hole : Option ℕ) (ready : Option Ready) → ready ≡ option_map of.Hole hole
    → ((k : ℕ) → hole ≡ Some k → k < n) → (x : Ready) → ready ≡ Some x → IsReadyBelow n x
hole-below n None ready is below x e = absurd (not-both ready x e is)
hole-below n (Some k) ready is below x e = subst (IsReadyBelow n) (same_Some (of.Hole k) x (sym is ∙ e)) (below k refl)

-- a hole of a class
pub hole-ready : (nodes : List Node) (built : List (Option Ident)) (k : ℕ) (i : Ident) (n : Text) → i ≡ ident.Hole n
    → hole_ready nodes k ≡ term_ready nodes built k i
hole-ready nodes built k i n is = sym (ap (term_ready nodes built k) is)

-- a module of a class
pub module-ready : (table : List Ident) (classes : List ℕ) (built : List (Option ℕ)) → IsIdentTable table
    → length classes ≤ length table → (k : ℕ) (i : Ident) (c m : Text) (fs : List NumberFill) (ready : Option Ready)
    → i ≡ numbers.module_of table c fs m → AreFillsBelow (length classes) fs
    → ready ≡ made_of c m (numbers_built classes built fs)
    → option_map (ready_ident table) ready ≡ term_ready (nodes_of table classes) (built_of table built) k i
module-ready table classes built it le k i c m fs ready is below made =
    by (numbers_built classes built fs) refl
    ∙ sym (ap (module_of unit m) (ap (fills_built (nodes_of table classes) (built_of table built))
    (ap (λ o. o.fills) (out-roll-Unit _)) ∙ fills-built table classes built it le fs below))
    ∙ sym (term_ready-Module (nodes_of table classes) (built_of table built) k unit m)
    ∙ sym (ap (term_ready (nodes_of table classes) (built_of table built) k) is)
  where
    unit : OfUnit
    unit = roll-Unit (record { component = c; fills = fills_of table fs })

    by : (o : Option (List NumberFill)) → numbers_built classes built fs ≡ o
        → option_map (ready_ident table) ready ≡ module_of unit m
        (option_map (fills_of table) (numbers_built classes built fs))
    by None e = ap (option_map (ready_ident table)) (made ∙ ap (made_of c m) e)
        ∙ sym (ap (λ o. module_of unit m (option_map (fills_of table) o)) e)
    by (Some l) e =
        ap (option_map (ready_ident table)) (made ∙ ap (made_of c m) e)
        ∙ ap (λ x. Some (ident.Module (roll-Unit (record { component = x; fills = fills_of table l })) m))
        (sym (ap (λ o. o.component) (out-roll-Unit (record { component = c; fills = fills_of table fs }))))
        ∙ sym (ap (λ o. module_of unit m (option_map (fills_of table) o)) e)

pub module-below : (n : ℕ) (classes : List ℕ) (built : List (Option ℕ)) (c m : Text) (fs : List NumberFill)
    (ready : Option Ready) → AreBuiltBelow n built → ready ≡ made_of c m (numbers_built classes built fs)
    → (x : Ready) → ready ≡ Some x → IsReadyBelow n x
module-below n classes built c m fs ready below made x e = by (numbers_built classes built fs) refl
  where
    by : (o : Option (List NumberFill)) → numbers_built classes built fs ≡ o → IsReadyBelow n x
    by None d = absurd (not-both ready x e (made ∙ ap (made_of c m) d))
    by (Some l) d = subst (IsReadyBelow n) (same_Some (of.Module c l m) x (sym (made ∙ ap (made_of c m) d) ∙ e))
        (numbers-below n classes built fs l below d)

-- ---- a class that is not built

number-none : (table : List Ident) (o : Option ℕ) → number_built table o ≡ None → o ≡ None
number-none table None e = refl
number-none table (Some n) e = cc

-- ---- one class more

unbuilt-set : (built : List (Option ℕ)) (k n : ℕ) → k < length built → get_or built k None ≡ None
    → unbuilt_classes (set built k (Some n)) < unbuilt_classes built
unbuilt-set [] k n lt e = absurd (omega (arith, lt))
unbuilt-set (None ∷ built) zero n lt e = omega arith
unbuilt-set (Some m ∷ built) zero n lt e = cc
unbuilt-set (None ∷ built) (suc k) n lt e = let r = unbuilt-set built k n (omega (arith, lt)) e in omega (arith, r)
unbuilt-set (Some m ∷ built) (suc k) n lt e = unbuilt-set built k n (omega (arith, lt)) e

pub node-among : (table : List Ident) (classes : List ℕ) (i : ℕ)
    → length classes ≤ length table → i < length classes → Among (node_at table classes i) (nodes_of table classes)
node-among table classes i le lt = Among-drop (node_at table classes i) (nodes_of table classes) i
    (subst (λ l. Among (node_at table classes i) l) (sym (node-front table classes i le lt)) (inl refl))

-- a class that was ready is built
module _ (table : List Ident) (classes : List ℕ) (built : List (Option ℕ)) (s : IsStage table classes built) (i : ℕ)
    (lt : i < length classes) (r : Ready) (later : List Ident) (n : ℕ)
    (found : Some (ready_entry table (get_or classes i 0) r) ≡ node_ready (nodes_of table classes)
    (built_of table built) (node_at table classes i))
    (grows : Grows table later) (numbered : IsIdentTable later)
    (number : slice_get later n ≡ Some (ready_ident table r)) where
  ready : IsReady (nodes_of table classes) (built_of table built) (ready_entry table (get_or classes i 0) r)
  ready = node-ready (nodes_of table classes) (built_of table built) (node_at table classes i)
      (ready_entry table (get_or classes i 0) r) (node-among table classes i s.listed lt) (sym found)

  within : get_or classes i 0 < length built
  within = let a : get_or classes i 0 < length classes = s.within _ (Among-get_or classes i 0 lt) in
      omega (arith, a, s.sized)

  pub class-stage : IsStage later classes (set built (get_or classes i 0) (Some n))
  class-stage =
      let longer = Grows-longer table later grows in
      record {
        numbered = numbered;
        listed = omega (arith, longer, s.listed);
        within = s.within;
        sized = length-set built (get_or classes i 0) (Some n) ∙ s.sized;
        below = below-set (length later) built (get_or classes i 0) n
            (below-later (length table) (length later) built longer s.below)
            (slice_get_within later n (ready_ident table r) number);
      }

  now-built : built_of later (set built (get_or classes i 0) (Some n)) ≡ set (built_of table built) (get_or classes i 0)
      (Some (ready_ident table r))
  now-built =
      map-set (number_built later) built (get_or classes i 0) (Some n)
      ∙ (λ w. set (built-later table later built grows s.below w) (get_or classes i 0)
      (Some (get_or_from_slice_get later n (ready_ident table r) (ident.Hole []) number w)))

  pub class-follows : Follows classes table built later (set built (get_or classes i 0) (Some n))
  class-follows = record {
    grows = grows;
    stands = λ es t st.
        subst (IsFaithful es (nodes_of table classes)) (sym now-built)
        (stands-put es (nodes_of table classes) t (built_of table built)
        (ready_entry table (get_or classes i 0) r) st ready (let a = within in
        let b = length-map built (number_built table) in omega (arith, a, b)));
  }

  pub class-fewer : unbuilt_classes (set built (get_or classes i 0) (Some n)) < unbuilt_classes built
  class-fewer = unbuilt-set built (get_or classes i 0) n within
      (number-none table (get_or built (get_or classes i 0) None) (sym (built-at table built (get_or classes i 0))
      ∙ ready.new))

-- ---- stages

pub follows-itself : (classes : List ℕ) (table : List Ident) (built : List (Option ℕ))
    → Follows classes table built table built
follows-itself classes table built = record { grows = Grows-not table; stands = λ es t st. st }

pub follows-more : (classes : List ℕ) (a b c : List Ident) (x y z : List (Option ℕ)) → length classes ≤ length a
    → Follows classes a x b y → Follows classes b y c z → Follows classes a x c z
follows-more classes a b c x y z le f g = record {
  grows = Grows-again a b c f.grows g.grows;
  stands = λ es t st.
      let same = nodes-later a b classes f.grows le in
      subst (λ l. IsFaithful es l (built_of c z)) same
      (g.stands es (subst (IsTable es) (sym same) t)
      (subst (λ l. IsFaithful es l (built_of b y)) (sym same) (f.stands es t st)));
}

pub steps-follow : (classes : List ℕ) (a b : List Ident) (x y : List (Option ℕ)) (P : Type 0) (more : Bool)
    → Steps classes a x b y P more → Follows classes a x b y
steps-follow classes a b x y P true s = s.0
steps-follow classes a b x y P false s = subst (λ t. Follows classes a x t y) (sym s.0)
    (subst (λ z. Follows classes a x a z) (sym s.1) (follows-itself classes a x))

-- one node more of a pass
pub pass-step : (classes : List ℕ) (a b c : List Ident) (x y z : List (Option ℕ)) (i : ℕ) (more again : Bool)
    → length classes ≤ length a → i < length classes
    → Steps classes a x b y (first_ready (nodes_of a classes) (built_of a x) (drop i (nodes_of a classes)) ≡ first_ready
    (nodes_of a classes) (built_of a x) (nodes_of a classes)) more
    → Steps classes b y c z (node_ready (nodes_of b classes) (built_of b y) (node_at b classes i) ≡ None) again
    → Steps classes a x c z (first_ready (nodes_of a classes) (built_of a x)
    (drop (i + 1) (nodes_of a classes)) ≡ first_ready (nodes_of a classes) (built_of a x) (nodes_of a classes))
    (more || again)
pass-step classes a b c x y z i true true le lt s t =
    (follows-more classes a b c x y z le s.0 t.0, (let p = s.1 in let q = t.1 in omega (arith, p, q)))
pass-step classes a b c x y z i true false le lt s t = (
  subst (λ u. Follows classes a x u z) (sym t.0) (subst (λ v. Follows classes a x b v) (sym t.1) s.0),
  subst (λ v. unbuilt_classes v < unbuilt_classes x) (sym t.1) s.1,
)
pass-step classes a b c x y z i false true le lt s t = (
  subst (λ u. Follows classes u x c z) s.0 (subst (λ v. Follows classes b v c z) s.1 t.0),
  subst (λ v. unbuilt_classes z < unbuilt_classes v) s.1 t.1,
)
pass-step classes a b c x y z i false false le lt s t = (t.0 ∙ s.0, t.1 ∙ s.1, sym (step none) ∙ s.2)
  where
    none : node_ready (nodes_of a classes) (built_of a x) (node_at a classes i) ≡ None
    none = subst (λ u. node_ready (nodes_of u classes) (built_of u x) (node_at u classes i) ≡ None) s.0
        (subst (λ v. node_ready (nodes_of b classes) (built_of b v) (node_at b classes i) ≡ None) s.1 t.2)

    step : node_ready (nodes_of a classes) (built_of a x) (node_at a classes i) ≡ None
        → first_ready (nodes_of a classes) (built_of a x) (drop i (nodes_of a classes)) ≡ first_ready
        (nodes_of a classes) (built_of a x) (drop (i + 1) (nodes_of a classes))
    step e = ap (first_ready (nodes_of a classes) (built_of a x)) (node-front a classes i le lt)
        ∙ ap (λ o. option_or o (first_ready (nodes_of a classes) (built_of a x) (drop (i + 1) (nodes_of a classes)))) e

-- the end of a pass
pub pass-end : (classes : List ℕ) (a b : List Ident) (x y : List (Option ℕ)) (i : ℕ) (more : Bool)
    → length classes ≤ length a → i ≡ length classes
    → Steps classes a x b y (first_ready (nodes_of a classes) (built_of a x) (drop i (nodes_of a classes)) ≡ first_ready
    (nodes_of a classes) (built_of a x) (nodes_of a classes)) more
    → Steps classes a x b y (first_ready (nodes_of a classes) (built_of a x) (nodes_of a classes) ≡ None) more
pass-end classes a b x y i true le is s = s
pass-end classes a b x y i false le is s = (
  s.0,
  s.1,
  sym s.2
      ∙ ap (first_ready (nodes_of a classes) (built_of a x)) (nodes-end a classes i le is),
)

-- before anything is built
pub first-stage : (table : List Ident) (classes : List ℕ) → IsIdentTable table → length classes ≤ length table
    → ((k : ℕ) → Among k classes → k < length classes) → IsStage table classes (replicate (length classes) None)
first-stage table classes is le within = record {
  numbered = is;
  listed = le;
  within = within;
  sized = length-replicate {A = Option ℕ} (length classes) None;
  below = λ k h. absurd (never k (length classes) h);
}
  where
    never : (k n : ℕ) → Among (Some k) (replicate n None) → ⊥
    never k zero h = h
    never k (suc n) (inl e) = cc
    never k (suc n) (inr h) = never k n h

pub first-built : (table : List Ident) (n : ℕ) → built_of table (replicate n None) ≡ replicate n None
first-built table zero = refl
first-built table (suc n) = ap (λ l. None ∷ l) (first-built table n)

pub or-then : (a b c : Bool) → b ≡ true → c ≡ true → a || b ≡ c
or-then true b c e f = sym f
or-then false b c e f = e ∙ sym f

pub or-else : (a b c : Bool) → b ≡ false → c ≡ a → a || b ≡ c
or-else true b c e f = sym f
or-else false b c e f = e ∙ sym f

-- ---- the whole of building

pub moved-stage : (classes : List ℕ) (a b : List Ident) (x y : List (Option ℕ)) → b ≡ a → y ≡ x → IsStage a classes x
    → IsStage b classes y
moved-stage classes a b x y p q s = subst (λ t. IsStage t classes y) (sym p) (subst (IsStage a classes) (sym q) s)

pub moved-follows : (classes : List ℕ) (first a b : List Ident) (built x y : List (Option ℕ)) → b ≡ a → y ≡ x
    → Follows classes first built a x → Follows classes first built b y
moved-follows classes first a b built x y p q s = subst (λ t. Follows classes first built t y) (sym p)
    (subst (Follows classes first built a) (sym q) s)

-- where a pass found none
pub pass-none : (classes : List ℕ) (first a b : List Ident) (built x y : List (Option ℕ)) (more : Bool)
    → length classes ≤ length first → Follows classes first built a x → more ≡ false
    → Steps classes a x b y (first_ready (nodes_of a classes) (built_of a x) (nodes_of a classes) ≡ None) more
    → first_ready (nodes_of first classes) (built_of b y) (nodes_of first classes) ≡ None
pass-none classes first a b built x y true le f is s = cc
pass-none classes first a b built x y false le f is s =
    let same = nodes-later first a classes f.grows le in
    (λ w. first_ready (sym same w) (built_of (s.0 w) (s.1 w)) (sym same w)) ∙ s.2

pub pass-fewer : (classes : List ℕ) (a b : List Ident) (x y : List (Option ℕ)) (P : Type 0) (more : Bool) → more ≡ true
    → Steps classes a x b y P more → unbuilt_classes y < unbuilt_classes x
pass-fewer classes a b x y P true is s = s.1
pass-fewer classes a b x y P false is s = cc

pub first-stands : (classes : List ℕ) (table later : List Ident) (built after : List (Option ℕ))
    → built ≡ replicate (length classes) None → Follows classes table built later after
    → (es : List Equation) → IsTable es (nodes_of table classes)
    → IsFaithful es (nodes_of table classes) (built_of later after)
first-stands classes table later built after is f es t =
    f.stands es t (subst (IsFaithful es (nodes_of table classes))
    (sym (ap (built_of table) is ∙ first-built table (length classes)))
    (no-entries es (nodes_of table classes) (length classes)))
