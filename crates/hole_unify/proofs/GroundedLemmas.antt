-- Where no hole reaches itself, every class can be built.
use Rattle.std.proofs.Common.{◌≡◌, ℕ, zero, suc, ◌<◌, ◌≤◌, Bool, true, false, cond, nat_eq, List, [], ◌∷◌, length, map}
use Rattle.std.proofs.Common.{◌⊎◌, inl, inr, refl, ap, sym, ◌∙◌, subst, arith}
use Rattle.std.proofs.lemmas.Bool.{eqb-true, eq-eqb}
use Rattle.std.specs.Prelude.{Option, Some, None}
use Rattle.bp_base.proofs.SetLemmas.{among-map}
use Rattle.bp_base.proofs.IdentLemmas.{Module-is}
use Rattle.bp_base.specs.declared.ident.Ident.{Ident}
use Rattle.bp_base.specs.declared.ident.Ident.TheVariants.{Hole, Module, Module'}
use Rattle.bp_base.specs.declared.ident.Unit.{Unit as OfUnit, out-Unit}
use Rattle.bp_base.specs.declared.ident.Fill.{Fill}
use Rattle.bp_base.specs.declared.ident.Ident.TheBlock.{hidden-the_row-Unit-0, end_of-Unit, more_of-Unit}
use Rattle.bp_base.specs.Lists.{Among}
use Rattle.bp_base.specs.Texts.{Text}
use Rattle.unit_identity.specs.Fill.{found}
use Rattle.hole_unify.specs.declared.equation.Equation.{Equation}
use Rattle.hole_unify.specs.Causes.{IsLawful}
use Rattle.hole_unify.specs.Table.{Node, class_at, terms_in}
use Rattle.hole_unify.specs.Tables.{In, IsTable}
use Rattle.hole_unify.specs.Close.{IsSettled}
use Rattle.hole_unify.specs.Reach.{edges_of}
use Rattle.hole_unify.specs.Build.{built_at, at_class, ident_built, fills_built, module_of, has_module, least_hole}
use Rattle.hole_unify.specs.Build.{hole_of, term_ready, entry_of, node_ready, first_ready}
use Rattle.hole_unify.proofs.TableLemmas.{class_at-found}
use Rattle.hole_unify.proofs.GapLemmas.{fill-class}
use Rattle.hole_unify.proofs.ReachingLemmas.{Path, First, Then, edge-has}
use Rattle.hole_unify.proofs.BuildingLemmas.{all-built, least-hole, no-least, find-module, none-in}
use Rattle.hole_unify.proofs.UnitLemmas.{some-or-none, not-both, listed-unit, found-among}
use Rattle.hole_unify.proofs.UnifyingLemmas.{weight, fill-lighter}
use denote.Hole.Carrier.{hidden}

pub term_ready-Module : (nodes : List Node) (built : List (Option Ident)) (z : ℕ) (v : OfUnit) (y : Text)
    → term_ready nodes built z (Module v y) ≡ module_of v y (fills_built nodes built (out-Unit v).fills)
unfolding hidden-the_row-Unit-0 hidden
term_ready-Module nodes built z v y = refl

pub ruleset ready_equations = (term_ready-Module)

-- no hole's class reaches itself
pub record IsAcyclic (nodes : List Node) : Type 0 where
  pub holes : (n : Text) (k : ℕ) → In nodes (Hole n) k → Path (edges_of nodes nodes) k k → ⊥

-- a list without a number
without : ℕ → List ℕ → List ℕ
without k [] = []
without k (n ∷ ns) = cond (nat_eq n k) (without k ns) (n ∷ without k ns)

Among-without : (k m : ℕ) (l : List ℕ) → Among m l → (m ≡ k) ⊎ Among m (without k l)
unfolding without
Among-without k m [] h = absurd h
Among-without k m (n ∷ ns) (inl e) = by (nat_eq n k) refl
  where
    by : (b : Bool) → nat_eq n k ≡ b → (m ≡ k) ⊎ Among m (cond (nat_eq n k) (without k ns) (n ∷ without k ns))
    by true d = inl (sym e ∙ eqb-true n k d)
    by false d = inr (subst (λ b. Among m (cond b (without k ns) (n ∷ without k ns))) (sym d) (inl e))
Among-without k m (n ∷ ns) (inr h) = by (nat_eq n k) refl (Among-without k m ns h)
  where
    by : (b : Bool) → nat_eq n k ≡ b → (m ≡ k) ⊎ Among m (without k ns)
        → (m ≡ k) ⊎ Among m (cond (nat_eq n k) (without k ns) (n ∷ without k ns))
    by b d (inl x) = inl x
    by true d (inr x) = inr (subst (λ b. Among m (cond b (without k ns) (n ∷ without k ns))) (sym d) x)
    by false d (inr x) = inr (subst (λ b. Among m (cond b (without k ns) (n ∷ without k ns))) (sym d) (inr x))

without-less : (k : ℕ) (l : List ℕ) → length (without k l) ≤ length l
unfolding without
without-less k [] = omega arith
without-less k (n ∷ ns) = by (nat_eq n k) (without-less k ns)
  where
    by : (b : Bool) → length (without k ns) ≤ length ns
        → length (cond b (without k ns) (n ∷ without k ns)) ≤ length (n ∷ ns)
    by true h = omega (arith, h)
    by false h = omega (arith, h)

without-falls : (k : ℕ) (l : List ℕ) → Among k l → length (without k l) < length l
unfolding without
without-falls k [] h = absurd h
without-falls k (n ∷ ns) (inl e) =
    let p : length (cond (nat_eq n k) (without k ns) (n ∷ without k ns)) ≡ length (without k ns) =
    ap (λ b. length (cond b (without k ns) (n ∷ without k ns))) (eq-eqb n k e) in
    let q = without-less k ns in omega (arith, p, q)
without-falls k (n ∷ ns) (inr h) = by (nat_eq n k) (without-falls k ns h)
  where
    by : (b : Bool) → length (without k ns) < length ns
        → length (cond b (without k ns) (n ∷ without k ns)) < length (n ∷ ns)
    by true h = omega (arith, h)
    by false h = omega (arith, h)

module _ (es : List Equation) (lawful : IsLawful es) (nodes : List Node) (s : IsSettled es nodes)
    (acyclic : IsAcyclic nodes) (built : List (Option Ident)) (stuck : first_ready nodes built nodes ≡ None) where
  table : IsTable es nodes
  table = s.joined.table

  -- a class that is built
  abbrev Done : ℕ → Type 0
  Done k = (t : Ident) × (built_at k built ≡ Some t)

  -- the classes of a module's fills
  abbrev Fills : OfUnit → Type 0
  Fills u = (h : Text) (i : Ident) (l : ℕ) → found h (out-Unit u).fills ≡ Some i → class_at i nodes ≡ Some l → Done l

  rising : (u : OfUnit) (m : Text) (k : ℕ) → In nodes (Module u m) k → (f : Fill) → Among f (out-Unit u).fills
      → found f.hole (out-Unit u).fills ≡ Some f.ident
  rising u m k p f a = found-among (out-Unit u).fills f
      (lawful.rising u (listed-unit es u m (subst (λ v. Among v (terms_in es)) p.2 (table.only p.0 p.1)))) a

  -- a module whose fills are built is ready
  module-done : (u : OfUnit) (m : Text) (k : ℕ) → In nodes (Module u m) k → Fills u → Done k
  module-done u m k (x, h, i, c) fills = elim (some-or-none (built_at k built)) [
    | inr d ↦ d
    | inl n ↦ absurd (ready n)
  ]
    where
      each : (f : Fill) → Among f (out-Unit u).fills → (t : Ident) × (ident_built nodes built f.ident ≡ Some t)
      each f a =
          let found = rising u m k (x, h, i, c) f a in
          let class = fill-class es nodes table u m f.hole k f.ident (x, h, i, c) found in
          let done = fills f.hole f.ident class.0 found class.1 in
          (done.0, ap (at_class built) class.1 ∙ done.1)

      ready : built_at k built ≡ None → ⊥
      ready n =
          let l = all-built nodes built (out-Unit u).fills each in
          let term : term_ready nodes built x.class x.ident ≡ module_of u m (Some l.0) =
          ap (term_ready nodes built x.class) i ∙ term_ready-Module nodes built x.class u m
          ∙ ap (module_of u m) l.1 in
          let made : node_ready nodes built x ≡ Some (record { class = x.class; ident = _ }) =
          (λ w. entry_of x.class ((ap (λ z. built_at z built) c ∙ n) w) (term w)) in
          not-both _ _ made (none-in nodes built nodes stuck x h)

  -- a hole of a class without a module is ready
  hole-done : (n : Text) (k : ℕ) → In nodes (Hole n) k → has_module k nodes ≡ false → Done k
  hole-done n k (x, h, i, c) none = elim (some-or-none (built_at k built)) [
    | inr d ↦ d
    | inl e ↦ absurd (ready e (some-or-none (least_hole k nodes)))
  ]
    where
      ready : built_at k built ≡ None → (least_hole k nodes ≡ None) ⊎ ((m : Text) × (least_hole k nodes ≡ Some m)) → ⊥
      ready e (inl q) = no-least k nodes q n (x, h, i, c)
      ready e (inr (m, q)) =
          let term : term_ready nodes built x.class x.ident ≡ Some (Hole m) = ap (term_ready nodes built x.class) i
          ∙ ap (λ z. cond (has_module z nodes) None (hole_of (least_hole z nodes))) c
          ∙ ap (λ b. cond b None (hole_of (least_hole k nodes))) none ∙ ap hole_of q in
          let made : node_ready nodes built x ≡ Some (record { class = x.class; ident = Hole m }) =
          (λ w. entry_of x.class ((ap (λ z. built_at z built) c ∙ e) w) (term w)) in
          not-both _ _ made (none-in nodes built nodes stuck x h)

  -- each hole's class is among those left, or it reaches this class
  abbrev Left : List ℕ → ℕ → Type 0
  Left left k = (n : Text) (j : ℕ) → In nodes (Hole n) j → Among j left ⊎ Path (edges_of nodes nodes) j k

  edge : (u : OfUnit) (m h : Text) (k l : ℕ) (i : Ident) → In nodes (Module u m) k → found h (out-Unit u).fills ≡ Some i
      → class_at i nodes ≡ Some l → Among (record { from = k; to = l }) (edges_of nodes nodes)
  edge u m h k l i p f c = edge-has nodes u m h k l i p f c

  step-left : (left : List ℕ) (k l : ℕ) → Left left k → Among (record { from = k; to = l }) (edges_of nodes nodes)
      → Left left l
  step-left left k l so e n j p = elim (so n j p) [
    | inl a ↦ inl a
    | inr q ↦
        inr (Then j (record { from = k; to = l }) q e)
  ]

  step-without : (left : List ℕ) (k l : ℕ) → Left left k → Among (record { from = k; to = l }) (edges_of nodes nodes)
      → Left (without k left) l
  step-without left k l so e n j p = elim (so n j p) [
    | inl a ↦ elim (Among-without k j left a) [
      | inl i ↦ inr (subst (λ z. Path (edges_of nodes nodes) z l) (sym i) (First (record { from = k; to = l }) e))
      | inr b ↦ inl b
    ]
    | inr q ↦ inr (Then j (record { from = k; to = l }) q e)
  ]

  -- by the number of holes that are left
  abbrev Outer : ℕ → Type 0
  Outer n = (left : List ℕ) → length left < n → (a : Ident) (k : ℕ) → In nodes a k → Left left k → Done k

  -- a class with a hole
  with-hole : (n : ℕ) → Outer n → (left : List ℕ) → length left < suc n → (a : Ident) (k : ℕ) → In nodes a k
      → Left left k → (h : Text) → In nodes (Hole h) k → Done k
  with-hole n outer left lt a k p so h q = by (has_module k nodes) refl
    where
      here : Among k left
      here = elim (so h k q) [ inl x ↦ x | inr path ↦ absurd (acyclic.holes h k q path) ]

      by : (b : Bool) → has_module k nodes ≡ b → Done k
      by false d = hole-done h k q d
      by true d =
          let m = find-module k nodes d in
          module-done m.0 m.1 k m.2 (λ f i l e c.
          outer (without k left) (let x = without-falls k left here in
          omega (arith, x, lt)) i l (class_at-found i nodes l c)
          (step-without left k l so (edge m.0 m.1 f k l i m.2 e c)))

  -- by the weight of a term of the class
  inner : (n : ℕ) → Outer n → (w : ℕ) (left : List ℕ) → length left < suc n → (a : Ident) (k : ℕ) → weight a < w
      → In nodes a k → Left left k → Done k
  inner n outer zero left lt a k lw p so = absurd (omega (arith, lw))
  inner n outer (suc w) left lt a k lw p so = elim (some-or-none (least_hole k nodes)) [
    | inr q ↦ with-hole n outer left lt a k p so q.0 (least-hole k nodes q.0 q.1).0
    | inl q ↦ cases a lw p q (λ i l lw' p' so'. inner n outer w left lt i l lw' p' so')
  ]
    where
      cases : (b : Ident) → weight b < suc w → In nodes b k → least_hole k nodes ≡ None
          → ((i : Ident) (l : ℕ) → weight i < w → In nodes i l → Left left l → Done l) → Done k
      cases (Hole h) lw p q below = absurd (no-least k nodes q h p)
      cases (Module' y (more_of-Unit u end_of-Unit) m) lw p q below =
          let is = Module-is y u m in
          let here : In nodes (Module u m) k = subst (λ v. In nodes v k) is p in
          let light : weight (Module u m) < suc w = subst (λ v. weight v < suc w) is lw in
          module-done u m k here (λ h i l e c.
          below i l (let x = fill-lighter u m h i e in
          omega (arith, x, light)) (class_at-found i nodes l c) (step-left left k l so (edge u m h k l i here e c)))

  all : (n : ℕ) → Outer n
  all zero left lt a k p so = absurd (omega (arith, lt))
  all (suc n) left lt a k p so = inner n (all n) (suc (weight a)) left lt a k (let x : weight a ≡ weight a = refl in
      omega (arith, x)) p so

  classes : List ℕ
  classes = map (λ x. x.class) nodes

  pub all-done : (a : Ident) (k : ℕ) → In nodes a k → (t : Ident) × (built_at k built ≡ Some t)
  all-done a k p = all (suc (length (map (λ x. x.class) nodes))) (map (λ x. x.class) nodes) (omega arith) a k p
      (λ n j q. inl (subst (λ z. Among z (map (λ x. x.class) nodes)) q.3 (among-map (λ x. x.class) q.0 nodes q.1)))
