-- Names by number, and components as nodes.
use Rattle.std.proofs.Common.{◌≡◌, inl, inr, ℕ, zero, suc, Bool, true, false, true≢false, List, [], ◌∷◌}
use Rattle.std.proofs.Common.{◌++◌, None, map}
use Rattle.std.proofs.Common.{refl, sym, ap, ◌∙◌, subst}
use Rattle.std.specs.List.{flat_map}
use Rattle.std.specs.Str.{bytes_eq}
use Rattle.bp_base.specs.Texts.{Text}
use Rattle.bp_base.specs.Lists.{Among}
use Rattle.bp_base.proofs.TextLemmas.{same_texts, texts_same}
use Rattle.bp_base.proofs.SetLemmas.{is_among-there, there-is_among, among-left, among-right}
use Rattle.bp_base.proofs.SetLemmas.{among-image}
use Rattle.bp_checks.specs.Walk.{WalkStop, Visits, Stuck}
use Rattle.bp_checks.specs.BuildOrder.{Asked, asked_by}
use Rattle.bp_checks.specs.BuildOrder as names
use Rattle.graph_walk.specs.declared.walk.Use.{Use}
use Rattle.graph_walk.specs.Graph.{uses_at, is_there, wanted, walk_from}
use Rattle.cabal_component.specs.declared.component.Component.{Component}
use Rattle.project_order.specs.Order.{is_base, names_of, is_listed, project_deps, deps_in, build_order, order_refused}
use Rattle.project_order.specs.Numbers.{number_in, name_at, all_names, uses_of, nodes_of, stop_of, asked_of}
use Rattle.project_order.proofs.NamingLemmas.{visits-named, stuck-named, AreGood}

-- a name that has a number is the name of its number
pub named-back : (ns : List Text) (q : Text) → Among q ns → name_at ns (number_in ns q) ≡ q
named-back [] q h = absurd h
named-back (n ∷ ns) q h = by (bytes_eq n q) refl h (λ k. named-back ns q k)
  where
    by : (b : Bool) → bytes_eq n q ≡ b → Among q (n ∷ ns) → (Among q ns → name_at ns (number_in ns q) ≡ q)
        → name_at (n ∷ ns) (number_in (n ∷ ns) q) ≡ q
    by true e k more = rw e (same_texts n q e)
    by false e (inl k) more = absurd (true≢false (sym (texts_same n)
        ∙ subst (λ (x : Text). bytes_eq n x ≡ false) (sym k) e))
    by false e (inr k) more = rw e (more k)

-- the uses of a component's node are its dependencies, by number
uses-deps : (g : Text → ℕ) (ds : List Text) → uses_of g ds ≡ map g (project_deps ds)
uses-deps g [] = refl
uses-deps g (d ∷ ds) = by (is_base d) refl (uses-deps g ds)
  where
    by : (b : Bool) → is_base d ≡ b → uses_of g ds ≡ map g (project_deps ds)
        → uses_of g (d ∷ ds) ≡ map g (project_deps (d ∷ ds))
    by true e more = rw e more
    by false e more = rw e (ap (λ (xs : List ℕ). g d ∷ xs) more)

-- the node of the first component of a name is there
node-there : (g : Text → ℕ) (cs : List Component) (rest : List Text) (q : Text) → is_listed cs q ≡ true
    → is_there (nodes_of g cs) (number_in (names_of cs ++ rest) q) ≡ true
node-there g [] rest q h = absurd (cc h)
node-there g (c ∷ cs) rest q h =
    by (bytes_eq c.name q) refl (is_among-there q (names_of (c ∷ cs)) h) (λ k. node-there g cs rest q k)
  where
    by : (b : Bool) → bytes_eq c.name q ≡ b → Among q (names_of (c ∷ cs)) → (is_listed cs q ≡ true
        → is_there (nodes_of g cs) (number_in (names_of cs ++ rest) q) ≡ true)
        → is_there (nodes_of g (c ∷ cs)) (number_in (names_of (c ∷ cs) ++ rest) q) ≡ true
    by true e k more = rw e refl
    by false e (inl k) more = absurd (true≢false (sym (texts_same c.name)
        ∙ subst (λ (x : Text). bytes_eq c.name x ≡ false) (sym k) e))
    by false e (inr k) more = rw e (more (there-is_among q (names_of cs) k))

-- and uses what that component depends on
node-uses : (g : Text → ℕ) (cs : List Component) (rest : List Text) (q : Text) → is_listed cs q ≡ true
    → uses_at (nodes_of g cs) (number_in (names_of cs ++ rest) q) ≡ map g (deps_in cs q)
node-uses g [] rest q h = absurd (cc h)
node-uses g (c ∷ cs) rest q h =
    by (bytes_eq c.name q) refl (is_among-there q (names_of (c ∷ cs)) h) (λ k. node-uses g cs rest q k)
  where
    by : (b : Bool) → bytes_eq c.name q ≡ b → Among q (names_of (c ∷ cs)) → (is_listed cs q ≡ true
        → uses_at (nodes_of g cs) (number_in (names_of cs ++ rest) q) ≡ map g (deps_in cs q))
        → uses_at (nodes_of g (c ∷ cs)) (number_in (names_of (c ∷ cs) ++ rest) q) ≡ map g (deps_in (c ∷ cs) q)
    by true e k more = rw e (uses-deps g c.deps)
    by false e (inl k) more = absurd (true≢false (sym (texts_same c.name)
        ∙ subst (λ (x : Text). bytes_eq c.name x ≡ false) (sym k) e))
    by false e (inr k) more = rw e (more (there-is_among q (names_of cs) k))

-- a node that is there is a component's
there-named : (g : Text → ℕ) (cs : List Component) (rest : List Text) (v : ℕ) → is_there (nodes_of g cs) v ≡ true
    → Among (name_at (names_of cs ++ rest) v) (names_of cs)
there-named g [] rest v h = absurd (true≢false (sym h))
there-named g (c ∷ cs) rest zero h = inl refl
there-named g (c ∷ cs) rest (suc v) h = inr (there-named g cs rest v h)

kept : (d : Text) (ds : List Text) → Among d (project_deps ds) → Among d ds
kept d [] h = absurd h
kept d (x ∷ ds) h = by (is_base x) refl h (λ k. kept d ds k)
  where
    by : (b : Bool) → is_base x ≡ b → Among d (project_deps (x ∷ ds)) → (Among d (project_deps ds) → Among d ds)
        → Among d (x ∷ ds)
    by true e k more = inr (more (rw e at k))
    by false e k more =
        let z : Among d (x ∷ project_deps ds) = rw e at k in
        elim z [ inl i ↦ inl i | inr i ↦ inr (more i) ]

dep-listed : (cs : List Component) (q d : Text) → Among d (deps_in cs q) → Among d (flat_map (λ c. c.deps) cs)
dep-listed [] q d h = absurd h
dep-listed (c ∷ cs) q d h = by (bytes_eq c.name q) refl h (λ k. dep-listed cs q d k)
  where
    by : (b : Bool) → bytes_eq c.name q ≡ b → Among d (deps_in (c ∷ cs) q)
        → (Among d (deps_in cs q) → Among d (flat_map (λ x. x.deps) cs)) → Among d (flat_map (λ x. x.deps) (c ∷ cs))
    by true e k more =
        let z : Among d (project_deps c.deps) = rw e at k in
        among-left d c.deps (flat_map (λ x. x.deps) cs) (kept d c.deps z)
    by false e k more = among-right d c.deps (flat_map (λ x. x.deps) cs) (more (rw e at k))

map-back : (f : ℕ → Text) (g : Text → ℕ) (ds : List Text) → ((d : Text) → Among d ds → f (g d) ≡ d)
    → map f (map g ds) ≡ ds
map-back f g [] h = refl
map-back f g (d ∷ ds) h =
    ap (λ (x : Text). x ∷ map f (map g ds)) (h d (inl refl))
    ∙ ap (λ (xs : List Text). d ∷ xs) (map-back f g ds (λ x k. h x (inr k)))

assoc : (xs ys zs : List Text) → (xs ++ ys) ++ zs ≡ xs ++ (ys ++ zs)
assoc [] ys zs = refl
assoc (x ∷ xs) ys zs = ap (λ (ws : List Text). x ∷ ws) (assoc xs ys zs)

module _ (cs : List Component) (target : Text) (g : Text → ℕ)
    (is : (q : Text) → g q ≡ number_in (all_names cs target) q) where
  abbrev all : List Text
  all = all_names cs target

  abbrev rest : List Text
  rest = flat_map (λ c. c.deps) cs ++ target ∷ []

  abbrev f : ℕ → Text
  f v = name_at all v

  abbrev Good : ℕ → Type 0
  Good v = g (f v) ≡ v

  cut : all ≡ names_of cs ++ rest
  cut = assoc (names_of cs) (flat_map (λ c. c.deps) cs) (target ∷ [])

  number : (q : Text) → g q ≡ number_in (names_of cs ++ rest) q
  number q = is q ∙ ap (λ (ns : List Text). number_in ns q) cut

  back : (q : Text) → Among q all → f (g q) ≡ q
  back q h = ap (λ (v : ℕ). name_at all v) (is q) ∙ named-back all q h

  back-good : (q : Text) → Among q all → Good (g q)
  back-good q h = ap g (back q h)

  dep-among : (q d : Text) → Among d (deps_in cs q) → Among d all
  dep-among q d h = among-left d (names_of cs ++ flat_map (λ c. c.deps) cs) (target ∷ [])
      (among-right d (names_of cs) (flat_map (λ c. c.deps) cs) (dep-listed cs q d h))

  target-among : Among target all
  target-among = among-right target (names_of cs ++ flat_map (λ c. c.deps) cs) (target ∷ []) (inl refl)

  there-listed : (v : ℕ) → is_there (nodes_of g cs) v ≡ true → is_listed cs (f v) ≡ true
  there-listed v h =
      there-is_among (f v) (names_of cs)
      (subst (λ (ns : List Text). Among (name_at ns v) (names_of cs)) (sym cut) (there-named g cs rest v h))

  listed-there : (v : ℕ) → Good v → is_listed cs (f v) ≡ true → is_there (nodes_of g cs) v ≡ true
  listed-there v k h =
      subst (λ (w : ℕ). is_there (nodes_of g cs) w ≡ true) (sym (number (f v)) ∙ k) (node-there g cs rest (f v) h)

  same : (v : ℕ) → Good v → is_there (nodes_of g cs) v ≡ is_listed cs (f v)
  same v k = by (is_there (nodes_of g cs) v) refl (is_listed cs (f v)) refl
    where
      by : (b : Bool) → is_there (nodes_of g cs) v ≡ b → (d : Bool) → is_listed cs (f v) ≡ d
          → is_there (nodes_of g cs) v ≡ is_listed cs (f v)
      by true e d h = e ∙ sym (there-listed v e)
      by false e false h = e ∙ sym h
      by false e true h = absurd (true≢false (sym (listed-there v k h) ∙ e))

  uses-named : (v : ℕ) → Good v → is_there (nodes_of g cs) v ≡ true
      → uses_at (nodes_of g cs) v ≡ map g (deps_in cs (f v))
  uses-named v k h =
      subst (λ (w : ℕ). uses_at (nodes_of g cs) w ≡ map g (deps_in cs (f v))) (sym (number (f v)) ∙ k)
      (node-uses g cs rest (f v) (there-listed v h))

  used : (v : ℕ) → Good v → is_there (nodes_of g cs) v ≡ true → map f (uses_at (nodes_of g cs) v) ≡ deps_in cs (f v)
  used v k h =
      ap (λ (us : List ℕ). map f us) (uses-named v k h)
      ∙ map-back f g (deps_in cs (f v)) (λ d m. back d (dep-among (f v) d m))

  good : (v : ℕ) → Good v → is_there (nodes_of g cs) v ≡ true → AreGood Good (uses_at (nodes_of g cs) v)
  good v k h w m =
      let i = among-image g w (deps_in cs (f v)) (subst (λ (us : List ℕ). Among w us) (uses-named v k h) m) in
      subst Good i.2 (back-good i.0 (dep-among (f v) i.0 i.1))

  one : (v w : ℕ) → Good v → Good w → f v ≡ f w → v ≡ w
  one v w k m e = sym k ∙ ap g e ∙ m

  abbrev starts : List Use
  starts = map (wanted None) (g target ∷ [])

  start-good : (e : Use) → Among e starts → Good e.to
  start-good e (inl i) = subst (λ (u : Use). Good u.to) i (back-good target target-among)
  start-good e (inr none) = absurd none

  start-named : map (asked_of f) starts ≡ asked_by None target ∷ []
  start-named = ap (λ (name : Text). asked_by None name ∷ []) (back target target-among)

  -- the order of the nodes is that of the components
  pub order-named : (order : List ℕ) → (walk_from (nodes_of g cs) (g target ∷ [])).passes order
      → (build_order cs target).passes (map f order)
  unfolding build_order
  order-named order v =
      let r = visits-named (nodes_of g cs) (deps_in cs) (is_listed cs) f Good one same used good [] [] starts order
      (λ x h. absurd h) (λ x h. absurd h) start-good v in
      subst (λ (es : List Asked). Visits (λ e. e.name) (names.Asks (deps_in cs)) (names.IsAbsent (is_listed cs)) [] []
      es
      (map f order)) start-named r.1

  -- where the walk over nodes stops, that over components is refused
  pub stop-named : (s : WalkStop ℕ Use) → (walk_from (nodes_of g cs) (g target ∷ [])).fails s
      → (build_order cs target).fails (order_refused (stop_of f s))
  unfolding build_order
  stop-named s v =
      let r = stuck-named (nodes_of g cs) (deps_in cs) (is_listed cs) f Good one same used good [] [] starts s
      (λ x h. absurd h) (λ x h. absurd h) start-good v in (
        stop_of f s,
        subst (λ (es : List Asked). Stuck (λ e. e.name) (names.Asks (deps_in cs))
            (names.IsAbsent (is_listed cs)) [] [] es (stop_of f s)) start-named r,
        refl,
      )
