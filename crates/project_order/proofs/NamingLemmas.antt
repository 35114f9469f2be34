-- A walk over numbers is a walk over what they name.
use Rattle.std.proofs.Common.{◌≡◌, inl, inr, ℕ, Bool, true, false, List, [], ◌∷◌, ◌++◌, Some, map}
use Rattle.std.proofs.Common.{refl, sym, ap, ◌∙◌, subst}
use Rattle.std.proofs.lemmas.List.{map-append}
use Rattle.bp_base.specs.Texts.{Text}
use Rattle.bp_base.specs.Lists.{Among, IsNew}
use Rattle.bp_base.proofs.SetLemmas.{among-map, among-image, among-either}
use Rattle.bp_checks.specs.Walk.{WalkStop, IsClear, Visits, Stuck}
use Rattle.bp_checks.specs.Walk.Visits.{finished, met, visited}
use Rattle.bp_checks.specs.Walk.Stuck.{blocked, on_cycle, below_it, past_met, past_it}
use Rattle.bp_checks.specs.BuildOrder.{Asked, asked_by}
use Rattle.bp_checks.specs.BuildOrder as names
use Rattle.graph_walk.specs.declared.walk.Node.{Node}
use Rattle.graph_walk.specs.declared.walk.Use.{Use}
use Rattle.graph_walk.specs.Graph.{uses_at, is_there, wanted, Asks, IsAbsent}
use Rattle.project_order.specs.Numbers.{asked_of, stop_of}

-- each number of a list is one of these
abbrev pub AreGood : (ℕ → Type 0) → List ℕ → Type 0
AreGood Good vs = (v : ℕ) → Among v vs → Good v

abbrev pub AreGoodUses : (ℕ → Type 0) → List Use → Type 0
AreGoodUses Good es = (e : Use) → Among e es → Good e.to

module _ (nodes : List Node) (deps : Text → List Text) (there : Text → Bool) (f : ℕ → Text) (Good : ℕ → Type 0)
    (one : (v w : ℕ) → Good v → Good w → f v ≡ f w → v ≡ w)
    (same : (v : ℕ) → Good v → is_there nodes v ≡ there (f v))
    (used : (v : ℕ) → Good v → is_there nodes v ≡ true → map f (uses_at nodes v) ≡ deps (f v))
    (good : (v : ℕ) → Good v → is_there nodes v ≡ true → AreGood Good (uses_at nodes v)) where
  abbrev pub Goes : List ℕ → List ℕ → List Use → List ℕ → Type 0
  Goes path done todo new = Visits (λ e. e.to) (Asks nodes) (IsAbsent nodes) path done todo new

  abbrev pub Named : List Text → List Text → List Asked → List Text → Type 0
  Named path done todo new = Visits (λ e. e.name) (names.Asks deps) (names.IsAbsent there) path done todo new

  abbrev pub Stops : List ℕ → List ℕ → List Use → WalkStop ℕ Use → Type 0
  Stops path done todo s = Stuck (λ e. e.to) (Asks nodes) (IsAbsent nodes) path done todo s

  abbrev pub StopsNamed : List Text → List Text → List Asked → WalkStop Text Asked → Type 0
  StopsNamed path done todo s = Stuck (λ e. e.name) (names.Asks deps) (names.IsAbsent there) path done todo s

  among-named : (a : ℕ) (xs : List ℕ) → Good a → AreGood Good xs → Among (f a) (map f xs) → Among a xs
  among-named a xs g gs h =
      let i = among-image f (f a) xs h in
      subst (λ (v : ℕ). Among v xs) (one i.0 a (gs i.0 i.1) g i.2) i.1

  new-named : (path done : List ℕ) (a : ℕ) → Good a → AreGood Good path → AreGood Good done → IsNew path done a
      → IsNew (map f path) (map f done) (f a)
  new-named path done a g gp gd n = (λ h. n.0 (among-named a done g gd h), λ h. n.1 (among-named a path g gp h))

  clear-named : (path : List ℕ) (other : List Text) (e : Use) → Good e.to → IsClear (IsAbsent nodes) path e
      → IsClear (names.IsAbsent there) other (asked_of f e)
  clear-named path other e g c r p = c e (same e.to g ∙ p.0, refl)

  clear-there : (path : List ℕ) (e : Use) → IsClear (IsAbsent nodes) path e → is_there nodes e.to ≡ true
  clear-there path e c = by (is_there nodes e.to) refl
    where
      by : (b : Bool) → is_there nodes e.to ≡ b → is_there nodes e.to ≡ true
      by true is = is
      by false is = absurd (c e (is, refl))

  asks-named : (a : ℕ) (us : List ℕ) → map (asked_of f) (map (wanted (Some a)) us)
      ≡ map (asked_by (Some (f a))) (map f us)
  asks-named a [] = refl
  asks-named a (u ∷ us) = ap (λ (xs : List Asked). asked_by (Some (f a)) (f u) ∷ xs) (asks-named a us)

  below-named : (path : List ℕ) (e : Use) (below : List Use) → Good e.to → IsClear (IsAbsent nodes) path e
      → Asks nodes e.to below → names.Asks deps (f e.to) (map (asked_of f) below)
  below-named path e below g c s =
      ap (λ (us : List Use). map (asked_of f) us) s ∙ asks-named e.to (uses_at nodes e.to)
      ∙ ap (λ (ds : List Text). map (asked_by (Some (f e.to))) ds) (used e.to g (clear-there path e c))

  below-good : (path : List ℕ) (e : Use) (below : List Use) → Good e.to → IsClear (IsAbsent nodes) path e
      → Asks nodes e.to below → AreGoodUses Good below
  below-good path e below g c s u m =
      let h = subst (λ (us : List Use). Among u us) s m in
      let i = among-image (wanted (Some e.to)) u (uses_at nodes e.to) h in
      subst (λ (x : Use). Good x.to) i.2 (good e.to g (clear-there path e c) i.0 i.1)

  good-more : (xs : List ℕ) (a : ℕ) → AreGood Good xs → Good a → AreGood Good (a ∷ xs)
  good-more xs a gs g v (inl e) = subst Good e g
  good-more xs a gs g v (inr h) = gs v h

  good-last : (xs : List ℕ) (a : ℕ) → AreGood Good xs → Good a → AreGood Good (xs ++ a ∷ [])
  good-last xs a gs g v h = elim (among-either v xs (a ∷ []) h) [
    | inl k ↦ gs v k
    | inr k ↦
        elim k [ inl e ↦ subst Good e g | inr none ↦ absurd none ]
  ]

  -- an order by numbers is one by names
  pub visits-named : (path done : List ℕ) (todo : List Use) (new : List ℕ) → AreGood Good path → AreGood Good done
      → AreGoodUses Good todo → Goes path done todo new
      → AreGood Good new × Named (map f path) (map f done) (map (asked_of f) todo) (map f new)
  visits-named path done _ _ gp gd gt (finished _ _) = (gd, finished (map f path) (map f done))
  visits-named path done _ new gp gd gt (met _ _ e todo _ c m v) =
      let r = visits-named path done todo new gp gd (λ x h. gt x (inr h)) v in (
        r.0,
        met (map f path) (map f done) (asked_of f e) (map (asked_of f) todo) (map f new)
            (clear-named path (map f path) e (gt e (inl refl)) c) (among-map f e.to done m) r.1,
      )
  visits-named path done _ new gp gd gt (visited _ _ e todo _ below mid c n s v w) =
      let g = gt e (inl refl) in
      let r = visits-named (e.to ∷ path) done below mid (good-more path e.to gp g) gd (below-good path e below g c s) v
      in
      let q = visits-named path (mid ++ e.to ∷ []) todo new gp (good-last mid e.to r.0 g) (λ x h. gt x (inr h)) w in (
        q.0,
        visited (map f path) (map f done) (asked_of f e) (map (asked_of f) todo) (map f new)
            (map (asked_of f) below) (map f mid) (clear-named path (map f path) e g c)
            (new-named path done e.to g gp gd n)
            (below-named path e below g c s) r.1
            (subst (λ (x : List Text). Named (map f path) x (map (asked_of f) todo) (map f new))
            (map-append f mid (e.to ∷ [])) q.1),
      )

  -- where a walk over numbers stops, one over names does
  pub stuck-named : (path done : List ℕ) (todo : List Use) (s : WalkStop ℕ Use) → AreGood Good path → AreGood Good done
      → AreGoodUses Good todo → Stops path done todo s
      → StopsNamed (map f path) (map f done) (map (asked_of f) todo) (stop_of f s)
  stuck-named path done _ _ gp gd gt (blocked _ _ e todo r b) =
      blocked (map f path) (map f done) (asked_of f e) (map (asked_of f) todo) (asked_of f r)
      (sym (same e.to (gt e (inl refl))) ∙ b.0, ap (λ (u : Use). asked_of f u) b.1)
  stuck-named path done _ _ gp gd gt (on_cycle _ _ e todo c n p) =
      let g = gt e (inl refl) in
      on_cycle (map f path) (map f done) (asked_of f e) (map (asked_of f) todo)
      (clear-named path (map f path) e g c) (λ h. n (among-named e.to done g gd h)) (among-map f e.to path p)
  stuck-named path done _ s gp gd gt (below_it _ _ e todo below _ c n a v) =
      let g = gt e (inl refl) in
      below_it (map f path) (map f done) (asked_of f e) (map (asked_of f) todo) (map (asked_of f) below) (stop_of f s)
      (clear-named path (map f path) e g c) (new-named path done e.to g gp gd n) (below-named path e below g c a)
      (stuck-named (e.to ∷ path) done below s (good-more path e.to gp g) gd (below-good path e below g c a) v)
  stuck-named path done _ s gp gd gt (past_met _ _ e todo _ c m v) =
      past_met (map f path) (map f done) (asked_of f e) (map (asked_of f) todo) (stop_of f s)
      (clear-named path (map f path) e (gt e (inl refl)) c) (among-map f e.to done m)
      (stuck-named path done todo s gp gd (λ x h. gt x (inr h)) v)
  stuck-named path done _ s gp gd gt (past_it _ _ e todo below mid _ c n a v w) =
      let g = gt e (inl refl) in
      let r = visits-named (e.to ∷ path) done below mid (good-more path e.to gp g) gd (below-good path e below g c a) v
      in
      past_it (map f path) (map f done) (asked_of f e) (map (asked_of f) todo) (map (asked_of f) below) (map f mid)
      (stop_of f s) (clear-named path (map f path) e g c) (new-named path done e.to g gp gd n)
      (below-named path e below g c a) r.1
      (subst (λ (x : List Text). StopsNamed (map f path) x (map (asked_of f) todo) (stop_of f s))
      (map-append f mid (e.to ∷ []))
      (stuck-named path (mid ++ e.to ∷ []) todo s gp (good-last mid e.to r.0 g) (λ x h. gt x (inr h)) w))
