-- Which classes reach which, by the edges of a table.
use Rattle.std.proofs.Common.{◌≡◌, ℕ, ◌+◌, ◌<◌, ◌≤◌, Bool, true, false, ◌&&◌, ◌||◌, not, cond, nat_eq, List, [], ◌∷◌}
use Rattle.std.proofs.Common.{◌++◌, length, ◌⊎◌, inl, inr, refl, ap, sym, ◌∙◌, subst, arith}
use Rattle.std.proofs.lemmas.Bool.{eqb-true, eq-eqb}
use Rattle.std.specs.Prelude.{Option, Some, None}
use Rattle.std.specs.Ordering.{nat_cmp, ordering_reverse}
use Rattle.std.specs.Cmp.Lexicographic.{slice_cmp}
use Rattle.std.specs.Str.{bytes_eq}
use Rattle.std.proofs.lemmas.Cmp.{nat_list_cmp_total}
use Rattle.std.specs.declared.cmp.Ordering.{Ordering}
use Rattle.std.specs.declared.cmp.Ordering.TheVariants.{Less, Equal, Greater}
use Rattle.std.proofs.lemmas.Option.{same_Some}
use Rattle.bp_base.proofs.SetLemmas.{among-left, among-right, among-either}
use Rattle.bp_base.proofs.IdentLemmas.{Module-is, Hole-not-Module}
use Rattle.bp_base.specs.declared.ident.Ident.{Ident}
use Rattle.bp_base.specs.declared.ident.Ident.TheVariants.{Hole, Module, Module'}
use Rattle.bp_base.specs.declared.ident.Unit.{Unit as OfUnit, out-Unit}
use Rattle.bp_base.specs.declared.ident.Fill.{Fill}
use Rattle.bp_base.specs.declared.ident.Ident.TheBlock.{hidden-the_row-Unit-0, end_of-Unit, more_of-Unit}
use Rattle.bp_base.specs.Lists.{Among}
use Rattle.bp_base.specs.Texts.{Text, Before}
use Rattle.bp_base.proofs.TextLemmas.{same_texts, tied_texts, Before-transitive, not_before_itself}
use Rattle.unit_identity.specs.Fill.{found}
use Rattle.hole_unify.specs.declared.equation.Equation.{Equation}
use Rattle.hole_unify.specs.Table.{Node}
use Rattle.hole_unify.specs.declared.edge.Edge.{Edge}
use Rattle.hole_unify.specs.Classes.{Same, Itself, Reaches, Next, Through}
use Rattle.hole_unify.specs.Table.{class_at}
use Rattle.hole_unify.specs.Tables.{In, IsTable}
use Rattle.hole_unify.specs.Reach.{class_edge, fill_edge, fills_edges, term_edges, edges_of, holds, next_reached}
use Rattle.hole_unify.specs.Reach.{with_one, reached, on_cycle, before, lesser, least_from}
use Rattle.hole_unify.proofs.TableLemmas.{class_at-found, sound-In}
use Rattle.hole_unify.specs.Close.{IsSettled}
use Rattle.hole_unify.proofs.GapLemmas.{settled-same, fill-class}
use denote.Hole.Carrier.{hidden}

-- ---- edges

-- an edge goes from the class of a module to the class of one of its fills
pub record IsEdge (nodes : List Node) (e : Edge) : Type 0 where
  pub unit : OfUnit
  pub name : Text
  pub hole : Text
  pub ident : Ident
  pub from : In nodes (Module unit name) e.from
  pub fill : found hole (out-Unit unit).fills ≡ Some ident
  pub to : class_at ident nodes ≡ Some e.to

module _ (nodes : List Node) where
  term_edges-Module : (k : ℕ) (u : OfUnit) (m : Text)
      → term_edges nodes k (Module u m) ≡ fills_edges nodes k (out-Unit u).fills (out-Unit u).fills
  unfolding hidden-the_row-Unit-0 hidden
  term_edges-Module k u m = refl

  class_edge-says : (k : ℕ) (u : OfUnit) (m h : Text) (i : Ident) (e : Edge) (o : Option ℕ) → In nodes (Module u m) k
      → found h (out-Unit u).fills ≡ Some i → class_at i nodes ≡ o → Among e (class_edge k o) → IsEdge nodes e
  class_edge-says k u m h i e None p f c a = absurd a
  class_edge-says k u m h i e (Some l) p f c (inl is) =
      subst (IsEdge nodes) is (record { unit = u; name = m; hole = h; ident = i; from = p; fill = f; to = c })
  class_edge-says k u m h i e (Some l) p f c (inr a) = absurd a

  fill_edge-says : (k : ℕ) (u : OfUnit) (m h : Text) (e : Edge) (o : Option Ident) → In nodes (Module u m) k
      → found h (out-Unit u).fills ≡ o → Among e (fill_edge nodes k o) → IsEdge nodes e
  fill_edge-says k u m h e None p f a = absurd a
  fill_edge-says k u m h e (Some i) p f a = class_edge-says k u m h i e (class_at i nodes) p f refl a

  fills_edges-say : (k : ℕ) (u : OfUnit) (m : Text) (e : Edge) (fs : List Fill) → In nodes (Module u m) k
      → Among e (fills_edges nodes k (out-Unit u).fills fs) → IsEdge nodes e
  fills_edges-say k u m e [] p a = absurd a
  fills_edges-say k u m e (f ∷ fs) p a = elim (among-either e
      (fill_edge nodes k (found f.hole (out-Unit u).fills)) _ a) [
        | inl b ↦ fill_edge-says k u m f.hole e (found f.hole (out-Unit u).fills) p refl b
        | inr c ↦ fills_edges-say k u m e fs p c
      ]

  term_edges-say : (k : ℕ) (t : Ident) (e : Edge) → In nodes t k → Among e (term_edges nodes k t) → IsEdge nodes e
  term_edges-say k (Hole n) e p a = absurd a
  term_edges-say k (Module' s (more_of-Unit u end_of-Unit) m) e p a =
      fills_edges-say k u m e (out-Unit u).fills (subst (λ v. In nodes v k) (Module-is s u m) p) a

  edges-say : (rest : List Node) (e : Edge) → ((x : Node) → Among x rest → Among x nodes)
      → Among e (edges_of nodes rest) → IsEdge nodes e
  edges-say [] e inside a = absurd a
  edges-say (x ∷ rest) e inside a = elim (among-either e (term_edges nodes x.class x.ident) _ a) [
    | inl b ↦ term_edges-say x.class x.ident e (x, inside x (inl refl), refl, refl) b
    | inr c ↦ edges-say rest e (λ y h. inside y (inr h)) c
  ]

  pub edge-says : (e : Edge) → Among e (edges_of nodes nodes) → IsEdge nodes e
  edge-says e a = edges-say nodes e (λ x h. h) a

  fills_edges-has : (k l : ℕ) (all fs : List Fill) (h : Text) (i j : Ident) → found h fs ≡ Some j → found h all ≡ Some i
      → class_at i nodes ≡ Some l → Among (record { from = k; to = l }) (fills_edges nodes k all fs)
  fills_edges-has k l all [] h i j f g c = cc
  fills_edges-has k l all (x ∷ fs) h i j f g c = by (bytes_eq x.hole h) refl f
      (λ e. fills_edges-has k l all fs h i j e g c)
    where
      edge : Edge
      edge = record { from = k; to = l }

      by : (b : Bool) → bytes_eq x.hole h ≡ b → cond b (Some x.ident) (found h fs) ≡ Some j
          → (found h fs ≡ Some j → Among edge (fills_edges nodes k all fs))
          → Among edge (fills_edges nodes k all (x ∷ fs))
      by true d e r =
          let here : found x.hole all ≡ Some i = ap (λ n. found n all) (same_texts x.hole h d) ∙ g in
          among-left edge (fill_edge nodes k (found x.hole all)) _
          (subst (λ o. Among edge (fill_edge nodes k o)) (sym here)
          (subst (λ o. Among edge (class_edge k o)) (sym c) (inl refl)))
      by false d e r = among-right edge (fill_edge nodes k (found x.hole all)) _ (r e)

  edges-have : (rest : List Node) (x : Node) (u : OfUnit) (m h : Text) (i : Ident) (l : ℕ) → Among x rest
      → x.ident ≡ Module u m → found h (out-Unit u).fills ≡ Some i → class_at i nodes ≡ Some l
      → Among (record { from = x.class; to = l }) (edges_of nodes rest)
  edges-have [] x u m h i l a is f c = absurd a
  edges-have (y ∷ rest) x u m h i l (inl e) is f c =
      let here : Among (record { from = x.class; to = l }) (term_edges nodes x.class x.ident) =
      subst (λ t. Among (record { from = x.class; to = l }) (term_edges nodes x.class t)) (sym is)
      (subst (λ es. Among (record { from = x.class; to = l }) es) (sym (term_edges-Module x.class u m))
      (fills_edges-has x.class l (out-Unit u).fills (out-Unit u).fills h i i f f c)) in
      among-left _ (term_edges nodes y.class y.ident) _
      (subst (λ z. Among (record { from = x.class; to = l }) (term_edges nodes z.class z.ident)) (sym e) here)
  edges-have (y ∷ rest) x u m h i l (inr a) is f c =
      among-right _ (term_edges nodes y.class y.ident) _ (edges-have rest x u m h i l a is f c)

  pub edge-has : (u : OfUnit) (m h : Text) (k l : ℕ) (i : Ident) → In nodes (Module u m) k
      → found h (out-Unit u).fills ≡ Some i → class_at i nodes ≡ Some l
      → Among (record { from = k; to = l }) (edges_of nodes nodes)
  edge-has u m h k l i (x, a, is, c) f d = subst (λ z. Among (record { from = z; to = l }) (edges_of nodes nodes)) c
      (edges-have nodes x u m h i l a is f d)

-- ---- paths

pub data Path (all : List Edge) : ℕ → ℕ → Type 0 where
  First : (e : Edge) → Among e all → Path all e.from e.to
  Then : (k : ℕ) (e : Edge) → Path all k e.from → Among e all → Path all k e.to

pub Path-joined : (all : List Edge) (k l n : ℕ) → Path all k l → Path all l n → Path all k n
Path-joined all k l n p (First e a) = Then k e p a
Path-joined all k l n p (Then x e q a) = Then k e (Path-joined all k x e.from p q) a

pub holds-says : (k : ℕ) (l : List ℕ) → holds k l ≡ true → Among k l
holds-says k [] e = cc
holds-says k (n ∷ ns) e = by (nat_eq n k) refl e (holds-says k ns)
  where
    by : (b : Bool) → nat_eq n k ≡ b → b || holds k ns ≡ true → (holds k ns ≡ true → Among k ns) → (n ≡ k) ⊎ Among k ns
    by true d f r = inl (eqb-true n k d)
    by false d f r = inr (r f)

pub holds-has : (k : ℕ) (l : List ℕ) → Among k l → holds k l ≡ true
holds-has k [] h = absurd h
holds-has k (n ∷ ns) (inl e) = ap (λ b. b || holds k ns) (eq-eqb n k e)
holds-has k (n ∷ ns) (inr h) = by (nat_eq n k) (holds-has k ns h)
  where
    by : (b : Bool) → holds k ns ≡ true → b || holds k ns ≡ true
    by true e = refl
    by false e = e

module _ (k : ℕ) (all : List Edge) where
  -- one step more
  record IsNext (done : List ℕ) (n : ℕ) : Type 0 where
    edge : Edge
    among : Among edge all
    from : (edge.from ≡ k) ⊎ Among edge.from done
    new : holds edge.to done ≡ false
    to : edge.to ≡ n

  test-says : (e : Edge) (done : List ℕ) → (nat_eq e.from k || holds e.from done) && not (holds e.to done) ≡ true
      → ((e.from ≡ k) ⊎ Among e.from done) × (holds e.to done ≡ false)
  test-says e done = by (nat_eq e.from k) (holds e.from done) (holds e.to done) refl refl refl
    where
      by : (a b c : Bool) → nat_eq e.from k ≡ a → holds e.from done ≡ b → holds e.to done ≡ c
          → (nat_eq e.from k || holds e.from done) && not (holds e.to done) ≡ true
          → ((e.from ≡ k) ⊎ Among e.from done) × (holds e.to done ≡ false)
      by true b false p q r t = (inl (eqb-true e.from k p), r)
      by false true false p q r t = (inr (holds-says e.from done q), r)
      by true b true p q r t = let f : false ≡ true = (λ w. (sym p w || holds e.from done) && not (sym r w)) ∙ t in cc
      by false true true p q r t = let f : false ≡ true = (λ w. (sym p w || sym q w) && not (sym r w)) ∙ t in cc
      by false false c p q r t = let f : false ≡ true = (λ w. (sym p w || sym q w) && not (holds e.to done)) ∙ t in cc

  test-fails : (e : Edge) (done : List ℕ) → (nat_eq e.from k || holds e.from done) && not (holds e.to done) ≡ false
      → (e.from ≡ k) ⊎ Among e.from done → Among e.to done
  test-fails e done t o = by (holds e.to done) refl
    where
      start : nat_eq e.from k || holds e.from done ≡ true
      start = elim o [
        | inl d ↦ ap (λ b. b || holds e.from done) (eq-eqb e.from k d)
        | inr a ↦
            either (nat_eq e.from k) (holds-has e.from done a)
      ]
        where
          either : (b : Bool) → holds e.from done ≡ true → b || holds e.from done ≡ true
          either true d = refl
          either false d = d

      by : (c : Bool) → holds e.to done ≡ c → Among e.to done
      by true r = holds-says e.to done r
      by false r = let f : true ≡ false = (λ w. sym start w && not (sym r w)) ∙ t in cc

  next-says : (es : List Edge) (done : List ℕ) (n : ℕ) → ((e : Edge) → Among e es → Among e all)
      → next_reached k done es ≡ Some n → IsNext done n
  next-says [] done n inside e = cc
  next-says (x ∷ es) done n inside e = by ((nat_eq x.from k || holds x.from done) && not (holds x.to done)) refl e
      (next-says es done n (λ y h. inside y (inr h)))
    where
      by : (b : Bool) → (nat_eq x.from k || holds x.from done) && not (holds x.to done) ≡ b
          → cond b (Some x.to) (next_reached k done es) ≡ Some n → (next_reached k done es ≡ Some n → IsNext done n)
          → IsNext done n
      by true t f r = let s = test-says x done t in
          record { edge = x; among = inside x (inl refl); from = s.0; new = s.1; to = same_Some x.to n f }
      by false t f r = r f

  next-none : (es : List Edge) (done : List ℕ) → next_reached k done es ≡ None → (e : Edge) → Among e es
      → (e.from ≡ k) ⊎ Among e.from done → Among e.to done
  next-none [] done f e h o = absurd h
  next-none (x ∷ es) done f e h o = by ((nat_eq x.from k || holds x.from done) && not (holds x.to done)) refl f h
      (λ g a. next-none es done g e a o)
    where
      by : (b : Bool) → (nat_eq x.from k || holds x.from done) && not (holds x.to done) ≡ b
          → cond b (Some x.to) (next_reached k done es) ≡ None → (x ≡ e) ⊎ Among e es
          → (next_reached k done es ≡ None → Among e es → Among e.to done) → Among e.to done
      by true t g a r = cc
      by false t g (inl is) r = subst (λ z. Among z.to done) is
          (test-fails x done t (subst (λ z. (z.from ≡ k) ⊎ Among z.from done) (sym is) o))
      by false t g (inr a) r = r g a

  -- what is reached has a path
  reached-path : (turns : List Edge) (done : List ℕ) → ((n : ℕ) → Among n done → Path all k n) → (n : ℕ)
      → Among n (reached k all done turns) → Path all k n
  reached-path [] done so n a = so n a
  reached-path (t ∷ turns) done so n a = reached-path turns (with_one done (next_reached k done all))
      (with (next_reached k done all) refl) n a
    where
      step : (m : ℕ) → IsNext done m → Path all k m
      step m x = subst (Path all k) x.to (elim x.from [
        | inl e ↦
            subst (λ z. Path all z x.edge.to) e (First x.edge x.among)
        | inr b ↦
            Then k x.edge (so x.edge.from b) x.among
      ])

      with : (o : Option ℕ) → next_reached k done all ≡ o → (m : ℕ) → Among m (with_one done o) → Path all k m
      with None e m h = so m h
      with (Some p) e m h = elim (among-either m done (p ∷ []) h) [
        | inl b ↦ so m b
        | inr c ↦
            elim c [ inl i ↦ subst (Path all k) i (step p (next-says all done p (λ x y. y) e)) | inr f ↦ absurd f ]
      ]

  abbrev open_one : Bool → ℕ
  open_one true = 0
  open_one false = 1

  -- the edges whose end is not reached
  left : List Edge → List ℕ → ℕ
  left [] done = 0
  left (e ∷ es) done = open_one (holds e.to done) + left es done

  holds-more : (n m : ℕ) (done : List ℕ) → holds n done ≡ true → holds n (done ++ m ∷ []) ≡ true
  holds-more n m done h = holds-has n (done ++ m ∷ []) (among-left n done (m ∷ []) (holds-says n done h))

  one-less : (e : Edge) (done : List ℕ) (n : ℕ) → open_one (holds e.to (done ++ n ∷ [])) ≤ open_one (holds e.to done)
  one-less e done n = by (holds e.to done) refl (holds e.to (done ++ n ∷ [])) refl
    where
      by : (a : Bool) → holds e.to done ≡ a → (b : Bool) → holds e.to (done ++ n ∷ []) ≡ b
          → open_one (holds e.to (done ++ n ∷ [])) ≤ open_one (holds e.to done)
      by true p b q = let x : open_one (holds e.to (done ++ n ∷ [])) ≡ 0 = ap open_one (holds-more e.to n done p) in
          omega (arith, x)
      by false p true q = let x : open_one (holds e.to (done ++ n ∷ [])) ≡ 0 = ap open_one q in omega (arith, x)
      by false p false q = let x : open_one (holds e.to (done ++ n ∷ [])) ≡ 1 = ap open_one q in
          let y : open_one (holds e.to done) ≡ 1 = ap open_one p in omega (arith, x, y)

  left-less : (es : List Edge) (done : List ℕ) (n : ℕ) → left es (done ++ n ∷ []) ≤ left es done
  unfolding left
  left-less [] done n = omega arith
  left-less (e ∷ es) done n = let a = one-less e done n in let b = left-less es done n in omega (arith, a, b)

  left-falls : (es : List Edge) (done : List ℕ) (n : ℕ) (x : Edge) → Among x es → holds x.to done ≡ false → x.to ≡ n
      → left es (done ++ n ∷ []) < left es done
  unfolding left
  left-falls [] done n x h p is = absurd h
  left-falls (e ∷ es) done n x (inl i) p is =
      let old : open_one (holds e.to done) ≡ 1 = ap open_one (ap (λ z. holds z.to done) i ∙ p) in
      let new : open_one (holds e.to (done ++ n ∷ [])) ≡ 0 =
      ap open_one (holds-has e.to (done ++ n ∷ [])
      (among-right e.to done (n ∷ []) (inl (sym (ap (λ z. z.to) i ∙ is))))) in
      let b = left-less es done n in omega (arith, old, new, b)
  left-falls (e ∷ es) done n x (inr h) p is = let a = one-less e done n in let b = left-falls es done n x h p is in
      omega (arith, a, b)

  left-all : (es : List Edge) → left es [] ≤ length es
  unfolding left
  left-all [] = omega arith
  left-all (e ∷ es) = let b = left-all es in omega (arith, b)

  next-falls : (done : List ℕ) (n : ℕ) → IsNext done n → left all (done ++ n ∷ []) < left all done
  next-falls done n x = left-falls all done n x.edge x.among x.new x.to

  stays : (turns : List Edge) (done : List ℕ) → next_reached k done all ≡ None
      → next_reached k (reached k all done turns) all ≡ None
  stays [] done e = e
  stays (t ∷ turns) done e = subst (λ o. next_reached k (reached k all (with_one done o) turns) all ≡ None) (sym e)
      (stays turns done e)

  ends : (turns : List Edge) (done : List ℕ) → left all done ≤ length turns
      → next_reached k (reached k all done turns) all ≡ None
  ends [] done le = by (next_reached k done all) refl
    where
      by : (o : Option ℕ) → next_reached k done all ≡ o → next_reached k done all ≡ None
      by None e = e
      by (Some n) e = absurd (let f = next-falls done n (next-says all done n (λ x y. y) e) in omega (arith, f, le))
  ends (t ∷ turns) done le = by (next_reached k done all) refl (λ n l. ends turns (done ++ n ∷ []) l)
    where
      by : (o : Option ℕ) → next_reached k done all ≡ o
          → ((n : ℕ) → left all (done ++ n ∷ []) ≤ length turns
          → next_reached k (reached k all (done ++ n ∷ []) turns) all ≡ None)
          → next_reached k (reached k all (with_one done (next_reached k done all)) turns) all ≡ None
      by None e r = subst (λ o. next_reached k (reached k all (with_one done o) turns) all ≡ None) (sym e)
          (stays turns done e)
      by (Some n) e r = subst (λ o. next_reached k (reached k all (with_one done o) turns) all ≡ None) (sym e)
          (r n (let f = next-falls done n (next-says all done n (λ x y. y) e) in omega (arith, f, le)))

  path-reached : (done : List ℕ) → next_reached k done all ≡ None → (l n : ℕ) → Path all l n → l ≡ k → Among n done
  path-reached done e l n (First x a) is = next-none all done e x a (inl is)
  path-reached done e l n (Then y x p a) is = next-none all done e x a (inr (path-reached done e y x.from p is))

  pub cycle-path : on_cycle k all ≡ true → Path all k k
  cycle-path e = reached-path all [] (λ n h. absurd h) k (holds-says k (reached k all [] all) e)

  pub path-cycle : Path all k k → on_cycle k all ≡ true
  path-cycle p = holds-has k (reached k all [] all)
      (path-reached (reached k all [] all) (ends all [] (left-all all)) k k p refl)

-- ---- the classes of a settled table

module _ (es : List Equation) (nodes : List Node) (s : IsSettled es nodes) where
  table : IsTable es nodes
  table = s.joined.table

  edges : List Edge
  edges = edges_of nodes nodes

  path-reaches : (k l : ℕ) → Path (edges_of nodes nodes) k l → (a b : Ident) → In nodes a k → In nodes b l
      → Reaches es a b
  path-reaches k l (First e h) a b p q =
      let x = edge-says nodes e h in
      Next a b x.unit x.name x.hole x.ident (sound-In es nodes table a (Module x.unit x.name) e.from p x.from) x.fill
      (sound-In es nodes table x.ident b e.to (class_at-found x.ident nodes e.to x.to) q)
  path-reaches k l (Then j e path h) a b p q =
      let x = edge-says nodes e h in
      let here : Reaches es a (Module x.unit x.name) = path-reaches j e.from path a (Module x.unit x.name) p x.from in
      let last : Reaches es (Module x.unit x.name) b =
      Next (Module x.unit x.name) b x.unit x.name x.hole x.ident (Itself (Module x.unit x.name)) x.fill
      (sound-In es nodes table x.ident b e.to (class_at-found x.ident nodes e.to x.to) q) in
      Through a (Module x.unit x.name) b here last

  -- what is the same as something in the table is in the table
  follow : (a b : Ident) (k : ℕ) → Same es a b → In nodes a k → In nodes b k
  follow a b k same p = elim (settled-same es nodes s a b same) [
    | inl e ↦ subst (λ z. In nodes z k) e p
    | inr o ↦ subst (λ z. In nodes b z) (table.one a o.0 k o.1 p) o.2
  ]

  reaches-path : (a b : Ident) → Reaches es a b → (k : ℕ) → In nodes a k
      → (l : ℕ) × In nodes b l × Path (edges_of nodes nodes) k l
  reaches-path a b (Next x y u m h i same f to) k p =
      let here : In nodes (Module u m) k = follow x (Module u m) k same p in
      let class = fill-class es nodes table u m h k i here f in (
        class.0,
        follow i y class.0 to (class_at-found i nodes class.0 class.1),
        First (record { from = k; to = class.0 }) (edge-has nodes u m h k class.0 i here f class.1),
      )
  reaches-path a b (Through x y z r t) k p =
      let first = reaches-path x y r k p in
      let second = reaches-path y z t first.0 first.1 in
      (second.0, second.1, Path-joined (edges_of nodes nodes) k first.0 second.0 first.2 second.2)

  reaches-listed : (a b : Ident) → Reaches es a b → (n : Text) → a ≡ Hole n → (k : ℕ) × In nodes a k
  reaches-listed a b (Next x y u m h i same f to) n is = elim (settled-same es nodes s x (Module u m) same) [
    | inl e ↦ absurd (Hole-not-Module n u m (sym is ∙ e))
    | inr o ↦ (o.0, o.1)
  ]
  reaches-listed a b (Through x y z r t) n is = reaches-listed x y r n is

  -- a hole's class reaches itself exactly where the table says so
  pub cycle-listed : (n : Text) → Reaches es (Hole n) (Hole n)
      → (k : ℕ) × In nodes (Hole n) k × (on_cycle k (edges_of nodes nodes) ≡ true)
  cycle-listed n r =
      let p = reaches-listed (Hole n) (Hole n) r n refl in
      let q = reaches-path (Hole n) (Hole n) r p.0 p.1 in (
        p.0,
        p.1,
        path-cycle p.0 (edges_of nodes nodes)
            (subst (Path (edges_of nodes nodes) p.0) (table.one (Hole n) q.0 p.0 q.1 p.1) q.2),
      )

  pub listed-cycle : (n : Text) (k : ℕ) → In nodes (Hole n) k → on_cycle k (edges_of nodes nodes) ≡ true
      → Reaches es (Hole n) (Hole n)
  listed-cycle n k p e = path-reaches k k (cycle-path k (edges_of nodes nodes) e) (Hole n) (Hole n) p p

-- ---- the least of names

-- what the least of some names is
pub record IsLeast (best : Option Text) (os : List (Option Text)) (n : Text) : Type 0 where
  pub given : (best ≡ Some n) ⊎ Among (Some n) os
  pub first : (m : Text) → (best ≡ Some m) ⊎ Among (Some m) os → Before m n → ⊥

lesser-one : (best new : Option Text) (n : Text) → lesser best new ≡ Some n → (best ≡ Some n) ⊎ (new ≡ Some n)
lesser-one best None n e = inl (lesser-None best ∙ e)
  where
    lesser-None : (b : Option Text) → b ≡ lesser b None
    lesser-None None = refl
    lesser-None (Some x) = refl
lesser-one None (Some x) n e = inr e
lesser-one (Some y) (Some x) n e = by (slice_cmp nat_cmp x y) e
  where
    by : (o : Ordering) → Some (before o x y) ≡ Some n → (Some y ≡ Some n) ⊎ (Some x ≡ Some n)
    by Less f = inr f
    by Equal f = inl f
    by Greater f = inl f

-- neither is before the lesser one
lesser-first : (best new : Option Text) (n m : Text) → lesser best new ≡ Some n → (best ≡ Some m) ⊎ (new ≡ Some m)
    → Before m n → ⊥
lesser-first None None n m e (inl f) b = cc
lesser-first None None n m e (inr f) b = cc
lesser-first (Some y) None n m e (inl f) b = not_before_itself n (subst (λ z. Before z n) (same_Some m n (sym f ∙ e)) b)
lesser-first (Some y) None n m e (inr f) b = cc
lesser-first None (Some x) n m e (inl f) b = cc
lesser-first None (Some x) n m e (inr f) b = not_before_itself n (subst (λ z. Before z n) (same_Some m n (sym f ∙ e)) b)
lesser-first (Some y) (Some x) n m e o b = by (slice_cmp nat_cmp x y) refl e o
  where
    itself : (z : Text) → Some z ≡ Some n → Some z ≡ Some m → ⊥
    itself z f g = not_before_itself n (subst (λ v. Before v n) (same_Some m n (sym g ∙ f)) b)

    by : (c : Ordering) → slice_cmp nat_cmp x y ≡ c → Some (before c x y) ≡ Some n
        → (Some y ≡ Some m) ⊎ (Some x ≡ Some m) → ⊥
    by Less d f (inl g) = not_before_itself y (Before-transitive y x y
        (subst (λ v. Before y v) (sym (same_Some x n f)) (subst (λ v. Before v n) (sym (same_Some y m g)) b)) d)
    by Less d f (inr g) = itself x f g
    by Equal d f (inl g) = itself y f g
    by Equal d f (inr g) = itself y f (ap Some (sym (tied_texts x y d)) ∙ g)
    by Greater d f (inl g) = itself y f g
    by Greater d f (inr g) =
        let under : Before x y = subst (λ v. Before x v) (sym (same_Some y n f))
        (subst (λ v. Before v n) (sym (same_Some x m g)) b) in
        let clash : Less ≡ Greater = sym under ∙ d in cc

least-is : (os : List (Option Text)) (best : Option Text) (n : Text) → least_from best os ≡ Some n → IsLeast best os n
least-is [] best n e = record {
  given = inl e;
  first = λ m o b. elim o [
    | inl f ↦ not_before_itself n
        (subst (λ z. Before z n) (same_Some m n (sym f ∙ e)) b)
    | inr a ↦ absurd a
  ];
}
least-is (o ∷ os) best n e =
    let r = least-is os (lesser best o) n e in
    record { given = given r.given; first = first r.first r.given }
  where
    given : (lesser best o ≡ Some n) ⊎ Among (Some n) os → (best ≡ Some n) ⊎ Among (Some n) (o ∷ os)
    given (inl f) = elim (lesser-one best o n f) [ inl a ↦ inl a | inr b ↦ inr (inl b) ]
    given (inr a) = inr (inr a)

    some : (best ≡ None → ⊥) ⊎ (o ≡ None → ⊥) → (k : Text) × (lesser best o ≡ Some k)
    some = by best o refl refl
      where
        by : (x y : Option Text) → best ≡ x → o ≡ y → (best ≡ None → ⊥) ⊎ (o ≡ None → ⊥)
            → (k : Text) × (lesser best o ≡ Some k)
        by None None p q (inl f) = absurd (f p)
        by None None p q (inr f) = absurd (f q)
        by (Some x) None p q f = (x, (λ w. lesser (p w) (q w)))
        by None (Some y) p q f = (y, (λ w. lesser (p w) (q w)))
        by (Some x) (Some y) p q f = (before (slice_cmp nat_cmp y x) y x, (λ w. lesser (p w) (q w)))

    -- a name before the least would be before the lesser one, or be the lesser one
    under : ((m : Text) → (lesser best o ≡ Some m) ⊎ Among (Some m) os → Before m n → ⊥) → (m : Text)
        → (best ≡ Some m) ⊎ (o ≡ Some m) → Before m n → ⊥
    under rest m p b =
        let k = some (elim p [
          | inl f ↦ inl (λ g. let h : Some m ≡ None = sym f ∙ g in
              cc)
          | inr f ↦ inr (λ g. let h : Some m ≡ None = sym f ∙ g in cc)
        ]) in
        order k.0 k.1 (slice_cmp nat_cmp k.0 m) refl
      where
        order : (k : Text) → lesser best o ≡ Some k → (c : Ordering) → slice_cmp nat_cmp k m ≡ c → ⊥
        order k e Less d = rest k (inl e) (Before-transitive k m n d b)
        order k e Equal d = rest k (inl e) (subst (λ z. Before z n) (sym (tied_texts k m d)) b)
        order k e Greater d = lesser-first best o k m e p (nat_list_cmp_total.antisymm m k ∙ ap ordering_reverse d)

    first : ((m : Text) → (lesser best o ≡ Some m) ⊎ Among (Some m) os → Before m n → ⊥)
        → (lesser best o ≡ Some n) ⊎ Among (Some n) os → (m : Text) → (best ≡ Some m) ⊎ Among (Some m) (o ∷ os)
        → Before m n → ⊥
    first rest g m (inl f) b = under rest m (inl f) b
    first rest g m (inr (inl f)) b = under rest m (inr f) b
    first rest g m (inr (inr a)) b = rest m (inr a) b

lesser-none : (best o : Option Text) → lesser best o ≡ None → (best ≡ None) × (o ≡ None)
lesser-none None None e = (refl, refl)
lesser-none (Some x) None e = cc
lesser-none None (Some y) e = cc
lesser-none (Some x) (Some y) e = cc

least-none : (os : List (Option Text)) (best : Option Text) → least_from best os ≡ None
    → (best ≡ None) × ((n : Text) → Among (Some n) os → ⊥)
least-none [] best e = (e, λ n a. a)
least-none (o ∷ os) best e =
    let r = least-none os (lesser best o) e in
    let p = lesser-none best o r.0 in
    (p.0, λ n a. elim a [ inl f ↦ let g : Some n ≡ None = sym f ∙ p.1 in cc | inr h ↦ r.1 n h ])

pub least-of : (os : List (Option Text)) (n : Text) → least_from None os ≡ Some n
    → Among (Some n) os × ((m : Text) → Among (Some m) os → Before m n → ⊥)
least-of os n e =
    let r = least-is os None n e in
    (elim r.given [ inl f ↦ cc | inr a ↦ a ], λ m a b. r.first m (inr a) b)

pub least-of-none : (os : List (Option Text)) → least_from None os ≡ None → (n : Text) → Among (Some n) os → ⊥
least-of-none os e = (least-none os None e).1
