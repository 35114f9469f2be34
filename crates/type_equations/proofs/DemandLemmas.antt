-- Demands one after another, at new unknowns, and in other words.
use Rattle.std.proofs.Common.{◌≡◌, refl, sym, ap, ap₂, ◌∙◌, subst, ℕ, zero, suc, ◌+◌, ◌<◌, ◌≤◌, List, [], ◌∷◌, ◌++◌}
use Rattle.std.proofs.Common.{arith}
use Rattle.std.proofs.lemmas.List.{map-append, append_assoc, append-nil, length-append}
use Rattle.std.proofs.lemmas.Option.{slice_get_within, none-some, same_Some}
use Rattle.std.specs.Prelude.{Some, slice_get, length, get_or}
use Rattle.type_terms.specs.Terms.{var, con, app, applied, Every}
use Rattle.hs_core.specs.Types.{KindTerm, star, arrow, TypeTerm, TypeAssignment}
use Rattle.hs_core.specs.Kinds.{HasKind}
use Rattle.hs_core.specs.Schemes.{Bound}
use Rattle.hs_core.specs.Globals.{Globals, plain_names}
use Rattle.type_unify.specs.Types.{Plain, rigid, named, bare, Assignment, Bound as Binding, Solves, EveryBound}
use Rattle.kind_check.specs.Forms.{is_below, any_name}
use Rattle.kind_check.proofs.WalkLemmas.{below-of-test, EveryBound-more}
use Rattle.type_equations.specs.Coded.{IsForm, type_code, type_of, kind_or_star}
use Rattle.type_equations.specs.States.{State, Guess, coded, Meets, read_back, IsReady, Equated, NotEqual}
use Rattle.type_equations.specs.declared.equations.Binder.{Binder}
use Rattle.type_equations.specs.Demands.{Demand, typed_names, AllStar, Agree, Imposes, HasNone, IsLocal, nothing}
use Rattle.type_equations.specs.Demands.{equal, both}
use Rattle.type_equations.specs.Demands.{spliced, with_types, HaveKinds, some, with_unknowns}
use Rattle.type_equations.proofs.CodedLemmas.{type_of-has}

-- ---- guesses that agree

pub agree-itself : (n : ℕ) (g : Guess) → Agree n g g
agree-itself n g = record { kinds = refl; types = λ i l. refl }

pub agree-twice : (n : ℕ) (f g h : Guess) → Agree n f g → Agree n g h → Agree n f h
agree-twice n f g h p q = record { kinds = p.kinds ∙ q.kinds; types = λ i l. p.types i l ∙ q.types i l }

pub agree-less : (m n : ℕ) (g h : Guess) → m ≤ n → Agree n g h → Agree m g h
agree-less m n g h l p = record { kinds = p.kinds; types = λ i b. p.types i (omega (arith, l, b)) }

pub typed_names-agree : (ks : List KindTerm) (bs : List Binder) (g h : Guess) → AllStar ks bs → Agree (length ks) g h
    → typed_names g bs ≡ typed_names h bs
typed_names-agree ks [] g h s a = refl
typed_names-agree ks (b ∷ bs) g h s a = ap₂ (λ t l. record { name = b.name; type = t } ∷ l)
    (a.types b.unknown (slice_get_within ks b.unknown star s.0)) (typed_names-agree ks bs g h s.1 a)

-- ---- growing lists

pub slice_get-front : {A : Type 0} (xs ys : List A) (i : ℕ) (x : A) → slice_get xs i ≡ Some x
    → slice_get (xs ++ ys) i ≡ Some x
slice_get-front [] ys i x h = absurd (none-some x h)
slice_get-front (y ∷ xs) ys zero x h = h
slice_get-front (y ∷ xs) ys (suc i) x h = slice_get-front xs ys i x h

pub slice_get-grown : {A : Type 0} (xs ys : List A) (i : ℕ) → i < length xs → slice_get xs i ≡ slice_get (xs ++ ys) i
slice_get-grown [] ys i l = absurd (omega (arith, l))
slice_get-grown (x ∷ xs) ys zero l = refl
slice_get-grown (x ∷ xs) ys (suc i) l = slice_get-grown xs ys i (omega (arith, l))

pub stars-front : (ks js : List KindTerm) (bs : List Binder) → AllStar ks bs → AllStar (ks ++ js) bs
stars-front ks js [] h = tt
stars-front ks js (b ∷ bs) h = (slice_get-front ks js b.unknown star h.0, stars-front ks js bs h.1)

pub stars-append : (ks : List KindTerm) (front bs : List Binder) → AllStar ks front → AllStar ks bs
    → AllStar ks (front ++ bs)
stars-append ks [] bs p q = q
stars-append ks (a ∷ front) bs p q = (p.0, stars-append ks front bs p.1 q)

pub grows-length : (ks js more : List KindTerm) → js ≡ ks ++ more → length ks ≤ length js
grows-length ks js more e = let p : length js ≡ length ks + length more = ap length e
    ∙ length-append ks more in omega (arith, p)

-- a type stays of its kind where there are more unknowns
pub form-front : (G : Globals) (ks js : List KindTerm) (t : Plain) (k : KindTerm) → IsForm G ks t k
    → IsForm G (ks ++ js) t k
form-front G ks js (var i) k h = slice_get-front ks js i k h
form-front G ks js (con (rigid i)) k h = h
form-front G ks js (con (named n j)) k h = h
form-front G ks js (app (var i) a) k h = h
form-front G ks js (app (con c) a) k h = h
form-front G ks js (app (app c f) a) k (j, e, p, q) =
    (j, e, form-front G ks js f (arrow j k) p, form-front G ks js a j q)

-- ---- bindings see the unknowns that they have

applied-below : (n : ℕ) (s r : Assignment) (t : Plain) → ((i : ℕ) → i < n → s i ≡ r i) → Every (is_below n) any_name t
    → applied s t ≡ applied r t
applied-below n s r (var i) p e = p i (below-of-test i n e)
applied-below n s r (con c) p e = refl
applied-below n s r (app f a) p e = ap₂ app (applied-below n s r f p e.0) (applied-below n s r a p e.1)

pub solves-below : (n : ℕ) (s r : Assignment) (bs : List Binding) → ((i : ℕ) → i < n → s i ≡ r i)
    → EveryBound (is_below n) any_name bs → Solves s bs → Solves r bs
solves-below n s r [] p e m = tt
solves-below n s r (b ∷ bs) p e m = (
  ap bare (sym (p b.id (below-of-test b.id n e.0))) ∙ m.0 ∙ ap bare (applied-below n s r b.term p e.1),
  solves-below n s r bs p e.2 m.1,
)

-- ---- types for new unknowns

pub spliced-front : (ks : List KindTerm) (us : List TypeTerm) (g : TypeAssignment) (i : ℕ) → i < length ks
    → g i ≡ spliced ks us g i
spliced-front [] us g i l = absurd (omega (arith, l))
spliced-front (k ∷ ks) us g zero l = refl
spliced-front (k ∷ ks) us g (suc i) l = spliced-front ks us (λ j. g (suc j)) i (omega (arith, l))

pub agree-with : (ks : List KindTerm) (us : List TypeTerm) (g : Guess) → Agree (length ks) g (with_types ks us g)
agree-with ks us g = record { kinds = refl; types = λ i l. spliced-front ks us g.types i l }

module _ (G : Globals) where
  kinds-at : (g : Guess) (us : List TypeTerm) (js : List KindTerm) (i : ℕ) (k : KindTerm) (d : TypeTerm)
      → HaveKinds G g us js → slice_get js i ≡ Some k → HasKind (plain_names G) g.kinds (get_or us i d) k
  kinds-at g [] js i k d h e = absurd (none-some k (sym (ap (λ z. slice_get z i) h) ∙ e))
  kinds-at g (u ∷ us) [] i k d h e = absurd h
  kinds-at g (u ∷ us) (j ∷ js) zero k d h e = subst (λ z. HasKind (plain_names G) g.kinds u z) (same_Some j k e) h.0
  kinds-at g (u ∷ us) (j ∷ js) (suc i) k d h e = kinds-at g us js i k d h.1 e

  spliced-kinds : (g : Guess) (us : List TypeTerm) (js : List KindTerm) → HaveKinds G g us js
      → (ks : List KindTerm) (f : TypeAssignment)
      → ((i : ℕ) (k : KindTerm) → slice_get ks i ≡ Some k → HasKind (plain_names G) g.kinds (f i) k)
      → (i : ℕ) (k : KindTerm) → slice_get (ks ++ js) i ≡ Some k
      → HasKind (plain_names G) g.kinds (spliced ks us f i) k
  spliced-kinds g us js h [] f kd i k e = kinds-at g us js i k (f i) h e
  spliced-kinds g us js h (j ∷ ks) f kd zero k e = kd 0 k e
  spliced-kinds g us js h (j ∷ ks) f kd (suc i) k e = spliced-kinds g us js h ks (λ m. f (suc m))
      (λ m n p. kd (suc m) n p) i k e

  -- a guess with types for new unknowns meets the equations
  pub meets-with : (state : State) (js : List KindTerm) (us : List TypeTerm) (g : Guess) → IsReady G state
      → Meets G g state → HaveKinds G g us js
      → Meets G (with_types state.kinds us g) (with_unknowns state js)
  meets-with state js us g r m h = record {
    solves = solves-below (length state.kinds) (coded G g) (coded G (with_types state.kinds us g)) state.bindings
        (λ i l. ap (λ t. type_code G g.kinds t) (spliced-front state.kinds us g.types i l)) r.below m.solves;
    kinded = spliced-kinds g us js h state.kinds g.types m.kinded;
  }

  pub meets-without : (state : State) (js : List KindTerm) (g : Guess) → Meets G g (with_unknowns state js)
      → Meets G g state
  meets-without state js g m = record {
    solves = m.solves;
    kinded = λ i k e. m.kinded i k (slice_get-front state.kinds js i k e);
  }

  -- new unknowns leave the equations ready
  pub ready-with : (state : State) (js : List KindTerm) → IsReady G state → IsReady G (with_unknowns state js)
  ready-with state js r = record {
    triangular = r.triangular;
    below = EveryBound-more (length state.kinds) (length (state.kinds ++ js)) state.bindings
        (grows-length state.kinds (state.kinds ++ js) js refl) r.below;
    decides = λ kinds rich s o. record {
      solves = solves-below (length state.kinds) (coded G (read_back G kinds rich state.kinds s))
          (coded G (read_back G kinds rich (state.kinds ++ js) s)) state.bindings
          (λ i l. ap (λ m. type_code G kinds (type_of G (λ j. (rich j).0) (kind_or_star m) (s i)))
          (slice_get-grown state.kinds js i l)) r.below
          (r.decides kinds rich s o).solves;
      kinded = λ i k e. subst
          (λ z. HasKind (plain_names G) kinds (type_of G (λ j. (rich j).0) (kind_or_star z) (s i)) k) (sym e)
          (type_of-has G kinds (λ j. (rich j).0) (λ j. (rich j).1) k (s i));
    };
  }

  -- ---- demands

  pub imposed_nothing : (state : State) → IsReady G state → Imposes G nothing nothing [] state state
  imposed_nothing state r = record {
    ready = r;
    more = [];
    grows = sym (append-nil state.kinds);
    stars = tt;
    sound = λ g m. (m, refl);
    complete = λ g bs m e. (g, agree-itself (length state.kinds) g, m, e);
  }

  pub imposed_equation : (old new : State) (t u : Plain) → Equated G old new t u
      → Imposes G (equal t u) (equal t u) [] old new
  imposed_equation old new t u h = record {
    ready = h.ready;
    more = [];
    grows = h.same ∙ sym (append-nil old.kinds);
    stars = tt;
    sound = λ g m. let a = (h.meets g).0 m in (a.0, (a.1, refl));
    complete = λ g bs m e. (g, agree-itself (length old.kinds) g, (h.meets g).1 (m, e.0), e.1);
  }

  pub imposed_both : (first_gives first_takes then_gives then_takes : Demand) (front bs : List Binder)
      (old middle new : State) → IsLocal (length old.kinds) then_takes
      → Imposes G first_gives first_takes front old middle → Imposes G then_gives then_takes bs middle new
      → Imposes G (both first_gives then_gives) (both first_takes then_takes) (front ++ bs) old new
  imposed_both first_gives first_takes then_gives then_takes front bs old middle new loc p q = record {
    ready = q.ready;
    more = p.more ++ q.more;
    grows = q.grows ∙ ap (λ z. z ++ q.more) p.grows ∙ append_assoc old.kinds p.more q.more;
    stars = stars-append new.kinds front bs
        (subst (λ z. AllStar z front) (sym q.grows) (stars-front middle.kinds q.more front p.stars)) q.stars;
    sound = λ g m. let b = q.sound g m in let a = p.sound g b.0 in
        (a.0, (typed_names g front, typed_names g bs, a.1, b.1, map-append _ front bs));
    complete = λ g xs m t. let a = p.complete g t.0 m t.2 in
        let b = q.complete a.0 t.1 a.2 (loc g a.0 t.1 a.1 t.3) in (
          b.0,
          agree-twice (length old.kinds) g a.0 b.0 a.1
              (agree-less (length old.kinds) (length middle.kinds) a.0 b.0
              (grows-length old.kinds middle.kinds p.more p.grows) b.1),
          b.2,
          t.4 ∙ ap₂ (λ x y. x ++ y) (a.3 ∙ typed_names-agree middle.kinds front a.0 b.0 p.stars b.1) b.3
              ∙ sym (map-append _ front bs),
        );
  }

  pub imposed_unknowns : (gives takes : Demand) (bs : List Binder) (state new : State) (js : List KindTerm)
      → IsReady G state → Imposes G gives takes bs (with_unknowns state js) new
      → Imposes G gives (some G state.kinds js takes) bs state new
  imposed_unknowns gives takes bs state new js r p = record {
    ready = p.ready;
    more = js ++ p.more;
    grows = p.grows ∙ append_assoc state.kinds js p.more;
    stars = p.stars;
    sound = λ g m. let a = p.sound g m in (meets-without state js g a.0, a.1);
    complete = λ g xs m t.
        let a = p.complete (with_types state.kinds t.0 g) xs (meets-with state js t.0 g r m t.1) t.2 in (
          a.0,
          agree-twice (length state.kinds) g (with_types state.kinds t.0 g) a.0 (agree-with state.kinds t.0 g)
              (agree-less (length state.kinds) (length (state.kinds ++ js)) (with_types state.kinds t.0 g) a.0
              (grows-length state.kinds (state.kinds ++ js) js refl) a.1),
          a.2,
          a.3,
        );
  }

  pub imposed_so : (gives gives' takes takes' : Demand) (bs : List Binder) (old new : State)
      → ((g : Guess) (xs : List Bound) → Meets G g old → gives g xs → gives' g xs)
      → ((g : Guess) (xs : List Bound) → Meets G g old → takes' g xs → takes g xs)
      → Imposes G gives takes bs old new → Imposes G gives' takes' bs old new
  imposed_so gives gives' takes takes' bs old new f h p = record {
    ready = p.ready;
    more = p.more;
    grows = p.grows;
    stars = p.stars;
    sound = λ g m. let a = p.sound g m in (a.0, f g (typed_names g bs) a.0 a.1);
    complete = λ g xs m t. p.complete g xs m (h g xs m t);
  }

  -- ---- what no guess has

  pub none_equal : (state : State) (t u : Plain) → NotEqual G state t u → HasNone G (equal t u) state
  none_equal state t u h g bs m e = h g m e.0

  pub none_first : (first later : Demand) (state : State) → HasNone G first state → HasNone G (both first later) state
  none_first first later state h g bs m t = h g t.0 m t.2

  pub none_later : (first_gives first_takes later : Demand) (front : List Binder) (old middle : State)
      → IsLocal (length old.kinds) later → Imposes G first_gives first_takes front old middle → HasNone G later middle
      → HasNone G (both first_takes later) old
  none_later first_gives first_takes later front old middle loc p h g bs m t =
      let a = p.complete g t.0 m t.2 in h a.0 t.1 a.2 (loc g a.0 t.1 a.1 t.3)

  pub none_some : (takes : Demand) (state : State) (js : List KindTerm) → IsReady G state
      → HasNone G takes (with_unknowns state js) → HasNone G (some G state.kinds js takes) state
  none_some takes state js r h g bs m t =
      h (with_types state.kinds t.0 g) bs (meets-with state js t.0 g r m t.1) t.2

  pub none_so : (takes takes' : Demand) (state : State)
      → ((g : Guess) (xs : List Bound) → Meets G g state → takes' g xs → takes g xs)
      → HasNone G takes state → HasNone G takes' state
  none_so takes takes' state f h g bs m t = h g bs m (f g bs m t)
