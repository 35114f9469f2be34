-- Going through a type: one lemma for each case.
use Rattle.std.proofs.Common.{◌≡◌, ℕ, suc, ◌<◌, ◌≤◌, true, ltb-true, eq-eqb, List, [], ◌∷◌, inl, inr, refl, sym, ap}
use Rattle.std.proofs.Common.{ap₂, subst, ◌∙◌, arith}
use Rattle.std.specs.Prelude.{nat_eq, if◌then◌else◌}
use Rattle.bp_base.specs.declared.ty.OrigName.{OrigName}
use Rattle.type_terms.specs.Terms.{var, con, app, applied, Every}
use Rattle.hs_core.specs.Types.{KindTerm, arrow, TypeTerm}
use Rattle.hs_core.specs.Kinds.{NameKinds, HasKind}
use Rattle.type_unify.specs.Types.{Plain, bare, Bound, EveryBound}
use Rattle.type_unify.proofs.SolvingLemmas.{test_cases}
use Rattle.kind_check.specs.Forms.{Guess, code, value, IsForm, coded, Meets, is_below, any_name, AreReady, Equated}
use Rattle.kind_check.specs.Forms.{NotEqual}
use Rattle.kind_check.specs.Scopes.{Agree}
use Rattle.kind_check.specs.Walks.{Demand, Imposes, NoGuess, fits, Local}
use Rattle.kind_check.proofs.FormLemmas.{below-test}

-- ---- guesses that agree

pub below-of-test : (i n : ℕ) → is_below n i ≡ true → i < n
below-of-test i n h = ltb-true i n h

pub Agree-trans : (n : ℕ) (f g h : Guess) → Agree n f g → Agree n g h → Agree n f h
Agree-trans n f g h p q i l = p i l ∙ q i l

pub Agree-less : (m n : ℕ) (g h : Guess) → m ≤ n → Agree n g h → Agree m g h
Agree-less m n g h l p i b = p i (omega (arith, l, b))

applied-agree : (n : ℕ) (g h : Guess) (t : Plain) → Agree n g h → Every (is_below n) any_name t
    → applied (coded g) t ≡ applied (coded h) t
applied-agree n g h (var i) p e = ap code (p i (below-of-test i n e))
applied-agree n g h (con c) p e = refl
applied-agree n g h (app f a) p e = ap₂ app (applied-agree n g h f p e.0) (applied-agree n g h a p e.1)

pub Meets-agree : (n : ℕ) (g h : Guess) (bs : List Bound) → Agree n g h → EveryBound (is_below n) any_name bs
    → Meets g bs → Meets h bs
Meets-agree n g h [] p e m = tt
Meets-agree n g h (b ∷ bs) p e m = (
  ap bare (ap code (sym (p b.id (below-of-test b.id n e.0)))) ∙ m.0
      ∙ ap bare (applied-agree n g h b.term p e.1),
  Meets-agree n g h bs p e.2 m.1,
)

pub value-agree : (n : ℕ) (g h : Guess) (t : Plain) → Agree n g h → IsForm n t → value g t ≡ value h t
value-agree n g h (var i) p e = p i e
value-agree n g h (con c) p e = refl
value-agree n g h (app f a) p e = ap₂ arrow (value-agree n g h f p e.0) (value-agree n g h a p e.1)

pub Every-more : (m n : ℕ) (t : Plain) → m ≤ n → Every (is_below m) any_name t → Every (is_below n) any_name t
Every-more m n (var i) l e = below-test i n (omega (arith, l, below-of-test i m e))
Every-more m n (con c) l e = e
Every-more m n (app f a) l e = (Every-more m n f l e.0, Every-more m n a l e.1)

pub EveryBound-more : (m n : ℕ) (bs : List Bound) → m ≤ n → EveryBound (is_below m) any_name bs
    → EveryBound (is_below n) any_name bs
EveryBound-more m n [] l e = tt
EveryBound-more m n (b ∷ bs) l e = (
  below-test b.id n (omega (arith, l, below-of-test b.id m e.0)),
  Every-more m n b.term l e.1,
  EveryBound-more m n bs l e.2,
)

pub AreReady-more : (m n : ℕ) (bs : List Bound) → m ≤ n → AreReady bs m → AreReady bs n
AreReady-more m n bs l r =
    record { triangular = r.triangular; below = EveryBound-more m n bs l r.below; decides = r.decides }

pub IsForm-more : (m n : ℕ) (t : Plain) → m ≤ n → IsForm m t → IsForm n t
IsForm-more m n (var i) l e = omega (arith, l, e)
IsForm-more m n (con c) l e = e
IsForm-more m n (app f a) l e = (IsForm-more m n f l e.0, IsForm-more m n a l e.1)

-- a guess with another kind for one unknown
abbrev pub put : ℕ → KindTerm → Guess → Guess
put n k g i = if nat_eq n i then k else g i

pub put-agree : (n : ℕ) (k : KindTerm) (g : Guess) → Agree n g (put n k g)
put-agree n k g i l = elim (test_cases n i) [ inl p ↦ absurd (omega (arith, l, p.0)) | inr p ↦ rw p refl ]

pub put-at : (n : ℕ) (k : KindTerm) (g : Guess) → put n k g n ≡ k
put-at n k g = rw (eq-eqb n n refl) refl

-- ---- kinds of types in scopes that say the same

pub HasKind-map : (N M : NameKinds) (f g : ℕ → KindTerm) (t : TypeTerm) (k : KindTerm)
    → ((m : OrigName) (j : KindTerm) → N m j → M m j) → ((i : ℕ) → f i ≡ g i)
    → HasKind N f t k → HasKind M g t k
HasKind-map N M f g (var i) k p q h = sym (q i) ∙ h
HasKind-map N M f g (con m) k p q h = p m k h
HasKind-map N M f g (app a b) k p q h =
    (h.0, HasKind-map N M f g a (arrow h.0 k) p q h.1, HasKind-map N M f g b h.0 p q h.2)

-- a guess that agrees gives the type the same kind
pub fits-agree : (names : Guess → NameKinds) (vars : Guess → ℕ → KindTerm) (n : ℕ) (t : TypeTerm) (j : KindTerm)
    (g h : Guess) → Local names vars n → Agree n g h
    → HasKind (names g) (vars g) t j → HasKind (names h) (vars h) t j
fits-agree names vars n t j g h l a f = HasKind-map (names g) (names h) (vars g) (vars h) t j (l.named g h a)
    (l.ranged g h a) f

-- ---- a variable or a name

pub leaf : (demand : Demand) (old new : List Bound) (n : ℕ) (s t : Plain)
    → ((g : Guess) → value g s ≡ value g t → demand g) → ((g : Guess) → demand g → value g s ≡ value g t)
    → Equated old new n s t → Imposes demand old new n n
leaf demand old new n s t there back e = record {
  ready = e.ready;
  grows = omega arith;
  sound = λ g m. let o = (e.meets g).0 m in (o.0, there g o.1);
  complete = λ g m d. (g, λ i l. refl, (e.meets g).1 (m, back g d));
}

pub leaf_none : (demand : Demand) (old : List Bound) (s t : Plain) → ((g : Guess) → demand g → value g s ≡ value g t)
    → NotEqual old s t → NoGuess demand old
leaf_none demand old s t back unequal g m d = unequal g m (back g d)

-- ---- an application

-- with the argument's kind put for the new unknown, the function fits
split : (names : Guess → NameKinds) (vars : Guess → ℕ → KindTerm) (f a : TypeTerm) (k : Plain) (n : ℕ) (g : Guess)
    → Local names vars n → IsForm n k
    → (h : fits names vars (app f a) k g) → fits names vars f (app (var n) k) (put n h.0 g)
split names vars f a k n g l form h =
    subst (λ j. HasKind (names (put n h.0 g)) (vars (put n h.0 g)) f j)
    (ap₂ arrow (sym (put-at n h.0 g)) (value-agree n g (put n h.0 g) k (put-agree n h.0 g) form))
    (fits-agree names vars n f (arrow h.0 (value g k)) g (put n h.0 g) l (put-agree n h.0 g) h.1)

-- and so does the argument, by each guess that agrees with that one
argument : (names : Guess → NameKinds) (vars : Guess → ℕ → KindTerm) (f a : TypeTerm) (k : Plain) (n : ℕ) (g : Guess)
    (hit : fits names vars (app f a) k g) (h : Guess) → Local names vars n
    → Agree (suc n) (put n hit.0 g) h → fits names vars a (var n) h
argument names vars f a k n g hit h l agree =
    subst (λ j. HasKind (names h) (vars h) a j)
    (sym (put-at n hit.0 g) ∙ agree n (omega arith))
    (fits-agree names vars n a hit.0 g h l
    (Agree-trans n g (put n hit.0 g) h (put-agree n hit.0 g)
    (Agree-less n (suc n) (put n hit.0 g) h (omega arith) agree)) hit.2)

pub application : (names : Guess → NameKinds) (vars : Guess → ℕ → KindTerm) (f a : TypeTerm) (k : Plain)
    (old mid new : List Bound) (n m last : ℕ) → Local names vars n → IsForm n k → AreReady old n
    → Imposes (fits names vars f (app (var n) k)) old mid (suc n) m → Imposes (fits names vars a (var n)) mid new m last
    → Imposes (fits names vars (app f a) k) old new n last
application names vars f a k old mid new n m last l form r p q = record {
  ready = q.ready;
  grows = omega (arith, p.grows, q.grows);
  sound = λ g s. let b = q.sound g s in let c = p.sound g b.0 in (c.0, (g n, c.1, b.1));
  complete = λ g s h.
      let one = p.complete (put n h.0 g) (Meets-agree n g (put n h.0 g) old (put-agree n h.0 g) r.below s)
      (split names vars f a k n g l form h) in
      let two = q.complete one.0 one.2 (argument names vars f a k n g h one.0 l one.1) in (
        two.0,
        Agree-trans n g (put n h.0 g) two.0 (put-agree n h.0 g)
            (Agree-trans n (put n h.0 g) one.0 two.0 (Agree-less n (suc n) (put n h.0 g) one.0 (omega arith) one.1)
            (Agree-less n m one.0 two.0 (omega (arith, p.grows)) two.1)),
        two.2,
      );
}

pub function_none : (names : Guess → NameKinds) (vars : Guess → ℕ → KindTerm) (f a : TypeTerm) (k : Plain)
    (old : List Bound) (n : ℕ) → Local names vars n → IsForm n k → AreReady old n
    → NoGuess (fits names vars f (app (var n) k)) old → NoGuess (fits names vars (app f a) k) old
function_none names vars f a k old n l form r never g s h =
    never (put n h.0 g) (Meets-agree n g (put n h.0 g) old (put-agree n h.0 g) r.below s)
    (split names vars f a k n g l form h)

pub argument_none : (names : Guess → NameKinds) (vars : Guess → ℕ → KindTerm) (f a : TypeTerm) (k : Plain)
    (old mid : List Bound) (n m : ℕ) → Local names vars n → IsForm n k → AreReady old n
    → Imposes (fits names vars f (app (var n) k)) old mid (suc n) m → NoGuess (fits names vars a (var n)) mid
    → NoGuess (fits names vars (app f a) k) old
argument_none names vars f a k old mid n m l form r p never g s h =
    let one = p.complete (put n h.0 g) (Meets-agree n g (put n h.0 g) old (put-agree n h.0 g) r.below s)
    (split names vars f a k n g l form h) in
    never one.0 one.2 (argument names vars f a k n g h one.0 l one.1)
