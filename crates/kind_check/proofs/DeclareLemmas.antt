-- Declarations and groups: one demand after another, and the kinds that are least.
use Rattle.std.proofs.Common.{◌≡◌, ℕ, zero, suc, ◌+◌, ◌<◌, ◌≤◌, List, [], ◌∷◌, ◌++◌, ◌⊎◌}
use Rattle.std.proofs.Common.{inl, inr, refl, sym, ap, ap₂, subst, ◌∙◌, arith}
use Rattle.bp_base.specs.declared.ty.OrigName.{OrigName}
use Rattle.hs_core.specs.Types.{KindTerm, star, arrow, arrows, TypeTerm, count}
use Rattle.hs_core.specs.Kinds.{NameKinds, HasKind, Below, kind_at, HaveStar, TypeDecl, Meaning, fields, synonym}
use Rattle.hs_core.specs.Kinds.{Leads, Keeps, within_group, AllKeep, IsKinding, AllBelow, AreLeastKinds}
use Rattle.type_terms.specs.Terms.{var, con}
use Rattle.type_unify.specs.Types.{Plain, rigid, Bound}
use Rattle.kind_check.specs.Forms.{Guess, value, IsForm, Meets, AreReady, Equated, NotEqual, settled}
use Rattle.kind_check.specs.Scopes.{Agree, guessed}
use Rattle.kind_check.specs.Walks.{Demand, Imposes, NoGuess, fits, stars, keeps, first_keep, At, head, Local}
use Rattle.kind_check.proofs.FormLemmas.{settled-least, settled-meets}
use Rattle.kind_check.proofs.ScopeLemmas.{guessed-agree}
use Rattle.kind_check.proofs.WalkLemmas.{Agree-trans, Agree-less, Meets-agree, HasKind-map, put, put-agree, put-at}

-- ---- one demand after another

-- unknowns from n on don't matter
abbrev pub IsStable : ℕ → Demand → Type 0
IsStable n demand = (g h : Guess) → Agree n g h → demand g → demand h

pub nothing : (bs : List Bound) (n : ℕ) (demand : Demand) → ((g : Guess) → demand g) → AreReady bs n
    → Imposes demand bs bs n n
nothing bs n demand all r =
    record { ready = r; grows = omega arith; sound = λ g m. (m, all g); complete = λ g m d. (g, λ i l. refl, m) }

pub and_then : (one two both : Demand) (old mid new : List Bound) (n m last : ℕ) → IsStable n two
    → ((g : Guess) → both g → one g × two g) → ((g : Guess) → one g → two g → both g)
    → Imposes one old mid n m → Imposes two mid new m last → Imposes both old new n last
and_then one two both old mid new n m last stable split join p q = record {
  ready = q.ready;
  grows = omega (arith, p.grows, q.grows);
  sound = λ g s. let b = q.sound g s in let a = p.sound g b.0 in (a.0, join g a.1 b.1);
  complete = λ g s d.
      let e = split g d in
      let a = p.complete g s e.0 in
      let b = q.complete a.0 a.2 (stable g a.0 a.1 e.1) in
      (b.0, Agree-trans n g a.0 b.0 a.1 (Agree-less n m a.0 b.0 (omega (arith, p.grows)) b.1), b.2);
}

pub not_then : (one two both : Demand) (old mid : List Bound) (n m : ℕ) → IsStable n two
    → ((g : Guess) → both g → one g × two g) → Imposes one old mid n m → NoGuess two mid → NoGuess both old
not_then one two both old mid n m stable split p never g s d =
    let e = split g d in let a = p.complete g s e.0 in never a.0 a.2 (stable g a.0 a.1 e.1)

-- ---- new unknowns with kinds put for them

abbrev pub fill : ℕ → List KindTerm → Guess → Guess
fill n [] g = g
fill n (k ∷ ks) g = fill (suc n) ks (put n k g)

pub fill-agree : (n : ℕ) (ks : List KindTerm) (g : Guess) → Agree n g (fill n ks g)
fill-agree n [] g i l = refl
fill-agree n (k ∷ ks) g i l = put-agree n k g i l ∙ fill-agree (suc n) ks (put n k g) i (omega (arith, l))

pub fill-guessed : (n : ℕ) (ks : List KindTerm) (g : Guess) → guessed (fill n ks g) n (count ks) ≡ ks
fill-guessed n [] g = refl
fill-guessed n (k ∷ ks) g =
    ap₂ (λ x xs. x ∷ xs) (sym (fill-agree (suc n) ks (put n k g) n (omega arith)) ∙ put-at n k g)
    (fill-guessed (suc n) ks (put n k g))

pub count-guessed : (g : Guess) (i m : ℕ) → count (guessed g i m) ≡ m
count-guessed g i zero = refl
count-guessed g i (suc m) = ap suc (count-guessed g (suc i) m)

pub value-head : (g : Guess) (i m : ℕ) (r : Plain) → value g (head i m r) ≡ arrows (guessed g i m) (value g r)
value-head g i zero r = refl
value-head g i (suc m) r = ap (arrow (g i)) (value-head g (suc i) m r)

pub IsForm-head : (n i m : ℕ) (r : Plain) → i + m ≤ n → IsForm n r → IsForm n (head i m r)
IsForm-head n i zero r l f = f
IsForm-head n i (suc m) r l f = (omega (arith, l), IsForm-head n (suc i) m r (omega (arith, l)) f)

pub HaveStar-map : (N M : NameKinds) (f g : ℕ → KindTerm) (ts : List TypeTerm)
    → ((m : OrigName) (j : KindTerm) → N m j → M m j) → ((i : ℕ) → f i ≡ g i) → HaveStar N f ts → HaveStar M g ts
HaveStar-map N M f g [] p q h = tt
HaveStar-map N M f g (t ∷ ts) p q h = (HasKind-map N M f g t star p q h.0, HaveStar-map N M f g ts p q h.1)

abbrev pub vars_from : ℕ → ℕ → Guess → ℕ → KindTerm
vars_from first m g = kind_at (guessed g first m)

-- names have kinds by unknowns below n alone
abbrev pub AreLocal : (Guess → NameKinds) → ℕ → Type 0
AreLocal names n = (g h : Guess) → Agree n g h → (m : OrigName) (k : KindTerm) → names g m k → names h m k

-- ---- a data type: its parameters are new unknowns, its head is made equal to its own unknown, then each field is `*`

-- with the parameters' kinds put for the new unknowns, the head fits and so do the fields
data_split : (names : Guess → NameKinds) (d : TypeDecl) (ts : List TypeTerm) (i n : ℕ) (old mid : List Bound)
    (g : Guess) → AreLocal names n → d.meaning ≡ fields ts → i < n → AreReady old n
    → Equated old mid (n + d.params) (var i) (head n d.params (con (rigid 0))) → Meets g old → keeps names d i g
    → (h : Guess) × Agree n g h × Meets h mid × stars names (vars_from n d.params) ts h
data_split names d ts i n old mid g l is below r e m h =
    let ks = h.0 in
    let w = fill n ks g in
    let a = fill-agree n ks g in
    let leads = subst (λ y. Leads (names g) ks y (g i)) is h.2 in
    let given : guessed w n d.params ≡ ks = subst (λ c. guessed w n c ≡ ks) h.1 (fill-guessed n ks g) in (
      w,
      a,
      (e.meets w).1 (
        Meets-agree n g w old a r.below m,
        sym (a i below) ∙ leads.0
            ∙ sym (value-head w n d.params (con (rigid 0)) ∙ ap (λ xs. arrows xs star) given),
      ),
      HaveStar-map (names g) (names w) (kind_at ks) (vars_from n d.params w) ts (l g w a)
          (λ j. ap (λ xs. kind_at xs j) (sym given)) leads.1,
    )

pub data_ok : (names : Guess → NameKinds) (d : TypeDecl) (ts : List TypeTerm) (i n last : ℕ)
    (old mid new : List Bound) → AreLocal names n → d.meaning ≡ fields ts → i < n → AreReady old n
    → Equated old mid (n + d.params) (var i) (head n d.params (con (rigid 0)))
    → Imposes (stars names (vars_from n d.params) ts) mid new (n + d.params) last
    → Imposes (keeps names d i) old new n last
data_ok names d ts i n last old mid new l is below r e q = record {
  ready = q.ready;
  grows = omega (arith, q.grows);
  sound = λ g s.
      let b = q.sound g s in
      let a = (e.meets g).0 b.0 in (
        a.0,
        (
          guessed g n d.params,
          count-guessed g n d.params,
          subst
              (λ y. Leads (names g) (guessed g n d.params) y (g i)) (sym is)
              (a.1 ∙ value-head g n d.params (con (rigid 0)), b.1),
        ),
      );
  complete = λ g s h.
      let w = data_split names d ts i n old mid g l is below r e s h in
      let z = q.complete w.0 w.2 w.3 in
      (z.0, Agree-trans n g w.0 z.0 w.1 (Agree-less n (n + d.params) w.0 z.0 (omega arith) z.1), z.2);
}

pub fields_none : (names : Guess → NameKinds) (d : TypeDecl) (ts : List TypeTerm) (i n : ℕ) (old mid : List Bound)
    → AreLocal names n → d.meaning ≡ fields ts → i < n → AreReady old n
    → Equated old mid (n + d.params) (var i) (head n d.params (con (rigid 0)))
    → NoGuess (stars names (vars_from n d.params) ts) mid → NoGuess (keeps names d i) old
fields_none names d ts i n old mid l is below r e never g s h =
    let w = data_split names d ts i n old mid g l is below r e s h in never w.0 w.2 w.3

-- ---- a group

pub At-next : (i n : ℕ) → i < suc n → (i < n) ⊎ (i ≡ n)
At-next zero zero l = inr refl
At-next zero (suc n) l = inl (omega arith)
At-next (suc i) zero l = absurd (omega (arith, l))
At-next (suc i) (suc n) l = elim (At-next i n (omega (arith, l)))
    [ inl p ↦ inl (omega (arith, p)) | inr p ↦ inr (ap suc p) ]

pub At-one : (ds : List TypeDecl) (i : ℕ) (d e : TypeDecl) → At ds i d → At ds i e → d ≡ e
At-one [] i d e p q = absurd p
At-one (x ∷ ds) zero d e p q = sym p ∙ q
At-one (x ∷ ds) (suc i) d e p q = At-one ds i d e p q

pub Keeps-map : (N M : NameKinds) (d : TypeDecl) (k : KindTerm) → ((m : OrigName) (j : KindTerm) → N m j → M m j)
    → Keeps N d k → Keeps M d k
Keeps-map N M d k p h = (h.0, h.1, go d.meaning h.2)
  where
    go : (y : Meaning) → Leads N h.0 y k → Leads M h.0 y k
    go (fields ts) q = (q.0, HaveStar-map N M (kind_at h.0) (kind_at h.0) ts p (λ i. refl) q.1)
    go (synonym t) q = (q.0, q.1, HasKind-map N M (kind_at h.0) (kind_at h.0) t q.0 p (λ i. refl) q.2)

pub keeps-stable : (names : Guess → NameKinds) (d : TypeDecl) (i n : ℕ) → AreLocal names n → i < n
    → IsStable n (keeps names d i)
keeps-stable names d i n l below g h a k = subst (Keeps (names h) d) (a i below)
    (Keeps-map (names g) (names h) d (g i) (l g h a) k)

pub next_keeps : (names : Guess → NameKinds) (ds : List TypeDecl) (d : TypeDecl) (i c n last : ℕ)
    (old mid new : List Bound) → AreLocal names c → i < c → At ds i d
    → Imposes (first_keep names ds i) old mid c n → Imposes (keeps names d i) mid new n last
    → Imposes (first_keep names ds (suc i)) old new c last
next_keeps names ds d i c n last old mid new l below at p q =
    and_then (first_keep names ds i) (keeps names d i) (first_keep names ds (suc i)) old mid new c n last
    (keeps-stable names d i c l below)
    (λ g h. (λ j e b a. h j e (omega (arith, b)) a, h i d (omega arith) at))
    (λ g one two j e b a. elim (At-next j i b) [
      | inl x ↦ one j e x a
      | inr x ↦ subst (λ y. Keeps (names g) e (g y)) (sym x)
          (subst (λ y. Keeps (names g) y (g i)) (At-one ds i d e at (subst (λ y. At ds y e) x a)) two)
    ])
    p q

pub next_none : (names : Guess → NameKinds) (ds : List TypeDecl) (d : TypeDecl) (i c n m : ℕ) (old mid : List Bound)
    → AreLocal names c → i < c → i < m → At ds i d
    → Imposes (first_keep names ds i) old mid c n → NoGuess (keeps names d i) mid → NoGuess (first_keep names ds m) old
next_none names ds d i c n m old mid l below inside at p never =
    not_then (first_keep names ds i) (keeps names d i) (first_keep names ds m) old mid c n
    (keeps-stable names d i c l below)
    (λ g h. (λ j e b a. h j e (omega (arith, b, inside)) a, h i d inside at)) p never

-- ---- kindings

pub keep_all : (N : NameKinds) (g : Guess) (ds : List TypeDecl) (a : ℕ)
    → ((j : ℕ) (d : TypeDecl) → At ds j d → Keeps N d (g (a + j))) → AllKeep N ds (guessed g a (count ds))
keep_all N g [] a h = refl
keep_all N g (d ∷ ds) a h =
    let z : a + 0 ≡ a = omega arith in (
      g a,
      guessed g (suc a) (count ds),
      refl,
      subst (λ i. Keeps N d (g i)) z (h 0 d refl),
      keep_all N g ds (suc a)
          (λ j e p. let s : a + suc j ≡ suc a + j = omega arith in subst (λ i. Keeps N e (g i)) s (h (suc j) e p)),
    )

pub head_same : {A : Type 0} (x y : A) (xs ys : List A) → x ∷ xs ≡ y ∷ ys → x ≡ y
head_same x y xs ys e = ap (front x) e
  where
    front : {A : Type 0} → A → List A → A
    front d [] = d
    front d (z ∷ zs) = z

pub tail_same : {A : Type 0} (x y : A) (xs ys : List A) → x ∷ xs ≡ y ∷ ys → xs ≡ ys
tail_same x y xs ys e = ap rest e
  where
    rest : {A : Type 0} → List A → List A
    rest [] = []
    rest (z ∷ zs) = zs

pub At-below : (ds : List TypeDecl) (j : ℕ) (d : TypeDecl) → At ds j d → j < count ds
At-below [] j d p = absurd p
At-below (e ∷ es) zero d p = omega arith
At-below (e ∷ es) (suc j) d p = let l = At-below es j d p in omega (arith, l)

pub kept_at : (N : NameKinds) (g : Guess) (ds : List TypeDecl) (a : ℕ) → AllKeep N ds (guessed g a (count ds))
    → (j : ℕ) (d : TypeDecl) → At ds j d → Keeps N d (g (a + j))
kept_at N g [] a h j d p = absurd p
kept_at N g (e ∷ es) a h zero d p =
    let z : a ≡ a + 0 = omega arith in
    subst (λ i. Keeps N d (g i)) z
    (subst (λ y. Keeps N y (g a)) p (subst (Keeps N e) (sym (head_same _ _ _ _ h.2)) h.3))
kept_at N g (e ∷ es) a h (suc j) d p =
    let s : suc a + j ≡ a + suc j = omega arith in
    subst (λ i. Keeps N d (g i)) s
    (kept_at N g es (suc a) (subst (AllKeep N es) (sym (tail_same _ _ _ _ h.2)) h.4) j d p)

pub guessed-shift : (h f : Guess) (a m : ℕ) → ((j : ℕ) → h (suc j) ≡ f j) → guessed h (suc a) m ≡ guessed f a m
guessed-shift h f a zero p = refl
guessed-shift h f a (suc m) p = ap₂ (λ x xs. x ∷ xs) (p a) (guessed-shift h f (suc a) m p)

-- a list of kinds is that of a guess
pub guessed-list : (ks : List KindTerm) → guessed (kind_at ks) 0 (count ks) ≡ ks
guessed-list [] = refl
guessed-list (k ∷ ks) = ap (λ xs. k ∷ xs)
    (guessed-shift (kind_at (k ∷ ks)) (kind_at ks) 0 (count ks) (λ j. refl) ∙ guessed-list ks)

pub count-kept : (N : NameKinds) (ds : List TypeDecl) (ks : List KindTerm) → AllKeep N ds ks → count ks ≡ count ds
count-kept N [] ks h = ap count h
count-kept N (d ∷ ds) ks h = ap count h.2 ∙ ap suc (count-kept N ds h.1 h.4)

pub all_below : (f g : Guess) (a m : ℕ) → ((i : ℕ) → Below (f i) (g i)) → AllBelow (guessed f a m) (guessed g a m)
all_below f g a zero h = refl
all_below f g a (suc m) h = (g a, guessed g (suc a) m, refl, h a, all_below f g (suc a) m h)

-- what names mean where the group's unknowns have their kinds
abbrev pub group_names : NameKinds → List TypeDecl → Guess → NameKinds
group_names outer ds g = within_group outer ds (guessed g 0 (count ds))

-- each valid kinding is a guess that keeps to every declaration
pub kinding_keeps : (outer : NameKinds) (ds : List TypeDecl) (ks : List KindTerm) → IsKinding outer ds ks
    → first_keep (group_names outer ds) ds (count ds) (kind_at ks)
kinding_keeps outer ds ks h =
    let e : guessed (kind_at ks) 0 (count ds) ≡ ks = subst (λ c. guessed (kind_at ks) 0 c ≡ ks) (count-kept _ ds ks h)
    (guessed-list ks) in
    λ j d l p. let z : 0 + j ≡ j = omega arith in subst (λ x. Keeps (within_group outer ds x) d (kind_at ks j)) (sym e)
    (subst (λ i. Keeps (within_group outer ds ks) d (kind_at ks i)) z
    (kept_at (within_group outer ds ks) (kind_at ks) ds 0
    (subst (AllKeep (within_group outer ds ks) ds) (sym e) h) j d p))

pub keeps_kinding : (outer : NameKinds) (ds : List TypeDecl) (g : Guess)
    → first_keep (group_names outer ds) ds (count ds) g → IsKinding outer ds (guessed g 0 (count ds))
keeps_kinding outer ds g h = keep_all (group_names outer ds g) g ds 0
    (λ j d p. let z : j ≡ 0 + j = omega arith in subst (λ i. Keeps (group_names outer ds g) d (g i)) z
    (h j d (At-below ds j d p) p))

-- THE GROUP: what is settled is the least kinding
pub least : (outer : NameKinds) (ds : List TypeDecl) (bs : List Bound) (n : ℕ)
    → Imposes (first_keep (group_names outer ds) ds (count ds)) [] bs (count ds) n
    → AreLeastKinds outer ds (guessed (settled bs) 0 (count ds))
least outer ds bs n p = record {
  valid = keeps_kinding outer ds (settled bs) (p.sound (settled bs) (settled-meets bs n p.ready)).1;
  least = λ others h.
      let c = p.complete (kind_at others) tt (kinding_keeps outer ds others h) in
      let e : guessed c.0 0 (count ds) ≡ others =
      sym (guessed-agree (count ds) (kind_at others) c.0 0 (count ds) (omega arith) c.1)
      ∙ subst (λ m. guessed (kind_at others) 0 m ≡ others) (count-kept _ ds others h) (guessed-list others) in
      subst (AllBelow (guessed (settled bs) 0 (count ds))) e
      (all_below (settled bs) c.0 0 (count ds) (settled-least bs c.0 c.2));
}

-- and where no guess keeps to every declaration, there is none
pub refused : (outer : NameKinds) (ds : List TypeDecl) → NoGuess (first_keep (group_names outer ds) ds (count ds)) []
    → (ks : List KindTerm) → IsKinding outer ds ks → ⊥
refused outer ds never ks h = never (kind_at ks) tt (kinding_keeps outer ds ks h)

-- ---- a synonym: its result and its parameters are new unknowns

synonym_split : (names : Guess → NameKinds) (d : TypeDecl) (t : TypeTerm) (i n : ℕ) (old mid : List Bound) (g : Guess)
    → AreLocal names n → d.meaning ≡ synonym t → i < n → AreReady old n
    → Equated old mid (n + 1 + d.params) (var i) (head (n + 1) d.params (var n)) → Meets g old → keeps names d i g
    → (h : Guess) × Agree n g h × Meets h mid × fits names (vars_from (n + 1) d.params) t (var n) h
synonym_split names d t i n old mid g l is below r e m h =
    let leads = subst (λ y. Leads (names g) h.0 y (g i)) is h.2 in
    let j = leads.0 in
    let ks = h.0 in
    let w = fill n (j ∷ ks) g in
    let a = fill-agree n (j ∷ ks) g in
    let all : guessed w n (suc d.params) ≡ j ∷ ks = subst (λ c. guessed w n (suc c) ≡ j ∷ ks) h.1
    (fill-guessed n (j ∷ ks) g) in
    let z : suc n ≡ n + 1 = omega arith in
    let given : guessed w (n + 1) d.params ≡ ks = subst (λ s. guessed w s d.params ≡ ks) z (tail_same _ _ _ _ all) in
    let here : w n ≡ j = head_same _ _ _ _ all in (
      w,
      a,
      (e.meets w).1 (
        Meets-agree n g w old a r.below m,
        sym (a i below) ∙ leads.1
            ∙ sym (value-head w (n + 1) d.params (var n) ∙ ap₂ arrows given here),
      ),
      subst (HasKind (names w) (vars_from (n + 1) d.params w) t) (sym here)
          (HasKind-map (names g) (names w) (kind_at ks) (vars_from (n + 1) d.params w) t j (l g w a)
          (λ x. ap (λ xs. kind_at xs x) (sym given)) leads.2),
    )

pub synonym_ok : (names : Guess → NameKinds) (d : TypeDecl) (t : TypeTerm) (i n last : ℕ) (old mid new : List Bound)
    → AreLocal names n → d.meaning ≡ synonym t → i < n → AreReady old n
    → Equated old mid (n + 1 + d.params) (var i) (head (n + 1) d.params (var n))
    → Imposes (fits names (vars_from (n + 1) d.params) t (var n)) mid new (n + 1 + d.params) last
    → Imposes (keeps names d i) old new n last
synonym_ok names d t i n last old mid new l is below r e q = record {
  ready = q.ready;
  grows = omega (arith, q.grows);
  sound = λ g s.
      let b = q.sound g s in
      let a = (e.meets g).0 b.0 in (
        a.0,
        (
          guessed g (n + 1) d.params,
          count-guessed g (n + 1) d.params,
          subst
              (λ y. Leads (names g) (guessed g (n + 1) d.params) y (g i)) (sym is)
              (g n, a.1 ∙ value-head g (n + 1) d.params (var n), b.1),
        ),
      );
  complete = λ g s h.
      let w = synonym_split names d t i n old mid g l is below r e s h in
      let z = q.complete w.0 w.2 w.3 in
      (z.0, Agree-trans n g w.0 z.0 w.1 (Agree-less n (n + 1 + d.params) w.0 z.0 (omega arith) z.1), z.2);
}

pub body_none : (names : Guess → NameKinds) (d : TypeDecl) (t : TypeTerm) (i n : ℕ) (old mid : List Bound)
    → AreLocal names n → d.meaning ≡ synonym t → i < n → AreReady old n
    → Equated old mid (n + 1 + d.params) (var i) (head (n + 1) d.params (var n))
    → NoGuess (fits names (vars_from (n + 1) d.params) t (var n)) mid → NoGuess (keeps names d i) old
body_none names d t i n old mid l is below r e never g s h =
    let w = synonym_split names d t i n old mid g l is below r e s h in never w.0 w.2 w.3

-- ---- fields, one after another

pub HaveStar-push : (N : NameKinds) (f : ℕ → KindTerm) (ts : List TypeTerm) (t : TypeTerm) → HaveStar N f ts
    → HasKind N f t star → HaveStar N f (ts ++ t ∷ [])
HaveStar-push N f [] t h k = (k, tt)
HaveStar-push N f (u ∷ ts) t h k = (h.0, HaveStar-push N f ts t h.1 k)

pub HaveStar-front : (N : NameKinds) (f : ℕ → KindTerm) (ts us : List TypeTerm) → HaveStar N f (ts ++ us)
    → HaveStar N f ts × HaveStar N f us
HaveStar-front N f [] us h = (tt, h)
HaveStar-front N f (t ∷ ts) us h = let p = HaveStar-front N f ts us h.1 in ((h.0, p.0), p.1)

pub fits-stable : (names : Guess → NameKinds) (vars : Guess → ℕ → KindTerm) (n : ℕ) (t : TypeTerm)
    → Local names vars n → IsStable n (fits names vars t (con (rigid 0)))
fits-stable names vars n t l g h a f = HasKind-map (names g) (names h) (vars g) (vars h) t star (l.named g h a)
    (l.ranged g h a) f

pub next_field : (names : Guess → NameKinds) (vars : Guess → ℕ → KindTerm) (ts : List TypeTerm) (t : TypeTerm)
    (old mid new : List Bound) (n m last : ℕ) → Local names vars n
    → Imposes (stars names vars ts) old mid n m → Imposes (fits names vars t (con (rigid 0))) mid new m last
    → Imposes (stars names vars (ts ++ t ∷ [])) old new n last
next_field names vars ts t old mid new n m last l p q =
    and_then (stars names vars ts) (fits names vars t (con (rigid 0))) (stars names vars (ts ++ t ∷ []))
    old mid new n m last (fits-stable names vars n t l)
    (λ g h. let f = HaveStar-front (names g) (vars g) ts (t ∷ []) h in (f.0, f.1.0))
    (λ g one two. HaveStar-push (names g) (vars g) ts t one two) p q

pub field_none : (names : Guess → NameKinds) (vars : Guess → ℕ → KindTerm) (ts us : List TypeTerm) (t : TypeTerm)
    (old mid : List Bound) (n m : ℕ) → Local names vars n
    → Imposes (stars names vars ts) old mid n m → NoGuess (fits names vars t (con (rigid 0))) mid
    → NoGuess (stars names vars (ts ++ t ∷ us)) old
field_none names vars ts us t old mid n m l p never =
    not_then (stars names vars ts) (fits names vars t (con (rigid 0))) (stars names vars (ts ++ t ∷ us)) old mid n m
    (fits-stable names vars n t l)
    (λ g h. let f = HaveStar-front (names g) (vars g) ts (t ∷ us) h in (f.0, f.1.0)) p never

-- ---- the order on kinds: one list of kinds is least at most

pub Below-both : (j k : KindTerm) → Below j k → Below k j → j ≡ k
Below-both star star p q = refl
Below-both star (arrow a b) p q = absurd q
Below-both (arrow a b) star p q = absurd p
Below-both (arrow a b) (arrow c d) p q = ap₂ arrow (Below-both a c p.0 q.0) (Below-both b d p.1 q.1)

pub AllBelow-both : (js ks : List KindTerm) → AllBelow js ks → AllBelow ks js → js ≡ ks
AllBelow-both [] ks p q = sym p
AllBelow-both (j ∷ js) [] p q = q
AllBelow-both (j ∷ js) (k ∷ ks) p q =
    ap₂ (λ x xs. x ∷ xs)
    (Below-both j k (subst (Below j) (sym (head_same _ _ _ _ p.2)) p.3)
    (subst (Below k) (sym (head_same _ _ _ _ q.2)) q.3))
    (AllBelow-both js ks (subst (AllBelow js) (sym (tail_same _ _ _ _ p.2)) p.4)
    (subst (AllBelow ks) (sym (tail_same _ _ _ _ q.2)) q.4))

pub least_is_one : (names : NameKinds) (ds : List TypeDecl) (js ks : List KindTerm) → AreLeastKinds names ds js
    → AreLeastKinds names ds ks → js ≡ ks
least_is_one names ds js ks p q = AllBelow-both js ks (p.least ks q.valid) (q.least js p.valid)

-- ---- a head that can't be made equal to the declaration's own unknown

pub data_head_none : (names : Guess → NameKinds) (d : TypeDecl) (ts : List TypeTerm) (i n : ℕ) (old : List Bound)
    → d.meaning ≡ fields ts → i < n → AreReady old n
    → NotEqual old (var i) (head n d.params (con (rigid 0))) → NoGuess (keeps names d i) old
data_head_none names d ts i n old is below r never g m h =
    let leads = subst (λ y. Leads (names g) h.0 y (g i)) is h.2 in
    let w = fill n h.0 g in
    let a = fill-agree n h.0 g in
    let given : guessed w n d.params ≡ h.0 = subst (λ c. guessed w n c ≡ h.0) h.1 (fill-guessed n h.0 g) in
    never w (Meets-agree n g w old a r.below m)
    (sym (a i below) ∙ leads.0 ∙ sym (value-head w n d.params (con (rigid 0)) ∙ ap (λ xs. arrows xs star) given))

pub synonym_head_none : (names : Guess → NameKinds) (d : TypeDecl) (t : TypeTerm) (i n : ℕ) (old : List Bound)
    → d.meaning ≡ synonym t → i < n → AreReady old n
    → NotEqual old (var i) (head (n + 1) d.params (var n)) → NoGuess (keeps names d i) old
synonym_head_none names d t i n old is below r never g m h =
    let leads = subst (λ y. Leads (names g) h.0 y (g i)) is h.2 in
    let j = leads.0 in
    let w = fill n (j ∷ h.0) g in
    let a = fill-agree n (j ∷ h.0) g in
    let all : guessed w n (suc d.params) ≡ j ∷ h.0 = subst (λ c. guessed w n (suc c) ≡ j ∷ h.0) h.1
    (fill-guessed n (j ∷ h.0) g) in
    let z : suc n ≡ n + 1 = omega arith in
    let given : guessed w (n + 1) d.params ≡ h.0 = subst (λ s. guessed w s d.params ≡ h.0) z (tail_same _ _ _ _ all) in
    never w (Meets-agree n g w old a r.below m)
    (sym (a i below) ∙ leads.1
    ∙ sym (value-head w (n + 1) d.params (var n) ∙ ap₂ arrows given (head_same _ _ _ _ all)))

-- ---- one type alone: its kind and its variables' kinds are the first unknowns

-- this kind and these variables' kinds are least, all together
pub record IsLeastKind (names : NameKinds) (t : TypeTerm) (m : ℕ) (ks : List KindTerm) (k : KindTerm) : Type 0 where
  pub many : count ks ≡ m
  pub fit : HasKind names (kind_at ks) t k
  pub below : (js : List KindTerm) (j : KindTerm) → count js ≡ m → HasKind names (kind_at js) t j
      → AllBelow ks js × Below k j

-- where the kind is the unknown 0 and the m variables have those from 1 on
abbrev pub fits_alone : NameKinds → ℕ → TypeTerm → Demand
fits_alone names m t = fits (λ g. names) (vars_from 1 m) t (var 0)

pub least_alone : (names : NameKinds) (t : TypeTerm) (m : ℕ) (bs : List Bound) (n : ℕ)
    → Imposes (fits_alone names m t) [] bs (suc m) n → IsLeastKind names t m (guessed (settled bs) 1 m) (settled bs 0)
least_alone names t m bs n p = record {
  many = count-guessed (settled bs) 1 m;
  fit = (p.sound (settled bs) (settled-meets bs n p.ready)).1;
  below = λ js j e h.
      let g = kind_at (j ∷ js) in
      let same : guessed g 1 m ≡ js = guessed-shift g (kind_at js) 0 m (λ i. refl)
      ∙ subst (λ c. guessed (kind_at js) 0 c ≡ js) e (guessed-list js) in
      let c = p.complete g tt (subst (λ xs. HasKind names (kind_at xs) t j) (sym same) h) in
      let there : guessed c.0 1 m ≡ js = sym (guessed-agree (suc m) g c.0 1 m (omega arith) c.1) ∙ same in (
        subst (AllBelow (guessed (settled bs) 1 m)) there (all_below (settled bs) c.0 1 m (settled-least bs c.0 c.2)),
        subst (Below (settled bs 0)) (sym (c.1 0 (omega arith))) (settled-least bs c.0 c.2 0),
      );
}

pub none_alone : (names : NameKinds) (t : TypeTerm) (m : ℕ) → NoGuess (fits_alone names m t) []
    → (js : List KindTerm) (j : KindTerm) → count js ≡ m → HasKind names (kind_at js) t j → ⊥
none_alone names t m never js j e h =
    let g = kind_at (j ∷ js) in
    let same : guessed g 1 m ≡ js = guessed-shift g (kind_at js) 0 m (λ i. refl)
    ∙ subst (λ c. guessed (kind_at js) 0 c ≡ js) e (guessed-list js) in
    never g tt (subst (λ xs. HasKind names (kind_at xs) t j) (sym same) h)
