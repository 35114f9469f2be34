-- What a depth-first walk reaches, and in which order it is done.
use Rattle.std.proofs.Common.{◌≡◌, ◌⊎◌, inl, inr, ℕ, zero, suc, ◌<◌, List, [], ◌∷◌, ◌++◌, length, refl, sym, ap, ◌∙◌}
use Rattle.std.proofs.Common.{subst, append_assoc, arith}
use Rattle.std.proofs.lemmas.List.{append-nil, get_or_past}
use Rattle.std.proofs.lemmas.Bool.{cases_lt}
use Rattle.bp_base.specs.Lists.{Among}
use Rattle.bp_base.specs.Lists.{IsNew}
use Rattle.bp_base.proofs.SetLemmas.{among-left, among-right, among-either}
use Rattle.hs_core.specs.declared.group.UseList.{UseList}
use Rattle.hs_core.specs.Groups.{uses_at, InRange, Reaches, Together, indices, DepthFirst}
use Rattle.hs_core.specs.Groups.Reaches.{here, along}
use Rattle.hs_core.specs.Groups.DepthFirst.{ended, met, visited}
use Rattle.hs_core.specs.Walking.{AreBelow, IsTurned}

-- ---- items of lists

pub among-one : {A : Type 0} (a x : A) → Among a (x ∷ []) → x ≡ a
among-one a x (inl e) = e
among-one a x (inr m) = absurd m

pub among-indices : (n v : ℕ) → v < n → Among v (indices n)
among-indices zero v h = absurd (omega arith)
among-indices (suc n) v h = elim (cases_lt v n) [
  | inl l ↦
      among-left v (indices n) (n ∷ []) (among-indices n v l)
  | inr l ↦
      among-right v (indices n) (n ∷ []) (inl (omega arith))
]

pub indices-below : (n : ℕ) → AreBelow n (indices n)
indices-below zero v m = absurd m
indices-below (suc n) v m = elim (among-either v (indices n) (n ∷ []) m) [
  | inl h ↦
      (let l : v < n = indices-below n v h in omega arith)
  | inr h ↦ (let e : n ≡ v = among-one v n h in omega arith)
]

-- ---- paths

-- uses lead from the first number to the second, by way of numbers that are not among these
pub data Path (g : List UseList) (out : List ℕ) : ℕ → ℕ → Type 0 where
  stop : (v : ℕ) → (Among v out → ⊥) → Path g out v v
  step : (v w z : ℕ) → (Among v out → ⊥) → Among w (uses_at g v) → Path g out w z → Path g out v z

pub uses-below : (g : List UseList) (v w : ℕ) → Among w (uses_at g v) → v < length g
uses-below g v w m = elim (cases_lt v (length g)) [
  | inl l ↦ l
  | inr l ↦
      absurd (subst (λ (u : UseList). Among w u.uses) (get_or_past g v (record { uses = [] }) l) m)
]

module _ (g : List UseList) where
  pub Path-first : (out : List ℕ) (v z : ℕ) → Path g out v z → Among v out → ⊥
  Path-first out v z (stop _ k) = k
  Path-first out v z (step _ _ _ k _ _) = k

  pub Path-less : (out less : List ℕ) (v z : ℕ) → ((w : ℕ) → Among w less → Among w out) → Path g out v z
      → Path g less v z
  Path-less out less v z f (stop _ k) = stop v (λ a. k (f v a))
  Path-less out less v z f (step _ w _ k m p) = step v w z (λ a. k (f v a)) m (Path-less out less w z f p)

  pub Path-reaches : (out : List ℕ) (v z : ℕ) → Path g out v z → Reaches g v z
  Path-reaches out v z (stop _ _) = here v
  Path-reaches out v z (step _ w _ _ m p) = along v w z m (Path-reaches out w z p)

  pub Path-longer : (out : List ℕ) (v w z : ℕ) → Path g out v w → Among z (uses_at g w) → (Among z out → ⊥)
      → Path g out v z
  Path-longer out v w z (stop _ k) m n = step v z z k m (stop z n)
  Path-longer out v w z (step _ u _ k q p) m n = step v u z k q (Path-longer out u w z p m n)

  pub Path-start : (out : List ℕ) (v z : ℕ) → Path g out v z → z < length g → v < length g
  Path-start out v z (stop _ _) l = l
  Path-start out v z (step _ w _ _ m _) l = uses-below g v w m

  pub Path-end : (out : List ℕ) (v z : ℕ) → InRange g → Path g out v z → v < length g → z < length g
  Path-end out v z r (stop _ _) l = l
  Path-end out v z r (step _ w _ _ m p) l = Path-end out w z r p (r v w m)

  pub Reaches-trans : (v w z : ℕ) → Reaches g v w → Reaches g w z → Reaches g v z
  Reaches-trans v w z (here _) r = r
  Reaches-trans v w z (along _ u _ m p) r = along v u z m (Reaches-trans u w z p r)

  pub Together-itself : (v : ℕ) → Together g v v
  Together-itself v = (here v, here v)

  pub Together-turned : (v w : ℕ) → Together g v w → Together g w v
  Together-turned v w t = (t.1, t.0)

  pub Together-trans : (v w z : ℕ) → Together g v w → Together g w z → Together g v z
  Together-trans v w z s t = (Reaches-trans v w z s.0 t.0, Reaches-trans z w v t.1 s.1)

-- ---- the graph turned round

module _ (g h : List UseList) (turned : IsTurned g h) where
  pub Path-turned : (out : List ℕ) (v z : ℕ) → Path h out v z → Path g out z v
  Path-turned out v z (stop _ k) = stop v k
  Path-turned out v z (step _ w _ k m p) = Path-longer g out z w v (Path-turned out w z p) (turned.back v w m) k

  pub Reaches-turned : (v z : ℕ) → Reaches g v z → Reaches h z v
  Reaches-turned v z (here _) = here v
  Reaches-turned v z (along _ w _ m p) = Reaches-trans h z w v (Reaches-turned w z p)
      (along w v v (turned.forth w v m) (here v))

  pub turned-below : InRange h
  turned-below v w m = subst (λ (n : ℕ). w < n) (sym turned.size) (uses-below g w v (turned.back v w m))

-- ---- walks

-- what the numbers that are done use is done or begun
abbrev pub Shut : List UseList → List ℕ → List ℕ → Type 0
Shut g path done = (u t : ℕ) → Among u done → Among t (uses_at g u) → Among t done ⊎ Among t path

pub shut-reaches : (g : List UseList) (done : List ℕ) → Shut g [] done → (v z : ℕ) → Reaches g v z → Among v done
    → Among z done
shut-reaches g done s v z (here _) a = a
shut-reaches g done s v z (along _ w _ m p) a = shut-reaches g done s w z p
    (elim (s v w a m) [ inl b ↦ b | inr b ↦ absurd b ])

-- a number with those done before and after it: what was done when it began, and what it leads to
pub record IsProperType (g : List UseList) (path before : List ℕ) (v : ℕ) (rest : List ℕ) : Type 0 where
  pub old : List ℕ
  pub below : List ℕ
  pub is : before ≡ old ++ below
  pub new : Among v old → ⊥
  pub leads : (w : ℕ) → Among w below → Reaches g v w
  pub shut : (u t : ℕ) → Among u old → Among t (uses_at g u) → (Among t old ⊎ Among t rest) ⊎ Among t path

abbrev pub AllStand : List UseList → List ℕ → List ℕ → List ℕ → Type 0
AllStand g path before [] = Unit {0}
AllStand g path before (v ∷ rest) = IsProperType g path before v rest × AllStand g path (before ++ v ∷ []) rest

-- what a walk adds
pub record Grown (g : List UseList) (path done todo new : List ℕ) : Type 0 where
  pub more : List ℕ
  pub is : new ≡ done ++ more
  pub found : (w : ℕ) → Among w more → (t : ℕ) × Among t todo × Path g done t w
  pub arrives : (t : ℕ) → Among t todo → Among t new ⊎ Among t path
  pub shut : Shut g path new
  pub stand : AllStand g path done more

module _ (g : List UseList) where
  -- v is done behind what lies below it
  IsProperType-wider : (path before : List ℕ) (v w : ℕ) (rest tail : List ℕ) → IsProperType g (v ∷ path) before w rest
      → IsProperType g path before w (rest ++ v ∷ tail)
  IsProperType-wider path before v w rest tail s = record {
    old = s.old;
    below = s.below;
    is = s.is;
    new = s.new;
    leads = s.leads;
    shut = λ u t a m. elim (s.shut u t a m) [
      | inl b ↦ elim b [ inl c ↦ inl (inl c) | inr c ↦ inl (inr (among-left t rest (v ∷ tail) c)) ]
      | inr b ↦ elim b [ inl e ↦ inl (inr (among-right t rest (v ∷ tail) (inl e))) | inr c ↦ inr c ]
    ];
  }

  AllStand-wider : (path before : List ℕ) (v : ℕ) (more tail : List ℕ) → AllStand g (v ∷ path) before more
      → AllStand g path (before ++ more) (v ∷ tail) → AllStand g path before (more ++ v ∷ tail)
  AllStand-wider path before v [] tail s r = subst (λ (b : List ℕ). AllStand g path b (v ∷ tail)) (append-nil before) r
  AllStand-wider path before v (w ∷ more) tail s r = (
    IsProperType-wider path before v w more tail s.0,
    AllStand-wider path (before ++ w ∷ []) v more tail s.1
        (subst (λ (b : List ℕ). AllStand g path b (v ∷ tail)) (sym (append_assoc before (w ∷ []) more)) r),
  )

  module _ (path done : List ℕ) (v : ℕ) (todo mid new : List ℕ) (k : IsNew path done v) (s : Shut g path done) where
    visit-shut : Grown g (v ∷ path) done (uses_at g v) mid → Shut g path (mid ++ v ∷ [])
    visit-shut b u t a m = elim (among-either u mid (v ∷ []) a) [
      | inl h ↦ over (b.shut u t h m)
      | inr h ↦ over (b.arrives t (subst (λ (x : ℕ). Among t (uses_at g x)) (sym (among-one u v h)) m))
    ]
      where
        over : Among t mid ⊎ Among t (v ∷ path) → Among t (mid ++ v ∷ []) ⊎ Among t path
        over (inl h) = inl (among-left t mid (v ∷ []) h)
        over (inr (inl e)) = inl (among-right t mid (v ∷ []) (inl e))
        over (inr (inr h)) = inr h

    visit : Grown g (v ∷ path) done (uses_at g v) mid → Grown g path (mid ++ v ∷ []) todo new
        → Grown g path done (v ∷ todo) new
    visit b r = record {
      more = b.more ++ v ∷ r.more;
      is = is;
      found = λ w a. found w (among-either w b.more (v ∷ r.more) a);
      arrives = arrives;
      shut = r.shut;
      stand = AllStand-wider path done v b.more r.more b.stand
          (standing, subst (λ (m : List ℕ). AllStand g path (m ++ v ∷ []) r.more) b.is r.stand);
    }
      where
        is : new ≡ done ++ (b.more ++ v ∷ r.more)
        is = r.is ∙ append_assoc mid (v ∷ []) r.more ∙ ap (λ (m : List ℕ). m ++ v ∷ r.more) b.is
            ∙ append_assoc done b.more (v ∷ r.more)

        inside : (w : ℕ) → Among w done → Among w (mid ++ v ∷ [])
        inside w a = among-left w mid (v ∷ []) (subst (λ (m : List ℕ). Among w m) (sym b.is)
            (among-left w done b.more a))

        found : (w : ℕ) → Among w b.more ⊎ Among w (v ∷ r.more) → (t : ℕ) × Among t (v ∷ todo) × Path g done t w
        found w (inl a) = let f = b.found w a in (v, inl refl, step v f.0 w k.0 f.1 f.2)
        found w (inr (inl e)) = (v, inl refl, subst (λ (x : ℕ). Path g done v x) e (stop v k.0))
        found w (inr (inr a)) = let f = r.found w a in (f.0, inr f.1, Path-less g (mid ++ v ∷ []) done f.0 w inside f.2)

        arrives : (t : ℕ) → Among t (v ∷ todo) → Among t new ⊎ Among t path
        arrives t (inl e) = inl (subst (λ (n : List ℕ). Among t n) (sym r.is)
            (among-left t (mid ++ v ∷ []) r.more (among-right t mid (v ∷ []) (inl e))))
        arrives t (inr a) = r.arrives t a

        standing : IsProperType g path (done ++ b.more) v r.more
        standing = record {
          old = done;
          below = b.more;
          is = refl;
          new = k.0;
          leads = λ w a. let f = b.found w a in along v f.0 w f.1 (Path-reaches g done f.0 w f.2);
          shut = λ u t a m. elim (s u t a m) [ inl h ↦ inl (inl h) | inr h ↦ inr h ];
        }

  pub grown : (path done todo new : List ℕ) → DepthFirst g path done todo new → Shut g path done
      → Grown g path done todo new
  grown path done todo new (ended _ _) s = record {
    more = [];
    is = sym (append-nil done);
    found = λ w a. absurd a;
    arrives = λ t a. absurd a;
    shut = s;
    stand = tt;
  }
  grown path done todo new (met _ _ v rest _ k w) s =
      let r = grown path done rest new w s in record {
        more = r.more;
        is = r.is;
        found = λ x a. let f = r.found x a in (f.0, inr f.1, f.2);
        arrives = λ t a. elim a [
          | inl e ↦ elim k [
            | inl d ↦ inl (subst (λ (n : List ℕ). Among t n) (sym r.is)
                (among-left t done r.more (subst (λ (x : ℕ). Among x done) e d)))
            | inr p ↦ inr (subst (λ (x : ℕ). Among x path) e p)
          ]
          | inr b ↦ r.arrives t b
        ];
        shut = r.shut;
        stand = r.stand;
      }
  grown path done todo new (visited _ _ v rest _ mid k b w) s =
      let below = grown (v ∷ path) done (uses_at g v) mid b
      (λ u t a m. elim (s u t a m) [ inl h ↦ inl h | inr h ↦ inr (inr h) ]) in
      visit path done v rest mid new k s below (grown path (mid ++ v ∷ []) rest new w
      (visit-shut path done v rest mid new k s below))

  -- the numbers before, of a number in the list
  pub stands-at : (path before front : List ℕ) (v : ℕ) (rest : List ℕ) → AllStand g path before (front ++ v ∷ rest)
      → IsProperType g path (before ++ front) v rest
  stands-at path before [] v rest s = subst (λ (b : List ℕ). IsProperType g path b v rest) (sym (append-nil before)) s.0
  stands-at path before (w ∷ front) v rest s =
      subst (λ (b : List ℕ). IsProperType g path b v rest) (append_assoc before (w ∷ []) front)
      (stands-at path (before ++ w ∷ []) front v rest s.1)

  -- a path that meets nothing that is done later stays in what was done before
  climb : (before : List ℕ) (v : ℕ) (rest : List ℕ) (s : IsProperType g [] before v rest) (w z : ℕ) → Path g rest w z
      → Among w s.old → Among z s.old
  climb before v rest s w z (stop _ _) a = a
  climb before v rest s w z (step _ t _ k m p) a = climb before v rest s t z p (elim (s.shut w t a m) [
    | inl h ↦ elim h [ inl b ↦ b | inr b ↦ absurd (Path-first g rest t z p b) ]
    | inr h ↦ absurd h
  ])

  -- what reaches a number without what is done later is reached from it
  pub climbs : (before : List ℕ) (v : ℕ) (rest : List ℕ) → IsProperType g [] before v rest → (w : ℕ) → Path g rest w v
      → Among w (before ++ v ∷ rest) → Reaches g v w
  climbs before v rest s w p a = elim (among-either w before (v ∷ rest) a) [
    | inl h ↦ elim (among-either w s.old s.below (subst (λ (b : List ℕ). Among w b) s.is h)) [
      | inl b ↦ absurd (s.new (climb before v rest s w v p b))
      | inr b ↦ s.leads w b
    ]
    | inr h ↦ elim h [
      | inl e ↦ subst (λ (x : ℕ). Reaches g v x) e (here v)
      | inr b ↦
          absurd (Path-first g rest w v p b)
    ]
  ]
