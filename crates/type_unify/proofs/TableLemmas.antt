-- Laws of a table of nodes and of the bindings that it holds.
use Rattle.std.proofs.Common.{◌≡◌, ℕ, zero, suc, ◌+◌, ◌<◌, ◌≤◌, Bool, true, false, cond, List, [], ◌∷◌, ◌++◌, length}
use Rattle.std.proofs.Common.{get_or, Option, Some, None, ◌⊎◌, inl, inr, refl, sym, ap, ap₂, subst, ◌∙◌, arith, eq-eqb}
use Rattle.std.proofs.Common.{true≢false, length-append}
use Rattle.std.specs.Prelude.{nat_eq, if◌then◌else◌}
use Rattle.std.specs.Map.{lookup}
use Rattle.std.proofs.lemmas.Bool.{cases_lt}
use Rattle.type_terms.specs.Terms.{var, con, app, occurs_in, replaced}
use Rattle.type_unify.specs.Types.{Plain, rigid, Bound, resolved, IsTriangular, Clear, named}
use Rattle.type_unify.specs.declared.cell.Cell.{Cell}
use Rattle.type_unify.specs.declared.cell.Cell.TheVariants.{Flex, Rigid, Con, App}
use Rattle.type_unify.specs.Cells.{at, made, built, trees, bounds_after, bounds, seen, is_flex, hops_in, hops, Wire}
use Rattle.type_unify.specs.Cells.{Inside, IsBoundAt, IsTable}
use Rattle.type_unify.proofs.SolvingLemmas.{test_cases, replaced_absent, resolved-push, resolved-app, resolved-rigid}
use Rattle.type_unify.proofs.SolvingLemmas.{resolved-con, Clear-resolved, Clear-app, IsTriangular-push}

-- ---- types of numbers

built-push : (ts : List Plain) (cs : List Cell) (c : Cell)
    → built ts (cs ++ c ∷ []) ≡ built ts cs ++ made (built ts cs) c ∷ []
built-push ts [] c = refl
built-push ts (d ∷ cs) c = built-push (ts ++ made ts d ∷ []) cs c

pub trees-push : (cs : List Cell) (c : Cell) → trees (cs ++ c ∷ []) ≡ trees cs ++ made (trees cs) c ∷ []
unfolding trees
trees-push cs c = built-push [] cs c

length-built : (ts : List Plain) (cs : List Cell) → length (built ts cs) ≡ length ts + length cs
length-built ts [] = omega arith
length-built ts (c ∷ cs) = omega (arith, length-built (ts ++ made ts c ∷ []) cs, length-append ts (made ts c ∷ []))

pub length-trees : (cs : List Cell) → length (trees cs) ≡ length cs
unfolding trees
length-trees cs = omega (arith, length-built [] cs)

get_or-front : {X : Type 0} (xs : List X) (ys : List X) (i : ℕ) (d : X) → i < length xs
    → get_or (xs ++ ys) i d ≡ get_or xs i d
get_or-front [] ys i d h = absurd (omega arith)
get_or-front (x ∷ xs) ys zero d h = refl
get_or-front (x ∷ xs) ys (suc i) d h = get_or-front xs ys i d (omega arith)

get_or-end : {X : Type 0} (xs : List X) (y d : X) (i : ℕ) → i ≡ length xs → get_or (xs ++ y ∷ []) i d ≡ y
get_or-end [] y d zero h = refl
get_or-end [] y d (suc i) h = absurd (omega arith)
get_or-end (x ∷ xs) y d zero h = absurd (omega arith)
get_or-end (x ∷ xs) y d (suc i) h = get_or-end xs y d i (omega arith)

pub at-push : (cs : List Cell) (c : Cell) (i : ℕ) → i < length cs → at (trees (cs ++ c ∷ [])) i ≡ at (trees cs) i
at-push cs c i h = rw trees-push (get_or-front (trees cs) (made (trees cs) c ∷ []) i (con (rigid 0))
    (omega (arith, length-trees cs)))

pub at-last : (cs : List Cell) (c : Cell) → at (trees (cs ++ c ∷ [])) (length cs) ≡ made (trees cs) c
at-last cs c = rw trees-push (get_or-end (trees cs) (made (trees cs) c) (con (rigid 0)) (length cs)
    (sym (length-trees cs)))

-- ---- bindings

bounds_after-push : (ts : List Plain) (bs : List Bound) (es : List (ℕ × ℕ)) (e : ℕ × ℕ)
    → bounds_after ts bs (es ++ e ∷ []) ≡ bounds_after ts bs es
    ++ (record { id = e.0; term = resolved (bounds_after ts bs es) (at ts e.1) }) ∷ []
bounds_after-push ts bs [] e = refl
bounds_after-push ts bs (d ∷ es) e = bounds_after-push ts
    (bs ++ (record { id = d.0; term = resolved bs (at ts d.1) }) ∷ []) es e

pub bounds-push : (cs : List Cell) (es : List (ℕ × ℕ)) (x n : ℕ)
    → bounds cs (es ++ (x, n) ∷ []) ≡ bounds cs es ++ (record { id = x; term = seen cs es n }) ∷ []
unfolding bounds seen
bounds-push cs es x n = bounds_after-push (trees cs) [] es (x, n)

bounds_after-cell : (cs : List Cell) (c : Cell) (bs : List Bound) (es : List (ℕ × ℕ)) → Inside (length cs) es
    → bounds_after (trees (cs ++ c ∷ [])) bs es ≡ bounds_after (trees cs) bs es
bounds_after-cell cs c bs [] h = refl
bounds_after-cell cs c bs (e ∷ es) h =
    ap (λ t. bounds_after (trees (cs ++ c ∷ [])) (bs ++ (record { id = e.0; term = resolved bs t }) ∷ []) es)
    (at-push cs c e.1 h.0)
    ∙ bounds_after-cell cs c (bs ++ (record { id = e.0; term = resolved bs (at (trees cs) e.1) }) ∷ []) es h.1

Inside-longer : (m n : ℕ) (es : List (ℕ × ℕ)) → m ≤ n → Inside m es → Inside n es
Inside-longer m n [] l h = tt
Inside-longer m n (e ∷ es) l h = (omega (arith, h.0), Inside-longer m n es l h.1)

Inside-push : (m x n : ℕ) (es : List (ℕ × ℕ)) → Inside m es → n < m → Inside m (es ++ (x, n) ∷ [])
Inside-push m x n [] h l = (l, tt)
Inside-push m x n (e ∷ es) h l = (h.0, Inside-push m x n es h.1 l)

pub bounds-cell : (cs : List Cell) (es : List (ℕ × ℕ)) (c : Cell) → Inside (length cs) es
    → bounds (cs ++ c ∷ []) es ≡ bounds cs es
unfolding bounds
bounds-cell cs es c h = bounds_after-cell cs c [] es h

pub seen-cell : (cs : List Cell) (es : List (ℕ × ℕ)) (c : Cell) (i : ℕ) → Inside (length cs) es → i < length cs
    → seen (cs ++ c ∷ []) es i ≡ seen cs es i
unfolding seen
seen-cell cs es c i h l = ap₂ resolved (bounds-cell cs es c h) (at-push cs c i l)

-- ---- how far an unknown is from what it stands for

pub hops_in-app : (bs : List Bound) (f a : Plain) → hops_in bs (app f a) ≡ 0
hops_in-app [] f a = refl
hops_in-app (b ∷ bs) f a = hops_in-app bs f a

pub hops_in-rigid : (bs : List Bound) (i : ℕ) → hops_in bs (con (rigid i)) ≡ 0
hops_in-rigid [] i = refl
hops_in-rigid (b ∷ bs) i = hops_in-rigid bs i

pub hops_in-con : (bs : List Bound) (n : _) (k : _) → hops_in bs (con (named n k)) ≡ 0
hops_in-con [] n k = refl
hops_in-con (b ∷ bs) n k = hops_in-con bs n k

hops_in-push : (bs : List Bound) (b : Bound)
    (t : Plain) → hops_in (bs ++ b ∷ []) t ≡ hops_in bs t + hops_in (b ∷ []) (resolved bs t)
hops_in-push bs b (app f a) = rw (hops_in-app, hops_in-app, resolved-app) refl
hops_in-push bs b (con (rigid i)) = rw (hops_in-rigid, hops_in-rigid, resolved-rigid) refl
hops_in-push bs b (con (named n k)) = rw (hops_in-con, hops_in-con, resolved-con) refl
hops_in-push [] b (var i) = omega arith
hops_in-push (c ∷ bs) b (var i) =
    elim (test_cases c.id i) [
      | inl p ↦ rw p.1 (omega (arith, hops_in-push bs b c.term))
      | inr p ↦ rw p (hops_in-push bs b (var i))
    ]

-- an unknown that is no step from what it stands for is free
pub resolved-free : (bs : List Bound) (x : ℕ) → hops_in bs (var x) ≡ 0 → resolved bs (var x) ≡ var x
resolved-free [] x h = refl
resolved-free (b ∷ bs) x h =
    elim (test_cases b.id x) [
      | inl p ↦ absurd (omega (arith, rw p.1 at h))
      | inr p ↦ rw p (resolved-free bs x (rw p at h))
    ]

-- ---- what stands keeps standing

-- nothing is written, nothing is bound
pub IsTable-new : IsTable [] []
unfolding bounds hops
IsTable-new = record {
  wired = λ i c h e. absurd (omega arith);
  triangular = tt;
  holds = λ x n e. absurd (cc);
  free = λ x e. refl;
  inside = tt;
}

-- the parts of a node are numbers below m
abbrev pub PartsBelow : ℕ → Cell → Type 0
PartsBelow m (Flex i) = Unit {0}
PartsBelow m (Rigid i) = Unit {0}
PartsBelow m (Con n k) = Unit {0}
PartsBelow m (App f a) = (f < m) × (a < m)

Wire-push : (cs : List Cell) (d : Cell) (t : Plain) (c : Cell) → Wire (trees cs) (length cs) t c
    → Wire (trees (cs ++ d ∷ [])) (length (cs ++ d ∷ [])) t c
Wire-push cs d t (Flex i) h = h
Wire-push cs d t (Rigid i) h = h
Wire-push cs d t (Con n k) h = h
Wire-push cs d t (App f a) h = (
  h.0 ∙ sym (ap₂ app (at-push cs d f h.1) (at-push cs d a h.2)),
  omega (arith, h.1, length-append cs (d ∷ [])),
  omega (arith, h.2, length-append cs (d ∷ [])),
)

Wire-last : (cs : List Cell) (c : Cell) → PartsBelow (length cs) c
    → Wire (trees (cs ++ c ∷ [])) (length (cs ++ c ∷ [])) (made (trees cs) c) c
Wire-last cs (Flex i) h = refl
Wire-last cs (Rigid i) h = refl
Wire-last cs (Con n k) h = refl
Wire-last cs (App f a) h = (
  sym (ap₂ app (at-push cs (App f a) f h.0) (at-push cs (App f a) a h.1)),
  omega (arith, h.0, length-append cs (App f a ∷ [])),
  omega (arith, h.1, length-append cs (App f a ∷ [])),
)

Wired-push : (cs : List Cell) (d : Cell) → PartsBelow (length cs) d
    → ((i : ℕ) (c : Cell) → i < length cs → c ≡ get_or cs i c → Wire (trees cs) (length cs) (at (trees cs) i) c)
    → (i : ℕ) (c : Cell) → i < length (cs ++ d ∷ []) → c ≡ get_or (cs ++ d ∷ []) i c
    → Wire (trees (cs ++ d ∷ [])) (length (cs ++ d ∷ [])) (at (trees (cs ++ d ∷ [])) i) c
Wired-push cs d p w i c h e = go (cases_lt i (length cs))
  where
    go : (i < length cs) ⊎ (length cs ≤ i) → Wire (trees (cs ++ d ∷ [])) (length (cs ++ d ∷ []))
        (at (trees (cs ++ d ∷ [])) i) c
    go (inl l) =
        subst (λ t. Wire (trees (cs ++ d ∷ [])) (length (cs ++ d ∷ [])) t c) (sym (at-push cs d i l))
        (Wire-push cs d (at (trees cs) i) c (w i c l (e ∙ get_or-front cs (d ∷ []) i c l)))
    go (inr g) =
        let last : i ≡ length cs = omega (arith, length-append cs (d ∷ [])) in
        let is : c ≡ d = e ∙ get_or-end cs d c i last in
        let t : at (trees (cs ++ d ∷ [])) i ≡ made (trees cs) d = ap (at (trees (cs ++ d ∷ []))) last ∙ at-last cs d in
        subst (λ u. Wire (trees (cs ++ d ∷ [])) (length (cs ++ d ∷ [])) u c) (sym t)
        (subst (λ b. Wire (trees (cs ++ d ∷ [])) (length (cs ++ d ∷ [])) (made (trees cs) d) b) (sym is)
        (Wire-last cs d p))

hops-cell : (cs : List Cell) (es : List (ℕ × ℕ)) (d : Cell) (t : Plain) → Inside (length cs) es
    → hops (cs ++ d ∷ []) es t ≡ hops cs es t
unfolding hops
hops-cell cs es d t h = ap (λ bs. hops_in bs t) (bounds-cell cs es d h)

IsBoundAt-cell : (cs : List Cell) (es : List (ℕ × ℕ)) (d : Cell) (x n : ℕ) → Inside (length cs) es → IsBoundAt cs es x n
    → IsBoundAt (cs ++ d ∷ []) es x n
IsBoundAt-cell cs es d x n i h = record {
  within = omega (arith, h.within, length-append cs (d ∷ []));
  same = ap (λ bs. resolved bs (var x)) (bounds-cell cs es d i) ∙ h.same ∙ sym (seen-cell cs es d n i h.within);
  nearer =
      let far = hops-cell cs es d (var x) i in
      let near : hops (cs ++ d ∷ []) es (at (trees (cs ++ d ∷ [])) n) ≡ hops cs es (at (trees cs) n) =
      hops-cell cs es d _ i ∙ ap (hops cs es) (at-push cs d n h.within) in
      omega (arith, h.nearer, far, near);
}

-- one more node changes no binding and no type of an older number
pub IsTable-cell : (cs : List Cell) (es : List (ℕ × ℕ)) (d : Cell) → PartsBelow (length cs) d → IsTable cs es
    → IsTable (cs ++ d ∷ []) es
IsTable-cell cs es d p h =
    let b = bounds-cell cs es d h.inside in
    record {
      wired = Wired-push cs d p h.wired;
      triangular = subst IsTriangular (sym b) h.triangular;
      holds = λ x n e. IsBoundAt-cell cs es d x n h.inside (h.holds x n e);
      free = λ x e. hops-cell cs es d (var x) h.inside ∙ h.free x e;
      inside = Inside-longer (length cs) (length (cs ++ d ∷ [])) es (omega (arith, length-append cs (d ∷ []))) h.inside;
    }

-- the answer of a look-up, or the last entry's
abbrev or_last : Option ℕ → Bool → ℕ → Option ℕ
or_last (Some m) b n = Some m
or_last None true n = Some n
or_last None false n = None

lookup-push : (x y n : ℕ) (es : List (ℕ × ℕ)) → lookup (nat_eq x) (es ++ (y, n) ∷ []) ≡ or_last (lookup (nat_eq x) es)
    (nat_eq x y) n
lookup-push x y n [] = elim (nat_eq x y) as (λ b. cond b (Some n) None ≡ or_last None b n) [
  | true ↦ refl
  | false ↦
      refl
]
lookup-push x y n (e ∷ es) = elim (nat_eq x e.0) as
    (λ b. cond b (Some e.1) (lookup (nat_eq x) (es ++ (y, n) ∷ [])) ≡ or_last (cond b (Some e.1) (lookup (nat_eq x) es))
    (nat_eq x y) n) [ true ↦ refl | false ↦ lookup-push x y n es ]

-- an unknown is bound to a number: what is asked of both
pub record Binds (cs : List Cell) (es : List (ℕ × ℕ)) (x n : ℕ) : Type 0 where
  pub within : n < length cs
  pub free : hops cs es (var x) ≡ 0
  pub ends : hops cs es (at (trees cs) n) ≡ 0
  pub absent : occurs_in x (seen cs es n) ≡ false

seen_flex : (cs : List Cell) (es : List (ℕ × ℕ)) (x n : ℕ) → Binds cs es x n → resolved (bounds cs es) (var x) ≡ var x
unfolding hops
seen_flex cs es x n b = resolved-free (bounds cs es) x b.free

pub Clear-binds : (cs : List Cell) (es : List (ℕ × ℕ)) (x n : ℕ) → IsTriangular (bounds cs es) → Binds cs es x n
    → Clear (bounds cs es) (app (var x) (seen cs es n))
unfolding seen
Clear-binds cs es x n t b =
    let bs = bounds cs es in
    Clear-app bs (var x) (resolved bs (at (trees cs) n))
    (subst (Clear bs) (seen_flex cs es x n b) (Clear-resolved bs (var x) t)) (Clear-resolved bs (at (trees cs) n) t)

-- how far a type is once one more unknown is bound
hops-push : (cs : List Cell) (es : List (ℕ × ℕ)) (x n : ℕ) (t : Plain)
    → hops cs (es ++ (x, n) ∷ []) t ≡ hops cs es t + (if is_flex x (resolved (bounds cs es) t) then 1 else 0)
unfolding hops
hops-push cs es x n t =
    ap (λ bs. hops_in bs t) (bounds-push cs es x n)
    ∙ hops_in-push (bounds cs es) (record { id = x; term = seen cs es n }) t

resolved-binds : (cs : List Cell) (es : List (ℕ × ℕ)) (x n : ℕ) (t : Plain)
    → resolved (bounds cs (es ++ (x, n) ∷ [])) t ≡ replaced x (seen cs es n) (resolved (bounds cs es) t)
resolved-binds cs es x n t =
    ap (λ bs. resolved bs t) (bounds-push cs es x n)
    ∙ resolved-push (bounds cs es) (record { id = x; term = seen cs es n }) t

-- the type of a number, once one more unknown is bound
pub seen-binds : (cs : List Cell) (es : List (ℕ × ℕ)) (x n i : ℕ)
    → seen cs (es ++ (x, n) ∷ []) i ≡ replaced x (seen cs es n) (seen cs es i)
unfolding seen
seen-binds cs es x n i = resolved-binds cs es x n (at (trees cs) i)

pub seen_is : (cs : List Cell) (es : List (ℕ × ℕ)) (i : ℕ) → seen cs es i ≡ resolved (bounds cs es) (at (trees cs) i)
unfolding seen
seen_is cs es i = refl

IsBoundAt-old : (cs : List Cell) (es : List (ℕ × ℕ)) (x n y m : ℕ) → IsBoundAt cs es y m
    → IsBoundAt cs (es ++ (x, n) ∷ []) y m
IsBoundAt-old cs es x n y m h =
    let same : seen cs es m ≡ resolved (bounds cs es) (at (trees cs) m) = seen_is cs es m in
    let far = hops-push cs es x n (var y) in
    let near = hops-push cs es x n (at (trees cs) m) in
    let one : resolved (bounds cs es) (var y) ≡ resolved (bounds cs es) (at (trees cs) m) = h.same ∙ same in
    let far' = rw one at far in
    record {
      within = h.within;
      same = resolved-binds cs es x n (var y) ∙ ap (replaced x (seen cs es n)) h.same ∙ sym (seen-binds cs es x n m);
      nearer = omega (arith, h.nearer, far', near);
    }

replaced_same : (x : ℕ) (u : Plain) → replaced x u (var x) ≡ u
replaced_same x u = rw (eq-eqb x x refl) refl

absent_not_flex : (x : ℕ) (t : Plain) → occurs_in x t ≡ false → is_flex x t ≡ false
absent_not_flex x (var i) h = h
absent_not_flex x (con c) h = refl
absent_not_flex x (app f a) h = refl

IsBoundAt-bound : (cs : List Cell) (es : List (ℕ × ℕ)) (x n : ℕ) → Binds cs es x n
    → IsBoundAt cs (es ++ (x, n) ∷ []) x n
IsBoundAt-bound cs es x n b =
    let itself = seen_flex cs es x n b in
    let u = seen cs es n in
    let far = hops-push cs es x n (var x) in
    let near = hops-push cs es x n (at (trees cs) n) in
    let no : is_flex x (resolved (bounds cs es) (at (trees cs) n)) ≡ false = ap (is_flex x) (sym (seen_is cs es n))
    ∙ absent_not_flex x u b.absent in
    let yes : is_flex x (resolved (bounds cs es) (var x)) ≡ true = ap (is_flex x) itself ∙ eq-eqb x x refl in
    let far' = rw yes at far in
    let near' = rw no at near in
    record {
      within = b.within;
      same = resolved-binds cs es x n (var x) ∙ ap (replaced x u) itself ∙ replaced_same x u
          ∙ sym (seen-binds cs es x n n ∙ replaced_absent x u u b.absent);
      nearer = omega (arith, far', near', b.free, b.ends);
    }

is_flex-other : (x y : ℕ) → nat_eq y x ≡ false → is_flex x (var y) ≡ false
is_flex-other x y p = elim (test_cases x y) [ inl e ↦ absurd (true≢false (sym (eq-eqb y x (sym e.0)) ∙ p)) | inr e ↦ e ]

-- another unknown that was free stays so
hops-other : (cs : List Cell) (es : List (ℕ × ℕ)) (x n y : ℕ) → nat_eq y x ≡ false → hops cs es (var y) ≡ 0
    → hops cs (es ++ (x, n) ∷ []) (var y) ≡ 0
unfolding hops
hops-other cs es x n y p h =
    let itself : resolved (bounds cs es) (var y) ≡ var y = resolved-free (bounds cs es) y h in
    let no : is_flex x (resolved (bounds cs es) (var y)) ≡ false = ap (is_flex x) itself ∙ is_flex-other x y p in
    let far = rw no at (hops-push cs es x n (var y)) in
    far ∙ omega (arith, h)

-- one more unknown is bound
pub IsTable-bind : (cs : List Cell) (es : List (ℕ × ℕ)) (x n : ℕ) → IsTable cs es → Binds cs es x n
    → IsTable cs (es ++ (x, n) ∷ [])
IsTable-bind cs es x n h b = record {
  wired = h.wired;
  triangular = subst IsTriangular (sym (bounds-push cs es x n))
      (IsTriangular-push (bounds cs es) (record { id = x; term = seen cs es n }) h.triangular
      (Clear-binds cs es x n h.triangular b) b.absent);
  holds = λ y m e. holds_new y m (test_cases y x) (lookup (nat_eq y) es) refl (sym (lookup-push y x n es) ∙ e);
  free = λ y e. free_new y (test_cases y x) (lookup (nat_eq y) es) refl (sym (lookup-push y x n es) ∙ e);
  inside = Inside-push (length cs) x n es h.inside b.within;
}
  where
    holds_new : (y m : ℕ) → (y ≡ x) × (nat_eq y x ≡ true) ⊎ (nat_eq y x ≡ false) → (r : Option ℕ)
        → lookup (nat_eq y) es ≡ r → or_last r (nat_eq y x) n ≡ Some m → IsBoundAt cs (es ++ (x, n) ∷ []) y m
    holds_new y m c (Some k) f e = IsBoundAt-old cs es x n y m (h.holds y m (f ∙ e))
    holds_new y m (inl p) None f e =
        let e' : or_last None true n ≡ Some m = subst (λ v. or_last None v n ≡ Some m) p.1 e in
        let q : n ≡ m = cc in
        subst (λ v. IsBoundAt cs (es ++ (x, n) ∷ []) v m) (sym p.0)
        (subst (IsBoundAt cs (es ++ (x, n) ∷ []) x) q (IsBoundAt-bound cs es x n b))
    holds_new y m (inr p) None f e =
        let e' : or_last None false n ≡ Some m = subst (λ v. or_last None v n ≡ Some m) p e in
        absurd (cc)

    free_new : (y : ℕ) → (y ≡ x) × (nat_eq y x ≡ true) ⊎ (nat_eq y x ≡ false) → (r : Option ℕ)
        → lookup (nat_eq y) es ≡ r → or_last r (nat_eq y x) n ≡ None → hops cs (es ++ (x, n) ∷ []) (var y) ≡ 0
    free_new y c (Some k) f e = absurd (cc)
    free_new y (inl p) None f e =
        let e' : or_last None true n ≡ None = subst (λ v. or_last None v n ≡ None) p.1 e in
        absurd (cc)
    free_new y (inr p) None f e = hops-other cs es x n y p (h.free y f)
