-- The terms of equations that are put into a table.
use Rattle.std.proofs.Common.{◌≡◌, ℕ, zero, suc, ◌+◌, ◌-◌, ◌<◌, ◌≤◌, List, [], ◌∷◌, ◌++◌, length, get_or, drop, ◌⊎◌}
use Rattle.std.proofs.Common.{inl, inr, refl, ap, sym, ◌∙◌, subst, arith}
use Rattle.std.proofs.lemmas.List.{map-append}
use Rattle.std.proofs.lemmas.Option.{get_or_from_slice_get, slice_get_within}
use Rattle.std.specs.Prelude.{Some, slice_get}
use Rattle.ident_table.proofs.NumberingLemmas.{terms_below-out}
use Rattle.ident_table.proofs.NodeLemmas.{get-front, Grows-again, Grows-longer}
use Rattle.bp_base.proofs.SetLemmas.{among-left, among-right, among-either}
use Rattle.bp_base.proofs.IdentLemmas.{Module-is}
use Rattle.bp_base.specs.declared.ident.Ident.{Ident}
use Rattle.bp_base.specs.declared.ident.Ident.TheVariants.{Hole, Module'}
use Rattle.bp_base.specs.declared.ident.Unit.{out-Unit}
use Rattle.bp_base.specs.declared.ident.Fill.{Fill}
use Rattle.bp_base.specs.declared.ident.Ident.TheBlock.{end_of-Unit, more_of-Unit}
use Rattle.bp_base.specs.Lists.{Among}
use Rattle.ident_table.specs.Parts.{terms_of, terms_in_fills}
use Rattle.ident_table.specs.Numbers.{IsIdentTable, Grows}
use Rattle.hole_unify.specs.declared.equation.Equation.{Equation}
use Rattle.hole_unify.specs.declared.pair.NumberPair.{NumberPair}
use Rattle.hole_unify.specs.Numbers.{IsNumbered}
use Rattle.hole_unify.specs.Table.{terms_in, HasTerms}
use Rattle.hole_unify.specs.Close.{pair_of, pairs_of, stated_pairs, ArePairsBelow}
use Rattle.hole_unify.proofs.StepLemmas.{front_of}
use Rattle.hole_unify.proofs.NumberingLemmas.{Among-place, place-Among}
use Rattle.hole_unify.proofs.PlaceLemmas.{ident-of-later}

-- ---- what an identity is made of stands in the table too

pub some-term : (fs : List Fill) (s : Ident) → Among s (terms_in_fills fs)
    → (f : Fill) × Among f fs × Among s (terms_of f.ident)
some-term [] s h = absurd h
some-term (f ∷ fs) s h = elim (among-either s (terms_of f.ident) (terms_in_fills fs) h) [
  | inl a ↦ (f, inl refl, a)
  | inr b ↦ let r = some-term fs s b in (r.0, inr r.1, r.2)
]

module _ (table : List Ident) (is : IsIdentTable table) where
  -- by the number of the identity
  below-terms : (n k : ℕ) (t s : Ident) → k < n → slice_get table k ≡ Some t → Among s (terms_of t) → Among s table
  below-terms zero k t s lt e h = absurd (omega (arith, lt))
  below-terms (suc n) k (Hole m) s lt e (inl same) = subst (λ z. Among z table) same (place-Among (Hole m) table k e)
  below-terms (suc n) k (Hole m) s lt e (inr h) = absurd h
  below-terms (suc n) k (Module' y (more_of-Unit u end_of-Unit) m) s lt e (inl same) =
      subst (λ z. Among z table) same (subst (λ z. Among z table) (Module-is y u m) (place-Among _ table k e))
  below-terms (suc n) k (Module' y (more_of-Unit u end_of-Unit) m) s lt e (inr h) =
      let f = some-term (out-Unit u).fills s (subst (λ l. Among s l) (terms_below-out u) h) in
      let j = is.below k u m (e ∙ ap Some (Module-is y u m)) f.0 f.1 in
      below-terms n j.0 f.0.ident s (let a = j.1 in omega (arith, a, lt)) j.2 f.2

  pub terms-stand : (t s : Ident) → Among t table → Among s (terms_of t) → Among s table
  terms-stand t s a h = let p = Among-place t table a in below-terms (suc p.0) p.0 t s (omega arith) p.1 h

-- ---- a table that grows keeps what its numbers are

pub pairs-kept : (old new : List Ident) (ps : List NumberPair) → Grows old new → ArePairsBelow (length old) ps
    → pairs_of new ps ≡ pairs_of old ps
pairs-kept old new [] g b = refl
pairs-kept old new (p ∷ ps) g b =
    let one = ident-of-later old new p.one g (b p (inl refl)).0 in
    let other = ident-of-later old new p.other g (b p (inl refl)).1 in
    let rest = pairs-kept old new ps g (λ q h. b q (inr h)) in
    λ w. record { one = one w; other = other w } ∷ rest w

-- ---- the loop

-- the equations from a place on are numbered
pub record IsListed (es : List Equation) (table : List Ident) (pairs : List NumberPair) : Type 0 where
  pub stated : pairs_of table pairs ≡ stated_pairs es
  pub below : ArePairsBelow (length table) pairs
  pub sides : (e : Equation) → Among e es → Among e.left table × Among e.right table
  pub only : (t : Ident) → Among t table → Among t (terms_in es)
  pub ordered : IsIdentTable table

pub more-listed : (e : Equation) (es : List Equation) (old new : List Ident) (pairs : List NumberPair) (p : NumberPair)
    → IsListed es old pairs → IsNumbered old e new p → IsListed (e ∷ es) new (pairs ++ p ∷ [])
more-listed e es old new pairs p l n = record {
  stated = map-append (pair_of new) pairs (p ∷ [])
      ∙ (λ w. (pairs-kept old new pairs n.grows l.below
      ∙ l.stated) w ++ record {
        one = get_or_from_slice_get new p.one e.left (Hole []) n.left w;
        other = get_or_from_slice_get new p.other e.right (Hole []) n.right w;
      } ∷ []);
  below = λ q h. below q (among-either q pairs (p ∷ []) h);
  sides = sides;
  only = λ t h. elim (n.parts t h) [
    | inl a ↦ among-right t (terms_of e.left) _ (among-right t (terms_of e.right) _ (l.only t a))
    | inr b ↦ elim b [
      | inl c ↦ among-left t (terms_of e.left) _ c
      | inr d ↦
          among-right t (terms_of e.left) _ (among-left t (terms_of e.right) _ d)
    ]
  ];
  ordered = n.table;
}
  where
    le : length old ≤ length new
    le = Grows-longer old new n.grows

    below : (q : NumberPair) → Among q pairs ⊎ Among q (p ∷ []) → (q.one < length new) × (q.other < length new)
    below q (inl a) = let b = l.below q a in let x = b.0 in let y = b.1 in let z = le in
        (omega (arith, x, z), omega (arith, y, z))
    below q (inr (inl is)) = subst (λ z. (z.one < length new)
        × (z.other < length new)) is (
          slice_get_within new p.one e.left n.left,
          slice_get_within new p.other e.right n.right,
        )
    below q (inr (inr h)) = absurd h

    kept : (t : Ident) → Among t old → Among t new
    kept t a = subst (λ z. Among t z) (sym n.grows.1) (among-left t old n.grows.0 a)

    sides : (x : Equation) → (e ≡ x) ⊎ Among x es → Among x.left new × Among x.right new
    sides x (inl is) = subst (λ z. Among z.left new
        × Among z.right new) is (place-Among e.left new p.one n.left, place-Among e.right new p.other n.right)
    sides x (inr h) = let s = l.sides x h in (kept x.left s.0, kept x.right s.1)

-- ---- all terms stand in the table

pub listed-terms : (es : List Equation) (table : List Ident) (pairs : List NumberPair) → IsListed es table pairs
    → HasTerms es table
listed-terms es table pairs l = record { listed = λ t h. all es l.sides t h; only = l.only }
  where
    all : (gs : List Equation) → ((e : Equation) → Among e gs → Among e.left table × Among e.right table) → (t : Ident)
        → Among t (terms_in gs) → Among t table
    all [] s t h = absurd h
    all (e ∷ gs) s t h = elim (among-either t (terms_of e.left) _ h) [
      | inl a ↦ terms-stand table l.ordered e.left t (s e (inl refl)).0 a
      | inr r ↦ elim (among-either t (terms_of e.right) _ r) [
        | inl b ↦ terms-stand table l.ordered e.right t (s e (inl refl)).1 b
        | inr c ↦ all gs (λ x g. s x (inr g)) t c
      ]
    ]

-- ---- an equation

pub numbered-sides : (old mid new : List Ident) (e : Equation) (p : NumberPair) → slice_get mid p.one ≡ Some e.left
    → Grows old mid → ((t : Ident) → Among t mid → Among t old ⊎ Among t (terms_of e.left))
    → slice_get new p.other ≡ Some e.right → Grows mid new
    → ((t : Ident) → Among t new → Among t mid ⊎ Among t (terms_of e.right)) → IsIdentTable new → IsNumbered old e new p
numbered-sides old mid new e p left (a, ga) pa right (b, gb) pb table = record {
  left = ap (λ l. slice_get l p.one) gb ∙ get-front mid b p.one e.left left;
  right = right;
  grows = Grows-again old mid new (a, ga) (b, gb);
  parts = λ t h. elim (pb t h) [ inl m ↦ elim (pa t m) [ inl o ↦ inl o | inr x ↦ inr (inl x) ] | inr y ↦ inr (inr y) ];
  table = table;
}

-- ---- one step of the loop, and its end

pub listing-step : (es : List Equation) (place : ℕ) (x : Equation) (old new : List Ident) (pairs then : List NumberPair)
    (p : NumberPair) → 0 < place → place ≤ length es → x ≡ get_or es (place - 1) x
    → IsListed (drop place es) old pairs → IsNumbered old x new p → then ≡ pairs ++ p ∷ []
    → IsListed (drop (place - 1) es) new then × (place - 1 ≤ length es)
listing-step es place x old new pairs then p some le is l n made =
    let lt : place - 1 < length es = omega (arith, some, le) in
    let next : place - 1 + 1 ≡ place = omega (arith, some) in
    let front : drop (place - 1) es ≡ x ∷ drop place es = front_of es (place - 1) x lt is
    ∙ ap (λ k. x ∷ drop k es) next in (
      subst (λ z. IsListed z new then) (sym front) (subst (IsListed (x ∷ drop place es) new) (sym made)
          (more-listed x (drop place es) old new pairs p l n)),
      omega (arith, le),
    )

pub all-listed : (es : List Equation) (place : ℕ) (table : List Ident) (pairs : List NumberPair) → place ≡ 0
    → IsListed (drop place es) table pairs → IsListed es table pairs
all-listed es place table pairs none l = subst (λ k. IsListed (drop k es) table pairs) none l
