-- The least name that clashes.
use Rattle.std.proofs.Common.{◌≡◌, refl, sym, ap, subst, ◌∙◌, inl, inr, Bool, true, false, List, [], ◌∷◌, None, Some, true≢false}
use Rattle.std.specs.Prelude.{◌⊎◌, Option, if◌then◌else◌}
use Rattle.std.specs.Ordering.{nat_cmp, is_gt, is_lt, ordering_reverse}
use Rattle.std.specs.Cmp.Lexicographic.{slice_cmp}
use Rattle.std.specs.declared.cmp.Ordering.{Ordering}
use Rattle.std.specs.declared.cmp.Ordering.TheVariants.{Less, Equal, Greater}
use Rattle.std.proofs.lemmas.Cmp.{nat_list_cmp_total, tied_itself, upto}
use Rattle.bp_base.specs.Texts.{Text}
use Rattle.bp_base.specs.Lists.{Among}
use Rattle.bp_base.specs.declared.ty.Space.{Space}
use Rattle.bp_base.specs.declared.ty.OrigName.{OrigName}
use Rattle.export_resolve.specs.Clashes.{clashes, least, least_by, least_clash}
use Rattle.export_resolve.specs.declared.clash.Meant.{Meant}

-- a name stands not behind another
abbrev pub UpTo : Text → Text → Type 0
UpTo n o = is_gt (slice_cmp nat_cmp n o) ≡ false

upto_less : (n o : Text) → is_lt (slice_cmp nat_cmp n o) ≡ true → UpTo n o
upto_less n o h = by (slice_cmp nat_cmp n o) h
  where
    by : (r : Ordering) → is_lt r ≡ true → is_gt r ≡ false
    by Less e = refl
    by Equal e = refl
    by Greater e = absurd (cc)

upto_other : (n o : Text) → is_lt (slice_cmp nat_cmp n o) ≡ false → UpTo o n
upto_other n o h = rw (nat_list_cmp_total.antisymm o n) (by (slice_cmp nat_cmp n o) h)
  where
    by : (r : Ordering) → is_lt r ≡ false → is_gt (ordering_reverse r) ≡ false
    by Less e = absurd (cc)
    by Equal e = refl
    by Greater e = refl

upto_itself : (n : Text) → UpTo n n
upto_itself n = rw (tied_itself nat_list_cmp_total n) refl

-- what was found stands not before the answer
abbrev Bounds : Text → Option Text → Type 0
Bounds n None = Unit {0}
Bounds n (Some p) = UpTo n p

-- the answer was found before, or is one that clashes
abbrev Comes : (Space → Text → Option OrigName) → Option Text → List Meant → Text → Type 0
Comes firsts found ms n = (found ≡ Some n) ⊎ ((m : Meant) × Among m ms × (clashes firsts m ≡ true) × (m.occ ≡ n))

abbrev pub LeastSays : (Space → Text → Option OrigName) → Option Text → List Meant → Option Text → Type 0
LeastSays firsts found ms None = (found ≡ None) × ((m : Meant) → Among m ms → clashes firsts m ≡ true → ⊥)
LeastSays firsts found ms (Some n) = Comes firsts found ms n × Bounds n found ×
    ((m : Meant) → Among m ms → clashes firsts m ≡ true → UpTo n m.occ)

-- what one more name does
abbrev Taken : Option Text → Text → Option Text → Type 0
Taken found q (Some p) = ((p ≡ q) ⊎ (found ≡ Some p)) × UpTo p q × Bounds p found
Taken found q None = ⊥

taken_by : (p q : Text) (t : Bool) → is_lt (slice_cmp nat_cmp q p) ≡ t → Taken (Some p) q (if t then Some q else Some p)
taken_by p q true e = (inl refl, upto_itself q, upto_less q p e)
taken_by p q false e = (inr refl, upto_other q p e, upto_itself p)

taken : (found : Option Text) (q : Text) → Taken found q (least found q)
taken None q = (inl refl, upto_itself q, tt)
taken (Some p) q = taken_by p q (is_lt (slice_cmp nat_cmp q p)) refl

bounds_on : (n p : Text) (found : Option Text) → UpTo n p → Bounds p found → Bounds n found
bounds_on n p None a b = tt
bounds_on n p (Some o) a b = upto nat_list_cmp_total n p o a b

module _ (firsts : Space → Text → Option OrigName) where
  none_more : (m : Meant) (ms : List Meant) → clashes firsts m ≡ false
      → ((z : Meant) → Among z ms → clashes firsts z ≡ true → ⊥) → (z : Meant) → Among z (m ∷ ms)
      → clashes firsts z ≡ true → ⊥
  none_more m ms e h z (inl p) c = true≢false (sym c ∙ (ap (clashes firsts) (sym p) ∙ e))
  none_more m ms e h z (inr a) c = h z a c

  upto_more : (n : Text) (m : Meant) (ms : List Meant) → UpTo n m.occ
      → ((z : Meant) → Among z ms → clashes firsts z ≡ true → UpTo n z.occ) → (z : Meant) → Among z (m ∷ ms)
      → clashes firsts z ≡ true → UpTo n z.occ
  upto_more n m ms u h z (inl p) c = subst (λ (y : Meant). UpTo n y.occ) p u
  upto_more n m ms u h z (inr a) c = h z a c

  upto_past : (n : Text) (m : Meant) (ms : List Meant) → clashes firsts m ≡ false
      → ((z : Meant) → Among z ms → clashes firsts z ≡ true → UpTo n z.occ) → (z : Meant) → Among z (m ∷ ms)
      → clashes firsts z ≡ true → UpTo n z.occ
  upto_past n m ms e h z (inl p) c = absurd (true≢false (sym c ∙ (ap (clashes firsts) (sym p) ∙ e)))
  upto_past n m ms e h z (inr a) c = h z a c

  comes_past : (found : Option Text) (m : Meant) (ms : List Meant) (n : Text) → Comes firsts found ms n
      → Comes firsts found (m ∷ ms) n
  comes_past found m ms n (inl e) = inl e
  comes_past found m ms n (inr c) = inr (c.0, inr c.1, c.2, c.3)

  comes_more : (found : Option Text) (p : Text) (m : Meant) (ms : List Meant) (n : Text) → clashes firsts m ≡ true
      → (p ≡ m.occ) ⊎ (found ≡ Some p) → Comes firsts (Some p) ms n → Comes firsts found (m ∷ ms) n
  comes_more found p m ms n c (inl e) (inl s) = inr (m, inl refl, c, sym e ∙ same s)
    where
      same : {a b : Text} → Some a ≡ Some b → a ≡ b
      same q = cc
  comes_more found p m ms n c (inr e) (inl s) = inl (e ∙ s)
  comes_more found p m ms n c e (inr s) = inr (s.0, inr s.1, s.2, s.3)

  bounded : (n p : Text) → Bounds n (Some p) → UpTo n p
  bounded n p b = b

  one_clash : (found : Option Text) (m : Meant) (ms : List Meant) (after : Option Text) (r : Option Text)
      → clashes firsts m ≡ true → Taken found m.occ after → LeastSays firsts after ms r → LeastSays firsts found (m ∷ ms) r
  one_clash found m ms None r c t s = absurd t
  one_clash found m ms (Some p) None c t s = absurd (never s.0)
    where
      never : Some p ≡ None → ⊥
      never e = cc
  one_clash found m ms (Some p) (Some n) c t s = (
    comes_more found p m ms n c t.0 s.0,
    bounds_on n p found s.1 t.2,
    upto_more n m ms (upto nat_list_cmp_total n p m.occ s.1 t.1) s.2,
  )

  none_here : (found : Option Text) (m : Meant) (ms : List Meant) (r : Option Text) → clashes firsts m ≡ false
      → LeastSays firsts found ms r → LeastSays firsts found (m ∷ ms) r
  none_here found m ms None c s = (s.0, none_more m ms c s.1)
  none_here found m ms (Some n) c s = (comes_past found m ms n s.0, s.1, upto_past n m ms c s.2)

  least_step : (found : Option Text) (m : Meant) (ms : List Meant) (t : Bool) → clashes firsts m ≡ t
      → LeastSays firsts (least_by t found m.occ) ms (least_clash firsts (least_by t found m.occ) ms)
      → LeastSays firsts found (m ∷ ms) (least_clash firsts (least_by t found m.occ) ms)
  least_step found m ms true c s = one_clash found m ms (least found m.occ) _ c (taken found m.occ) s
  least_step found m ms false c s = none_here found m ms _ c s

  last_found : (found : Option Text) → LeastSays firsts found [] found
  last_found None = (refl, λ m a c. a)
  last_found (Some p) = (inl refl, upto_itself p, λ m a c. absurd a)

  -- what is found is the least of those that clash
  pub least_says : (found : Option Text) (ms : List Meant) → LeastSays firsts found ms (least_clash firsts found ms)
  least_says found [] = last_found found
  least_says found (m ∷ ms) =
      least_step found m ms (clashes firsts m) refl (least_says (least_by (clashes firsts m) found m.occ) ms)
