-- Which numbers are on a cycle of uses, told by their groups.
use Rattle.std.proofs.Common.{◌≡◌, ◌⊎◌, inl, inr, ℕ, zero, suc, ◌<◌, ◌+◌, ◌≤◌, Bool, true, false, List, [], ◌∷◌, ◌++◌}
use Rattle.std.proofs.Common.{length, refl, sym, ap, ap₂, ◌∙◌, subst, arith, get_or, take, drop, nat_eq, eqb-true, eq-eqb}
use Rattle.std.specs.Prelude.{map, flat_map, ◌↔◌, Option, Some, None, not, filter, IfSome, IfNone}
use Rattle.std.proofs.lemmas.List.{drop_more, drop_all, length-map, take_more, get_or_past}
use Rattle.std.proofs.lemmas.Bool.{cases_eq}
use Rattle.bp_base.specs.Lists.{Among, AreDistinct}
use Rattle.bp_base.proofs.SetLemmas.{among-left, among-right, among-either}
use Rattle.hs_core.specs.Kinds.{TypeDecl, Meaning, fields, synonym}
use Rattle.hs_core.specs.declared.group.UseList.{UseList}
use Rattle.hs_core.specs.declared.group.IndexGroup.{IndexGroup}
use Rattle.hs_core.specs.Groups.{uses_at, InRange, Reaches, Together, IsGroupOf, AreGroups}
use Rattle.hs_core.specs.Groups.Reaches.{here, along}
use Rattle.hs_core.specs.WellTyped.{type_uses, meaning_types, names_in, number_of, numbers_once}
use Rattle.type_groups.proofs.UseLemmas.{uses_in_range, uses_below, among-once}
use Rattle.declared_kinds.specs.Cycles.{synonym_uses, synonym_types, IsOnCycle, IsOffCycle, IsFirstBad, in_groups}
use Rattle.std.specs.Prelude.{slice_get, IsTrue}
use Rattle.std.specs.Option.{option_copied}
use Rattle.std.proofs.Common.{Bor}
use Rattle.std.proofs.lemmas.Option.{none-some}
use Rattle.declared_kinds.specs.Cycles.{IsFirstOnCycle, synonym_use}
use Rattle.kind_check.specs.declared.scope.GroupDecl.{GroupDecl}
use Rattle.kind_check.specs.Scopes.{decls_of}
use Rattle.declared_kinds.proofs.MemberLemmas.{InSome, AreProper, are_proper, all_stand, AreGroupsOf, groups_of}
use Rattle.declared_kinds.proofs.MemberLemmas.{listed-in_some}

-- ---- a group with two members, or a number that uses itself

module _ (g : List UseList) (v : ℕ) (p : IndexGroup) (i : IsGroupOf g v p) where
  leaves : (w : ℕ) → (v ≡ w → ⊥) → Reaches g v w → (u : ℕ) × Among u (uses_at g v) × Reaches g u w
  leaves w d (here _) = absurd (d refl)
  leaves w d (along _ u _ a r) = (u, a, r)

  reaches-on : (u w z : ℕ) → Reaches g u w → Reaches g w z → Reaches g u z
  reaches-on u w z (here _) r = r
  reaches-on u w z (along _ x _ a q) r = along u x z a (reaches-on x w z q r)

  two-cycle : (w : ℕ) → Among w p.members → (v ≡ w → ⊥) → IsOnCycle g v
  two-cycle w a d =
      let t = i.only w a in let l = leaves w d t.0 in
      (l.0, l.1, reaches-on l.0 w v l.2 t.1)

  itself-cycle : Among v (uses_at g v) → IsOnCycle g v
  itself-cycle a = (v, a, here v)

  other-in : (ms : List ℕ) → AreDistinct ms → 1 < length ms → (w : ℕ) × Among w ms × (v ≡ w → ⊥)
  other-in [] d l = absurd (omega (arith, l))
  other-in (m ∷ []) d l = absurd (omega (arith, l))
  other-in (m ∷ n ∷ ms) d l = elim (cases_eq v m) [
    | inl e ↦ (n, inr (inl refl), λ f. d.0 (inl (sym f ∙ e)))
    | inr f ↦ (m, inl refl, f)
  ]

  alone : (ms : List ℕ) → length ms ≤ 1 → (u : ℕ) → Among v ms → Among u ms → v ≡ u
  alone [] l u a b = absurd a
  alone (m ∷ []) l u (inl e) (inl f) = sym e ∙ f
  alone (m ∷ []) l u (inl e) (inr b) = absurd b
  alone (m ∷ []) l u (inr a) b = absurd a
  alone (m ∷ n ∷ ms) l u a b = absurd (omega (arith, l))

  cycle-alone : length p.members ≤ 1 → Among v p.members → IsOnCycle g v → Among v (uses_at g v)
  cycle-alone l a c =
      let e = alone p.members l c.0 a (i.each c.0 (along v c.0 c.0 c.1 (here c.0), c.2)) in
      subst (λ u. Among u (uses_at g v)) (sym e) c.1

at-group : (g : List UseList) (ps : List IndexGroup) (i : ℕ) (p d : IndexGroup) → AreGroupsOf g ps → i < length ps
    → p ≡ get_or ps i d → (v : ℕ) → Among v p.members → IsGroupOf g v p
at-group g [] i p d h l e v a = absurd (omega (arith, l))
at-group g (q ∷ qs) zero p d h l e v a =
    subst (λ z. IsGroupOf g v z) (sym e) (h.0 v (subst (λ (z : IndexGroup). Among v z.members) e a))
at-group g (q ∷ qs) (suc i) p d h l e v a = at-group g qs i p d h.1 (omega (arith, l)) e v a

at-proper : (n : ℕ) (ps : List IndexGroup) (i : ℕ) (p d : IndexGroup) → AreProper n ps → i < length ps
    → p ≡ get_or ps i d → AreDistinct p.members
at-proper n [] i p d h l e = absurd (omega (arith, l))
at-proper n (q ∷ qs) zero p d h l e = subst (λ (z : IndexGroup). AreDistinct z.members) (sym e) h.0
at-proper n (q ∷ qs) (suc i) p d h l e = at-proper n qs i p d h.3 (omega (arith, l)) e

in-take : (m : ℕ) (ps : List IndexGroup) (k : ℕ) → length ps ≤ k → InSome m ps → InSome m (take k ps)
in-take m [] k l h = absurd h
in-take m (p ∷ ps) zero l h = absurd (omega (arith, l))
in-take m (p ∷ ps) (suc k) l (inl a) = inl a
in-take m (p ∷ ps) (suc k) l (inr b) = inr (in-take m ps k (omega (arith, l)) b)

-- ---- the loop over groups

module _ (g : List UseList) (ps : List IndexGroup) (h : AreGroups g ps) (r : InRange g) (v : ℕ) where
  -- more than one member
  pub many_cycle : (k : ℕ) (p d : IndexGroup) → k < length ps → p ≡ get_or ps k d → Among v p.members
      → 1 < length p.members → IsOnCycle g v
  many_cycle k p d l e a m =
      let i = at-group g ps k p d (groups_of g h.order ps h.grouped) l e v a in
      let o = other-in g v p i p.members (at-proper (length g) ps k p d (are_proper g r ps h) l e) m in
      two-cycle g v p i o.0 o.1 o.2

  pub one_cycle : (k : ℕ) (p d : IndexGroup) → k < length ps → p ≡ get_or ps k d → Among v p.members
      → length p.members ≤ 1 → Among v (uses_at g v) ↔ IsOnCycle g v
  one_cycle k p d l e a m = let i = at-group g ps k p d (groups_of g h.order ps h.grouped) l e v a in
      (itself-cycle g v p i, cycle-alone g v p i m a)

  -- some group has the number
  pub no_group : (k : ℕ) → length ps ≤ k → (InSome v (take k ps) → ⊥) → v < length g → ⊥
  no_group k l n b = n (in-take v ps k l (all_stand g r ps h v b))

not-in : (v : ℕ) (ps : List IndexGroup) (q : IndexGroup) → (InSome v ps → ⊥) → (Among v q.members → ⊥)
    → InSome v (ps ++ q ∷ []) → ⊥
not-in v [] q n m (inl a) = m a
not-in v [] q n m (inr b) = b
not-in v (p ∷ ps) q n m (inl a) = n (inl a)
not-in v (p ∷ ps) q n m (inr b) = not-in v ps q (λ x. n (inr x)) m b

pub not_in_next : (v : ℕ) (ps : List IndexGroup) (k : ℕ) (p d : IndexGroup) → k < length ps → p ≡ get_or ps k d
    → (InSome v (take k ps) → ⊥) → (Among v p.members → ⊥) → InSome v (take (k + 1) ps) → ⊥
not_in_next v ps k p d l e n m =
    subst (λ z. InSome v z → ⊥) (sym (take_more ps k d l))
    (not-in v (take k ps) (get_or ps k d) n (subst (λ (z : IndexGroup). Among v z.members → ⊥) e m))

-- ---- use lists of synonyms

in_synonym_uses : (all ds : List TypeDecl) (v w : ℕ)
    → Among w (get_or {A = UseList} (map
    (λ d. record { uses = numbers_once (flat_map (number_of 0 all) (flat_map names_in (synonym_types d.meaning))) }) ds)
    v (record { uses = [] })).uses → w < length all
in_synonym_uses all [] v w h = absurd h
in_synonym_uses all (d ∷ ds) zero w h =
    uses_below all (flat_map names_in (synonym_types d.meaning)) w
    (among-once w (flat_map (number_of 0 all) (flat_map names_in (synonym_types d.meaning))) h)
in_synonym_uses all (d ∷ ds) (suc v) w h = in_synonym_uses all ds v w h

pub synonyms_in_range : (ds : List TypeDecl) → InRange (synonym_uses ds)
synonyms_in_range ds v w h = subst (λ n. w < n) (sym (length-map ds _)) (in_synonym_uses ds ds v w h)

pub length-synonym_uses : (ds : List TypeDecl) → length (synonym_uses ds) ≡ length ds
length-synonym_uses ds = length-map ds _

pub length-type_uses : (ds : List TypeDecl) → length (type_uses ds) ≡ length ds
length-type_uses ds = length-map ds _

-- ---- the loop over numbers

pub bad-at : {A : Type 0} (Good : A → Type 0) (ns : List A) (k : ℕ) (x d : A) → k < length ns → x ≡ get_or ns k d
    → ((n : A) → Among n (take k ns) → Good n) → (Good x → ⊥) → IsFirstBad Good ns x
bad-at Good [] k x d l e h b = absurd (omega (arith, l))
bad-at Good (n ∷ ns) zero x d l e h b = inl (sym e, subst (λ z. Good z → ⊥) e b)
bad-at Good (n ∷ ns) (suc k) x d l e h b =
    inr (h n (inl refl), bad-at Good ns k x d (omega (arith, l)) e (λ m a. h m (inr a)) b)

pub good-next : {A : Type 0} (Good : A → Type 0) (ns : List A) (k : ℕ) (x d : A) → k < length ns → x ≡ get_or ns k d
    → ((n : A) → Among n (take k ns) → Good n) → Good x → (n : A) → Among n (take (k + 1) ns) → Good n
good-next Good ns k x d l e h b n a =
    elim (among-either n (take k ns) (get_or ns k d ∷ []) (subst (λ z. Among n z) (take_more ns k d l) a)) [
      | inl c ↦ h n c
      | inr c ↦ elim c [ inl f ↦ subst Good (e ∙ f) b | inr f ↦ absurd f ]
    ]

pub take-whole : {A : Type 0} (ns : List A) (k : ℕ) → length ns ≤ k → take k ns ≡ ns
take-whole [] zero l = refl
take-whole [] (suc k) l = refl
take-whole (n ∷ ns) zero l = absurd (omega (arith, l))
take-whole (n ∷ ns) (suc k) l = ap (λ z. n ∷ z) (take-whole ns k (omega (arith, l)))

pub among-at : (ns : List ℕ) (k x d : ℕ) → k < length ns → x ≡ get_or ns k d → Among x ns
among-at [] k x d l e = absurd (omega (arith, l))
among-at (n ∷ ns) zero x d l e = inl (sym e)
among-at (n ∷ ns) (suc k) x d l e = inr (among-at ns k x d (omega (arith, l)) e)

-- a number of a group is below the count
pub listed_below : (n : ℕ) (ps : List IndexGroup) (v : ℕ) → AreProper n ps → Among v (in_groups ps) → v < n
listed_below n ps v p a = go n ps p (listed-in_some v ps a)
  where
    go : (n : ℕ) (qs : List IndexGroup) → AreProper n qs → InSome v qs → v < n
    go n [] h b = absurd b
    go n (q ∷ qs) h (inl b) = h.1 v b
    go n (q ∷ qs) h (inr b) = go n qs h.3 b

-- ---- answers

pub synonyms_are : (all : List TypeDecl) (ds : List GroupDecl) → map (synonym_use all) ds
    ≡ map (λ d. record { uses = numbers_once (flat_map (number_of 0 all) (flat_map names_in (synonym_types d.meaning))) })
    (decls_of ds)
synonyms_are all [] = refl
synonyms_are all (d ∷ ds) = ap (λ z. synonym_use all d ∷ z) (synonyms_are all ds)

pub first_answer : (ds : List TypeDecl) (o : Option ℕ) (synonyms : List UseList) (order : List IndexGroup)
    (numbers : List ℕ) → AreGroups (type_uses ds) order → synonyms ≡ synonym_uses ds → numbers ≡ in_groups order
    → IfSome o (IsFirstBad (λ i. IsOnCycle synonyms i → ⊥) numbers)
    → IfNone o ((i : ℕ) → Among i numbers → IsOnCycle synonyms i → ⊥) → IsFirstOnCycle ds o
first_answer ds (Some i) synonyms order numbers a e f h k = (
  order,
  a,
  subst (λ z. IsFirstBad (IsOffCycle ds) z i) f
      (subst (λ z. IsFirstBad (λ j. IsOnCycle z j → ⊥) numbers i) e h),
)
first_answer ds None synonyms order numbers a e f h k = (
  order,
  a,
  λ i b c. k i (subst (λ z. Among i z) (sym f) b) (subst (λ z. IsOnCycle z i) (sym e) c),
)

pub below_all_uses : (ds : List TypeDecl) (order : List IndexGroup) (numbers : List ℕ) (synonyms : List UseList)
    → AreGroups (type_uses ds) order → numbers ≡ in_groups order → synonyms ≡ synonym_uses ds → (n : ℕ)
    → Among n numbers → n < length synonyms
below_all_uses ds order numbers synonyms h e f n a =
    let l = listed_below (length (type_uses ds)) order n (are_proper (type_uses ds) (uses_in_range ds) order h)
    (subst (λ z. Among n z) e a) in
    let p = length-type_uses ds in let q = length-synonym_uses ds in let r = ap length f in omega (arith, l, p, q, r)

-- a number past the end uses nothing
pub not_there : (us : List UseList) (n : ℕ) (r : Option (Bor UseList)) → r ≡ None → option_copied r ≡ slice_get us n
    → IsTrue false ↔ Among n (uses_at us n)
not_there us n r e f = (λ t. absurd (let u : false ≡ true = t in cc), λ a. absurd (go us n n (sym f ∙ ap option_copied e) a))
  where
    go : (xs : List UseList) (i m : ℕ) → slice_get xs i ≡ None → Among m (uses_at xs i) → ⊥
    go [] i m p a = a
    go (x ∷ xs) zero m p a = none-some x (sym p)
    go (x ∷ xs) (suc i) m p a = go xs i m p a
