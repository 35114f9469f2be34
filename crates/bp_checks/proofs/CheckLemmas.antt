-- Checks that are exact stay so when they are joined, and so does what stands with the limits.
use Rattle.std.proofs.Common.{◌≡◌, inl, inr, ℕ, List, [], ◌∷◌, ◌++◌, refl, sym, ap, subst, ◌∙◌, drop, length, ◌<◌, ◌+◌}
use Rattle.std.proofs.Common.{get_or}
use Rattle.std.proofs.lemmas.List.{drop_more}
use Rattle.bp_checks.specs.Check.{Check, ◌>>=◌, given, PassesAll, FailsIn, each, refusing, IsExact, IsWithin, Through}

pub IsExact-then : {B C R : Type 0} (s : Check B R) (t : B → Check C R) → IsExact s → ((b : B) → IsExact (t b))
    → IsExact (s >>= t)
IsExact-then s t e f = record {
  one_answer = λ b c p q. (f p.0).one_answer b c p.2 (subst (λ x. (t x).passes c) (e.one_answer q.0 p.0 q.1 p.1) q.2);
  one_refusal = λ r q p z. refusal r q p z;
  never_both = λ b r p z. both b r p z;
}
  where
    refusal : (r q : _) → (s >>= t).fails r → (s >>= t).fails q → r ≡ q
    refusal r q (inl p) (inl z) = e.one_refusal r q p z
    refusal r q (inl p) (inr z) = absurd (e.never_both z.0 r z.1 p)
    refusal r q (inr p) (inl z) = absurd (e.never_both p.0 q p.1 z)
    refusal r q (inr p) (inr z) = (f p.0).one_refusal r q p.2
        (subst (λ x. (t x).fails q) (e.one_answer z.0 p.0 z.1 p.1) z.2)

    both : (b : _) (r : _) → (s >>= t).passes b → (s >>= t).fails r → ⊥
    both b r p (inl z) = e.never_both p.0 r p.1 z
    both b r p (inr z) = (f p.0).never_both b r p.2 (subst (λ x. (t x).fails r) (e.one_answer z.0 p.0 z.1 p.1) z.2)

pub IsExact-given : {B R : Type 0} (b : B) → IsExact (given {R = R} b)
IsExact-given b = record {
  one_answer = λ c d p q. p ∙ sym q;
  one_refusal = λ r q p z. absurd p;
  never_both = λ c r p z. z;
}

pub IsExact-refusing : {B R Q : Type 0} (f : R → Q) (s : Check B R) → IsExact s → IsExact (refusing f s)
IsExact-refusing f s e = record {
  one_answer = e.one_answer;
  one_refusal = λ r q p z. p.2 ∙ ap f (e.one_refusal p.0 z.0 p.1 z.1) ∙ sym z.2;
  never_both = λ b r p z. e.never_both b z.0 p z.1;
}

module _ {A B R : Type 0} (s : List B → A → Check B R) (e : (done : List B) (a : A) → IsExact (s done a)) where
  PassesAll-one : (items : List A) (done bs cs : List B) → PassesAll s done items bs → PassesAll s done items cs
      → bs ≡ cs
  PassesAll-one [] done bs cs p q = p ∙ sym q
  PassesAll-one (a ∷ rest) done bs cs p q =
      PassesAll-one rest (done ++ p.0 ∷ []) bs cs p.2
      (subst (λ x. PassesAll s (done ++ x ∷ []) rest cs) ((e done a).one_answer q.0 p.0 q.1 p.1) q.2)

  FailsIn-one : (items : List A) (done : List B) (r q : R) → FailsIn s done items r → FailsIn s done items q → r ≡ q
  FailsIn-one [] done r q p z = absurd p
  FailsIn-one (a ∷ rest) done r q (inl p) (inl z) = (e done a).one_refusal r q p z
  FailsIn-one (a ∷ rest) done r q (inl p) (inr z) = absurd ((e done a).never_both z.0 r z.1 p)
  FailsIn-one (a ∷ rest) done r q (inr p) (inl z) = absurd ((e done a).never_both p.0 q p.1 z)
  FailsIn-one (a ∷ rest) done r q (inr p) (inr z) =
      FailsIn-one rest (done ++ p.0 ∷ []) r q p.2 (subst (λ x. FailsIn s (done ++ x ∷ []) rest q)
      ((e done a).one_answer z.0 p.0 z.1 p.1) z.2)

  PassesAll-never : (items : List A) (done bs : List B) (r : R) → PassesAll s done items bs → FailsIn s done items r → ⊥
  PassesAll-never [] done bs r p z = z
  PassesAll-never (a ∷ rest) done bs r p (inl z) = (e done a).never_both p.0 r p.1 z
  PassesAll-never (a ∷ rest) done bs r p (inr z) =
      PassesAll-never rest (done ++ p.0 ∷ []) bs r p.2
      (subst (λ x. FailsIn s (done ++ x ∷ []) rest r) ((e done a).one_answer z.0 p.0 z.1 p.1) z.2)

  pub IsExact-each : (items : List A) → IsExact (each items s)
  IsExact-each items = record {
    one_answer = λ bs cs p q. PassesAll-one items [] bs cs p q;
    one_refusal = λ r q p z. FailsIn-one items [] r q p z;
    never_both = λ bs r p z. PassesAll-never items [] bs r p z;
  }

pub IsWithin-then : {B C R : Type 0} (Kept : R → Type 0) (s s' : Check B R) (t t' : B → Check C R) → IsWithin Kept s s'
    → ((b : B) → IsWithin Kept (t b) (t' b)) → IsWithin Kept (s >>= t) (s' >>= t')
IsWithin-then Kept s s' t t' h k = record {
  answer = λ c p. (p.0, h.answer p.0 p.1, (k p.0).answer c p.2);
  refusal = λ r l p. go r l p;
}
  where
    go : (r : _) → Kept r → (s >>= t).fails r → (s' >>= t').fails r
    go r l (inl p) = inl (h.refusal r l p)
    go r l (inr p) = inr (p.0, h.answer p.0 p.1, (k p.0).refusal r l p.2)

-- with another refusal
pub IsWithin-refusing : {B R Q : Type 0} (Kept : R → Type 0) (Shown : Q → Type 0) (f : R → Q) (s t : Check B R)
    → ((r : R) → Shown (f r) → Kept r) → IsWithin Kept s t → IsWithin Shown (refusing f s) (refusing f t)
IsWithin-refusing Kept Shown f s t k h = record {
  answer = h.answer;
  refusal = λ q l p. (p.0, h.refusal p.0 (k p.0 (subst Shown p.2 l)) p.1, p.2);
}

pub IsWithin-given : {B R : Type 0} (Kept : R → Type 0) (b : B) → IsWithin Kept (given b) (given b)
IsWithin-given Kept b = record { answer = λ c p. p; refusal = λ r l p. p }

module _ {A B R : Type 0} (Kept : R → Type 0) (s t : List B → A → Check B R) (h : (done : List B) (a : A)
    → IsWithin Kept (s done a) (t done a)) where
  PassesAll-within : (items : List A) (done bs : List B) → PassesAll s done items bs → PassesAll t done items bs
  PassesAll-within [] done bs p = p
  PassesAll-within (a ∷ rest) done bs p = (
    p.0,
    (h done a).answer p.0 p.1,
    PassesAll-within rest (done ++ p.0 ∷ []) bs p.2,
  )

  FailsIn-within : (items : List A) (done : List B) (r : R) → Kept r → FailsIn s done items r → FailsIn t done items r
  FailsIn-within [] done r l p = p
  FailsIn-within (a ∷ rest) done r l (inl p) = inl ((h done a).refusal r l p)
  FailsIn-within (a ∷ rest) done r l (inr p) = inr
      (p.0, (h done a).answer p.0 p.1, FailsIn-within rest (done ++ p.0 ∷ []) r l p.2)

  pub IsWithin-each : (items : List A) → IsWithin Kept (each items s) (each items t)
  IsWithin-each items = record {
    answer = λ bs p. PassesAll-within items [] bs p;
    refusal = λ r l p. FailsIn-within items [] r l p;
  }

-- a loop over a list: the start, a step, the end, and a refusal on the way
pub Through-start : {A B R : Type 0} (s : List B → A → Check B R) (items : List A) → Through s items [] items
Through-start s items = record { answer = λ bs p. p; refusal = λ r p. p }

pub Through-step : {A B R : Type 0} (s : List B → A
    → Check B R) (items : List A) (done : List B) (a : A) (rest : List A) (b : B) → Through s items done (a ∷ rest)
    → (s done a).passes b → Through s items (done ++ b ∷ []) rest
Through-step s items done a rest b t p = record {
  answer = λ bs q. t.answer bs (b, p, q);
  refusal = λ r q. t.refusal r (inr (b, p, q));
}

pub Through-end : {A B R : Type 0} (s : List B → A → Check B R) (items : List A) (done : List B)
    → Through s items done [] → PassesAll s [] items done
Through-end s items done t = t.answer done refl

pub Through-refused : {A B R : Type 0} (s : List B → A
    → Check B R) (items : List A) (done : List B) (a : A) (rest : List A) (r : R) → Through s items done (a ∷ rest)
    → (s done a).fails r → FailsIn s [] items r
Through-refused s items done a rest r t p = t.refusal r (inl p)

-- the same in a loop of code, where the rest is what is left from an index on
pub Through-pushed : {A B R : Type 0} (s : List B → A
    → Check B R) (items : List A) (done new : List B) (i : ℕ) (d : A) (b : B) → Through s items done (drop i items)
    → i < length items
    → (s done (get_or items i d)).passes b → new ≡ done ++ b ∷ [] → Through s items new (drop (i + 1) items)
Through-pushed s items done new i d b t l p e =
    subst (λ x. Through s items x (drop (i + 1) items)) (sym e)
    (Through-step s items done (get_or items i d) (drop (i + 1) items) b
    (subst (λ x. Through s items done x) (drop_more items i d l) t) p)

-- what a layer that joins checks, goes over a list or sets limits cites
pub ruleset check_laws = (
  IsExact-then,
  IsExact-given,
  IsExact-refusing,
  IsExact-each,
  IsWithin-then,
  IsWithin-refusing,
  IsWithin-given,
  IsWithin-each,
  Through-start,
  Through-step,
  Through-end,
  Through-refused,
  Through-pushed,
)
