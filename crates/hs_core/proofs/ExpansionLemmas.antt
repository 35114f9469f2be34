-- Expansion: when there is one, that there is one alone, and that no synonym is left.
use Rattle.std.proofs.Common.{◌≡◌, refl, sym, ap, ap₂, ◌∙◌, subst, inl, inr, ℕ, zero, suc, ◌+◌, ◌≤◌, ◌<◌, arith, Bool}
use Rattle.std.proofs.Common.{true, false, true≢false, List, [], ◌∷◌, ◌++◌}
use Rattle.std.proofs.lemmas.Option.{none-some}
use Rattle.std.specs.Prelude.{◌⊎◌, Option, Some, None, IsSome, is_some, unwrap_or}
use Rattle.bp_base.specs.Lists.{Among}
use Rattle.bp_base.specs.declared.ty.OrigName.{OrigName}
use Rattle.type_terms.specs.Terms.{var, con, app, applied}
use Rattle.hs_core.specs.Types.{TypeTerm, applied_to, listed, count}
use Rattle.hs_core.specs.Expansion.{Synonym, Synonyms, Expands, ExpandEach, IsFullyApplied, Mentions, LeadsTo, IsMet}
use Rattle.hs_core.specs.Expansion.{IsExpandable, ExpansionExists, ExpansionIsOne}
use Rattle.hs_core.specs.Expansion.Expands.{variable, name, application, body_for}
use Rattle.hs_core.specs.Expansion.ExpandEach.{none, each}
use Rattle.hs_core.specs.Expansion.LeadsTo.{at_once, through}

-- ---- heads and arguments of applications

abbrev head_of : TypeTerm → TypeTerm
head_of (var i) = var i
head_of (con n) = con n
head_of (app f a) = head_of f

abbrev arguments_of : TypeTerm → List TypeTerm → List TypeTerm
arguments_of (var i) as' = as'
arguments_of (con n) as' = as'
arguments_of (app f a) as' = arguments_of f (a ∷ as')

head_applied : (t : TypeTerm) (args : List TypeTerm) → head_of (applied_to t args) ≡ head_of t
head_applied t [] = refl
head_applied t (a ∷ args) = head_applied (app t a) args

arguments_applied : (t : TypeTerm) (args : List TypeTerm) → arguments_of (applied_to t args) [] ≡ arguments_of t args
arguments_applied t [] = refl
arguments_applied t (a ∷ args) = arguments_applied (app t a) args

abbrev name_or : OrigName → TypeTerm → OrigName
name_or m (var i) = m
name_or m (con n) = n
name_or m (app f a) = m

-- a name and its arguments are those of the application
same_head : (n m : OrigName) (as' bs : List TypeTerm) → applied_to (con n) as' ≡ applied_to (con m) bs → n ≡ m
same_head n m as' bs e = ap (name_or n) (sym (head_applied (con n) as') ∙ ap head_of e ∙ head_applied (con m) bs)

same_arguments : (n m : OrigName) (as' bs : List TypeTerm) → applied_to (con n) as' ≡ applied_to (con m) bs → as' ≡ bs
same_arguments n m as' bs e = sym (arguments_applied (con n) as') ∙ ap (λ t. arguments_of t []) e
    ∙ arguments_applied (con m) bs

same_synonym : (S : Synonyms) (n m : OrigName) (s r : Synonym) → n ≡ m → S n ≡ Some s → S m ≡ Some r → s ≡ r
same_synonym S n m s r p a b = ap (λ o. unwrap_or o s) (sym a ∙ ap S p ∙ b)

none_and_some : (S : Synonyms) (n m : OrigName) (s : Synonym) → n ≡ m → S n ≡ None → S m ≡ Some s → ⊥
none_and_some S n m s p a b = none-some s (sym a ∙ ap S p ∙ b)

-- how many arguments a type is applied to
abbrev arity_of : TypeTerm → ℕ
arity_of (var i) = 0
arity_of (con n) = 0
arity_of (app f a) = suc (arity_of f)

arity_applied : (t : TypeTerm) (args : List TypeTerm) → arity_of (applied_to t args) ≡ arity_of t + count args
arity_applied t [] = Prim.omega arith
arity_applied t (a ∷ args) = let e = arity_applied (app t a) args in Prim.omega arith

-- ---- an expansion exists only where synonyms are fully applied

abbrev AllFull : Synonyms → List TypeTerm → Type 0
AllFull S [] = Unit {0}
AllFull S (t ∷ ts) = IsFullyApplied S t 0 × AllFull S ts

pub le_both : (a b c : ℕ) → a ≤ b → b ≤ c → a ≤ c
le_both a b c p q = Prim.omega arith

full_with_more : (S : Synonyms) (t : TypeTerm) (m n : ℕ) → m ≤ n → IsFullyApplied S t m → IsFullyApplied S t n
full_with_more S (var i) m n l h = tt
full_with_more S (con c) m n l h = λ s q. le_both s.params m n (h s q) l
full_with_more S (app f a) m n l h = (full_with_more S f (suc m) (suc n) (Prim.omega arith) h.0, h.1)

full_applied : (S : Synonyms) (t : TypeTerm) (args : List TypeTerm) (given : ℕ)
    → IsFullyApplied S t (count args + given) → AllFull S args → IsFullyApplied S (applied_to t args) given
full_applied S t [] given h all = full_with_more S t (0 + given) given (Prim.omega arith) h
full_applied S t (a ∷ args) given h all =
    full_applied S (app t a) args given
    (full_with_more S t (suc (count args) + given) (suc (count args + given)) (Prim.omega arith) h, all.0) all.1

le_at : (q m : ℕ) → q ≡ m → q ≤ m + 0
le_at q m p = Prim.omega arith

mutual
  pub expanded_full : (S : Synonyms) (t u : TypeTerm) → Expands S t u → IsFullyApplied S t 0
  expanded_full S _ _ (variable i) = tt
  expanded_full S _ _ (name n h) = λ s q. absurd (none_and_some S n n s refl h q)
  expanded_full S _ _ (application f a g b h k) =
      (full_with_more S f 0 1 (Prim.omega arith) (expanded_full S f g h), expanded_full S a b k)
  expanded_full S _ _ (body_for n s args us t v q c p h k) = subst (λ z. IsFullyApplied S z 0) (sym p)
      (full_applied S (con n) args 0
      (λ r z. le_at r.params (count args) (ap (λ x. x.params) (same_synonym S n n r s refl z q) ∙ sym c))
      (each_full S args us h))

  each_full : (S : Synonyms) (ts us : List TypeTerm) → ExpandEach S ts us → AllFull S ts
  each_full S _ _ none = tt
  each_full S _ _ (each t u ts us h k) = (expanded_full S t u h, each_full S ts us k)

abbrev is_variable : TypeTerm → Bool
is_variable (var i) = true
is_variable (con n) = false
is_variable (app f a) = false

var_con : (i : ℕ) (n : OrigName) → var i ≡ con n → ⊥
var_con i n e = true≢false (ap is_variable e)

-- a name that is fully applied has enough arguments
enough : (S : Synonyms) (t : TypeTerm) (given : ℕ) (n : OrigName) (s : Synonym) → IsFullyApplied S t given
    → head_of t ≡ con n → S n ≡ Some s → s.params ≤ arity_of t + given
enough S (var i) given n s h e q = absurd (var_con i n e)
enough S (con m) given n s h e q = let l = h s (ap S (ap (name_or m) e) ∙ q) in Prim.omega arith
enough S (app f a) given n s h e q = let l = enough S f (suc given) n s h.0 e q in Prim.omega arith

-- ---- a fully applied synonym expands by its body alone

too_few : (p m k : ℕ) → p ≤ m + 0 → suc m ≡ 0 + k → k ≡ p → ⊥
too_few p m k l e c = Prim.omega arith

not_by_parts : (S : Synonyms) (f a g : TypeTerm) (n : OrigName) (s : Synonym) (args : List TypeTerm) → Expands S f g
    → app f a ≡ applied_to (con n) args → S n ≡ Some s → count args ≡ s.params → ⊥
not_by_parts S f a g n s args x p q c =
    too_few s.params (arity_of f) (count args)
    (enough S f 0 n s (expanded_full S f g x) (ap head_of p ∙ head_applied (con n) args) q)
    (ap arity_of p ∙ arity_applied (con n) args) c

record ByBody (S : Synonyms) (s : Synonym) (args : List TypeTerm) (w : TypeTerm) : Type 0 where
  us : List TypeTerm
  body : TypeTerm
  args_expand : ExpandEach S args us
  body_expands : Expands S s.body body
  is : w ≡ applied (listed us) body

of_synonym : (S : Synonyms) (n : OrigName) (s : Synonym) (args : List TypeTerm) (t w : TypeTerm) → Expands S t w
    → t ≡ applied_to (con n) args → S n ≡ Some s → count args ≡ s.params → ByBody S s args w
of_synonym S n s args _ _ (variable i) p q c = absurd (var_con i n (ap head_of p ∙ head_applied (con n) args))
of_synonym S n s args _ _ (name m h) p q c = absurd
    (none_and_some S m n s (ap (name_or m) (ap head_of p ∙ head_applied (con n) args)) h q)
of_synonym S n s args _ _ (application f a g b x y) p q c = absurd (not_by_parts S f a g n s args x p q c)
of_synonym S n s args _ _ (body_for m r bs us t v q' c' p' h k) p q c =
    let same = sym p' ∙ p in
    let synonyms = same_synonym S m n r s (same_head m n bs args same) q' q in
    record {
      us = us;
      body = v;
      args_expand = subst (λ x. ExpandEach S x us) (same_arguments m n bs args same) h;
      body_expands = subst (λ x. Expands S x.body v) synonyms k;
      is = refl;
    }

-- ---- there is one expansion

of_variable : (S : Synonyms) (i : ℕ) (t v : TypeTerm) → Expands S t v → t ≡ var i → v ≡ var i
of_variable S i _ _ (variable j) p = p
of_variable S i _ _ (name n h) p = absurd (var_con i n (sym p))
of_variable S i _ _ (application f a g b x y) p = absurd (0≢1' (ap arity_of p))
  where
    0≢1' : suc (arity_of f) ≡ 0 → ⊥
    0≢1' e = Prim.omega arith
of_variable S i _ _ (body_for n s args us t v q c p' h k) p = absurd
    (var_con i n (ap head_of (sym p ∙ p') ∙ head_applied (con n) args))

of_name : (S : Synonyms) (n : OrigName) (t v : TypeTerm) → S n ≡ None → Expands S t v → t ≡ con n → v ≡ con n
of_name S n _ _ q (variable j) p = p
of_name S n _ _ q (name m h) p = p
of_name S n _ _ q (application f a g b x y) p = absurd (0≢1' (ap arity_of p))
  where
    0≢1' : suc (arity_of f) ≡ 0 → ⊥
    0≢1' e = Prim.omega arith
of_name S n _ _ q (body_for m s args us t v q' c p' h k) p =
    absurd (none_and_some S n m s (ap (name_or n) (ap head_of (sym p ∙ p') ∙ head_applied (con m) args)) q q')

record ByParts (S : Synonyms) (f a w : TypeTerm) : Type 0 where
  g : TypeTerm
  b : TypeTerm
  f_expands : Expands S f g
  a_expands : Expands S a b
  is : w ≡ app g b

abbrev function_part : TypeTerm → TypeTerm
function_part (app f a) = f
function_part t = t

abbrev argument_part : TypeTerm → TypeTerm
argument_part (app f a) = a
argument_part t = t

of_parts : (S : Synonyms) (f a t w g : TypeTerm) → Expands S f g → Expands S t w → t ≡ app f a → ByParts S f a w
of_parts S f a _ _ g x (variable j) p = absurd (never (ap arity_of p))
  where
    never : 0 ≡ suc (arity_of f) → ⊥
    never e = Prim.omega arith
of_parts S f a _ _ g x (name m h) p = absurd (never (ap arity_of p))
  where
    never : 0 ≡ suc (arity_of f) → ⊥
    never e = Prim.omega arith
of_parts S f a _ _ g x (application f' a' g' b' y z) p = record {
  g = g';
  b = b';
  f_expands = subst (λ i. Expands S i g') (ap function_part p) y;
  a_expands = subst (λ i. Expands S i b') (ap argument_part p) z;
  is = refl;
}
of_parts S f a _ _ g x (body_for n s args us t v q c p' h k) p = absurd
    (not_by_parts S f a g n s args x (sym p ∙ p') q c)

mutual
  one : (S : Synonyms) (t u v : TypeTerm) → Expands S t u → Expands S t v → u ≡ v
  one S _ _ v (variable i) e = sym (of_variable S i _ v e refl)
  one S _ _ v (name n h) e = sym (of_name S n _ v h e refl)
  one S _ _ v (application f a g b x y) e =
      let parts = of_parts S f a _ v g x e refl in
      ap₂ app (one S f g parts.g x parts.f_expands) (one S a b parts.b y parts.a_expands) ∙ sym parts.is
  one S _ _ v (body_for n s args us t w q c p h k) e =
      let other = of_synonym S n s args t v e p q c in
      ap₂ (λ x y. applied (listed x) y) (one_each S args us other.us h other.args_expand)
      (one S s.body w other.body k other.body_expands) ∙ sym other.is

  one_each : (S : Synonyms) (ts us vs : List TypeTerm) → ExpandEach S ts us → ExpandEach S ts vs → us ≡ vs
  one_each S _ _ _ none none = refl
  one_each S _ _ _ (each t u ts us h k) (each _ v _ vs i j) = ap₂ ◌∷◌ (one S t u v h i) (one_each S ts us vs k j)

pub expansion_is_one : ExpansionIsOne
expansion_is_one = one

-- ---- no synonym is left

abbrev AnyMentions : List TypeTerm → OrigName → Type 0
AnyMentions [] n = ⊥
AnyMentions (t ∷ ts) n = Mentions t n ⊎ AnyMentions ts n

listed_mentions : (us : List TypeTerm) (i : ℕ) (n : OrigName) → Mentions (listed us i) n → AnyMentions us n
listed_mentions [] i n h = absurd h
listed_mentions (u ∷ us) zero n h = inl h
listed_mentions (u ∷ us) (suc i) n h = inr (listed_mentions us i n h)

applied_mentions : (us : List TypeTerm) (t : TypeTerm) (n : OrigName) → Mentions (applied (listed us) t) n
    → Mentions t n ⊎ AnyMentions us n
applied_mentions us (var i) n h = inr (listed_mentions us i n h)
applied_mentions us (con m) n h = inl h
applied_mentions us (app f a) n (inl h) = in_fun (applied_mentions us f n h)
  where
    in_fun : Mentions f n ⊎ AnyMentions us n → Mentions (app f a) n ⊎ AnyMentions us n
    in_fun (inl x) = inl (inl x)
    in_fun (inr x) = inr x
applied_mentions us (app f a) n (inr h) = in_arg (applied_mentions us a n h)
  where
    in_arg : Mentions a n ⊎ AnyMentions us n → Mentions (app f a) n ⊎ AnyMentions us n
    in_arg (inl x) = inl (inr x)
    in_arg (inr x) = inr x

mutual
  pub none_is_left : (S : Synonyms) (t u : TypeTerm) (n : OrigName) → Expands S t u → Mentions u n → S n ≡ None
  none_is_left S _ _ n (variable i) h = absurd h
  none_is_left S _ _ n (name m k) h = subst (λ x. S x ≡ None) h k
  none_is_left S _ _ n (application f a g b x y) (inl h) = none_is_left S f g n x h
  none_is_left S _ _ n (application f a g b x y) (inr h) = none_is_left S a b n y h
  none_is_left S _ _ n (body_for m s args us t v q c p x y) h =
      elim (applied_mentions us v n h) [ inl k ↦ none_is_left S s.body v n y k | inr k ↦ each_left S args us n x k ]

  each_left : (S : Synonyms) (ts us : List TypeTerm) (n : OrigName) → ExpandEach S ts us → AnyMentions us n → S n ≡ None
  each_left S _ _ n none h = absurd h
  each_left S _ _ n (each t u ts us x y) (inl h) = none_is_left S t u n x h
  each_left S _ _ n (each t u ts us x y) (inr h) = each_left S ts us n y h

-- ---- where a type expands, so does the body of each synonym that is met, by a smaller derivation

abbrev mutual
  height : (S : Synonyms) (t u : TypeTerm) → Expands S t u → ℕ
  height S _ _ (variable i) = 0
  height S _ _ (name n h) = 0
  height S _ _ (application f a g b x y) = suc (height S f g x + height S a b y)
  height S _ _ (body_for n s args us t v q c p x y) = suc (heights S args us x + height S s.body v y)

  heights : (S : Synonyms) (ts us : List TypeTerm) → ExpandEach S ts us → ℕ
  heights S _ _ none = 0
  heights S _ _ (each t u ts us x y) = height S t u x + heights S ts us y

-- the body has an expansion lower than this
record Lower (S : Synonyms) (s : Synonym) (k : ℕ) : Type 0 where
  to : TypeTerm
  expands : Expands S s.body to
  lower : height S s.body to expands < k

raised : (S : Synonyms) (s : Synonym) (j k : ℕ) → j ≤ k → Lower S s j → Lower S s k
raised S s j k l h = record { to = h.to; expands = h.expands; lower = below (height S s.body h.to h.expands) h.lower }
  where
    below : (m : ℕ) → m < j → m < k
    below m q = Prim.omega arith

applied_any : (n m : OrigName) (args : List TypeTerm) (t : TypeTerm) → Mentions (applied_to t args) m → Mentions t m
    ⊎ AnyMentions args m
applied_any n m [] t h = inl h
applied_any n m (a ∷ args) t h = sorted (applied_any n m args (app t a) h)
  where
    sorted : Mentions (app t a) m ⊎ AnyMentions args m → Mentions t m ⊎ AnyMentions (a ∷ args) m
    sorted (inl (inl x)) = inl x
    sorted (inl (inr x)) = inr (inl x)
    sorted (inr x) = inr (inr x)

mutual
  met_body : (S : Synonyms) (t u : TypeTerm) (e : Expands S t u) (m : OrigName) (r : Synonym) → Mentions t m
      → S m ≡ Some r → Lower S r (height S t u e)
  met_body S _ _ (variable i) m r h q = absurd h
  met_body S _ _ (name n k) m r h q = absurd (none_and_some S n m r h k q)
  met_body S _ _ (application f a g b x y) m r (inl h) q =
      raised S r (height S f g x) (suc (height S f g x + height S a b y)) (Prim.omega arith) (met_body S f g x m r h q)
  met_body S _ _ (application f a g b x y) m r (inr h) q =
      raised S r (height S a b y) (suc (height S f g x + height S a b y)) (Prim.omega arith) (met_body S a b y m r h q)
  met_body S _ _ (body_for n s args us t v q' c p x y) m r h q =
      elim (applied_any n m args (con n) (subst (λ z. Mentions z m) p h)) [
        | inl k ↦ subst (λ z. Lower S z (suc (heights S args us x + height S s.body v y)))
            (same_synonym S n m s r k q' q)
            (record { to = v; expands = y; lower = Prim.omega arith })
        | inr k ↦ raised S r (heights S args us x) (suc (heights S args us x + height S s.body v y)) (Prim.omega arith)
            (met_in_each S args us x m r k q)
      ]

  met_in_each : (S : Synonyms) (ts us : List TypeTerm) (e : ExpandEach S ts us) (m : OrigName) (r : Synonym)
      → AnyMentions ts m → S m ≡ Some r → Lower S r (heights S ts us e)
  met_in_each S _ _ none m r h q = absurd h
  met_in_each S _ _ (each t u ts us x y) m r (inl h) q =
      raised S r (height S t u x) (height S t u x + heights S ts us y) (Prim.omega arith) (met_body S t u x m r h q)
  met_in_each S _ _ (each t u ts us x y) m r (inr h) q =
      raised S r (heights S ts us y) (height S t u x + heights S ts us y) (Prim.omega arith)
      (met_in_each S ts us y m r h q)

-- what leads to a name is a synonym
pub starts : (S : Synonyms) (n m : OrigName) → LeadsTo S n m → (s : Synonym) × (S n ≡ Some s)
starts S _ _ (at_once n m s q h) = (s, q)
starts S _ _ (through n m l a b) = starts S n m a

leads_lower : (S : Synonyms) (n m : OrigName) → LeadsTo S n m → (s : Synonym) → S n ≡ Some s
    → (v : TypeTerm) (e : Expands S s.body v) (r : Synonym) → S m ≡ Some r → Lower S r (height S s.body v e)
leads_lower S _ _ (at_once n m z p h) s q v e r w = met_body S s.body v e m r
    (subst (λ x. Mentions x.body m) (same_synonym S n n z s refl p q) h) w
leads_lower S _ _ (through n m l a b) s q v e r w =
    let middle = starts S m l b in
    let first = leads_lower S n m a s q v e middle.0 middle.1 in
    raised S r (height S middle.0.body first.to first.expands) (height S s.body v e) (lt_le _ _ first.lower)
    (leads_lower S m l b middle.0 middle.1 first.to first.expands r w)
  where
    lt_le : (x y : ℕ) → x < y → x ≤ y
    lt_le x y z = Prim.omega arith

no_cycle : (S : Synonyms) (k : ℕ) (n : OrigName) (s : Synonym) → LeadsTo S n n → S n ≡ Some s → Lower S s k → ⊥
no_cycle S zero n s l q h = never _ h.lower
  where
    never : (m : ℕ) → m < 0 → ⊥
    never m z = Prim.omega arith
no_cycle S (suc k) n s l q h = no_cycle S k n s l q
    (raised S s (height S s.body h.to h.expands) k (at_most _ h.lower) (leads_lower S n n l s q h.to h.expands s q))
  where
    at_most : (m : ℕ) → m < suc k → m ≤ k
    at_most m z = Prim.omega arith

is_met_lower : (S : Synonyms) (t u : TypeTerm) (e : Expands S t u) (n : OrigName) (s : Synonym) → IsMet S t n
    → S n ≡ Some s → Lower S s (height S t u e)
is_met_lower S t u e n s (inl h) q = met_body S t u e n s h q
is_met_lower S t u e n s (inr (m, h, l)) q =
    let first = starts S m n l in
    let body = met_body S t u e m first.0 h first.1 in
    raised S s (height S first.0.body body.to body.expands) (height S t u e) (lt_le _ _ body.lower)
    (leads_lower S m n l first.0 first.1 body.to body.expands s q)
  where
    lt_le : (x y : ℕ) → x < y → x ≤ y
    lt_le x y z = Prim.omega arith

pub expandable_from : (S : Synonyms) (t u : TypeTerm) → Expands S t u → IsExpandable S t
expandable_from S t u e = record {
  applied_fully = expanded_full S t u e;
  bodies = λ n s h q. let body = is_met_lower S t u e n s h q in expanded_full S s.body body.to body.expands;
  acyclic = λ n h l. let s = starts S n n l
      in no_cycle S (height S t u e) n s.0 l s.1 (is_met_lower S t u e n s.0 h s.1);
}

-- ---- where it should, a type expands

abbrev pub drop_at : (n : OrigName) (ns : List OrigName) → Among n ns → List OrigName
drop_at n [] h = absurd h
drop_at n (m ∷ ms) (inl p) = ms
drop_at n (m ∷ ms) (inr h) = m ∷ drop_at n ms h

pub drop_count : (n : OrigName) (ns : List OrigName) (h : Among n ns) → count ns ≡ suc (count (drop_at n ns h))
drop_count n [] h = absurd h
drop_count n (m ∷ ms) (inl p) = refl
drop_count n (m ∷ ms) (inr h) = ap suc (drop_count n ms h)

pub among_others : (m n : OrigName) (ns : List OrigName) (h : Among n ns) → Among m ns → (n ≡ m → ⊥)
    → Among m (drop_at n ns h)
among_others m n [] h k other = absurd h
among_others m n (x ∷ xs) (inl p) (inl q) other = absurd (other (sym p ∙ q))
among_others m n (x ∷ xs) (inl p) (inr k) other = k
among_others m n (x ∷ xs) (inr h) (inl q) other = inl q
among_others m n (x ∷ xs) (inr h) (inr k) other = inr (among_others m n xs h k other)

pub apply_each : (S : Synonyms) (t u : TypeTerm) (ts us : List TypeTerm) → Expands S t u → ExpandEach S ts us
    → Expands S (applied_to t ts) (applied_to u us)
apply_each S t u _ _ h none = h
apply_each S t u _ _ h (each a b ts us x y) = apply_each S (app t a) (app u b) ts us (application t a u b h x) y

-- the first so many arguments and the rest
record Parted (S : Synonyms) (p : ℕ) (ts : List TypeTerm) : Type 0 where
  front : List TypeTerm
  rest : List TypeTerm
  front_to : List TypeTerm
  rest_to : List TypeTerm
  is : front ++ rest ≡ ts
  many : count front ≡ p
  front_expand : ExpandEach S front front_to
  rest_expand : ExpandEach S rest rest_to

parted : (S : Synonyms) (p : ℕ) (ts us : List TypeTerm) → ExpandEach S ts us → p ≤ count ts → Parted S p ts
parted S zero ts us h l = record {
  front = [];
  rest = ts;
  front_to =
      [];
  rest_to = us;
  is = refl;
  many = refl;
  front_expand = none;
  rest_expand = h;
}
parted S (suc p) _ _ none l = absurd (never l)
  where
    never : suc p ≤ 0 → ⊥
    never z = Prim.omega arith
parted S (suc p) _ _ (each t u ts us x y) l =
    let h = parted S p ts us y (Prim.omega arith) in
    record {
      front = t ∷ h.front;
      rest = h.rest;
      front_to = u ∷ h.front_to;
      rest_to = h.rest_to;
      is = ap (λ z. t ∷ z) h.is;
      many = ap suc h.many;
      front_expand = each t u h.front h.front_to x h.front_expand;
      rest_expand = h.rest_expand;
    }

pub applied_append : (t : TypeTerm) (as' bs : List TypeTerm) → applied_to t (as' ++ bs) ≡ applied_to (applied_to t as') bs
applied_append t [] bs = refl
applied_append t (a ∷ as') bs = applied_append (app t a) as' bs

abbrev BodiesExpand : Synonyms → TypeTerm → Type 0
BodiesExpand S t = (n : OrigName) (s : Synonym) → Mentions t n → S n ≡ Some s → (v : TypeTerm) × Expands S s.body v

spine : (S : Synonyms) (t : TypeTerm) (args us : List TypeTerm) → BodiesExpand S t → ExpandEach S args us
    → IsFullyApplied S t (count args) → (u : TypeTerm) × Expands S (applied_to t args) u
spine S (var i) args us bodies h full = (_, apply_each S (var i) (var i) args us (variable i) h)
spine S (con n) args us bodies h full = by (S n) refl
  where
    by : (o : Option Synonym) → S n ≡ o → (u : TypeTerm) × Expands S (applied_to (con n) args) u
    by None q = (_, apply_each S (con n) (con n) args us (name n q) h)
    by (Some s) q =
        let body = bodies n s refl q in
        let cut = parted S s.params args us h (full s q) in
        let head = body_for n s cut.front cut.front_to _ body.0 q cut.many refl cut.front_expand body.1 in (
          _,
          subst (λ z. Expands S z (applied_to (applied (listed cut.front_to) body.0) cut.rest_to))
              (sym (applied_append (con n) cut.front cut.rest) ∙ ap (λ z. applied_to (con n) z) cut.is)
              (apply_each S _ _ cut.rest cut.rest_to head cut.rest_expand),
        )
spine S (app f a) args us bodies h full =
    let arg = spine S a [] [] (λ n s m q. bodies n s (inr m) q) none full.1 in
    spine S f (a ∷ args) (arg.0 ∷ us) (λ n s m q. bodies n s (inl m) q) (each a arg.0 args us arg.1 h) full.0

met_from_body : (S : Synonyms) (t : TypeTerm) (n m : OrigName) (s : Synonym) → Mentions t n → S n ≡ Some s
    → IsMet S s.body m → LeadsTo S n m
met_from_body S t n m s h q (inl k) = at_once n m s q k
met_from_body S t n m s h q (inr (l, k, x)) = through n l m (at_once n l s q k) x

expandable_body : (S : Synonyms) (t : TypeTerm) (n : OrigName) (s : Synonym) → Mentions t n → S n ≡ Some s
    → IsExpandable S t → IsExpandable S s.body
expandable_body S t n s h q e = record {
  applied_fully = e.bodies n s (inl h) q;
  bodies = λ m r k w. e.bodies m r (inr (n, h, met_from_body S t n m s h q k)) w;
  acyclic = λ m k l. e.acyclic m (inr (n, h, met_from_body S t n m s h q k)) l;
}

abbrev CoversMet : Synonyms → TypeTerm → List OrigName → Type 0
CoversMet S t names = (n : OrigName) → IsMet S t n → IsSome (S n) → Among n names

pub some_of : (S : Synonyms) (n : OrigName) (s : Synonym) → S n ≡ Some s → IsSome (S n)
some_of S n s q = ap is_some q

no_names_left : (names : List OrigName) (n : OrigName) → count names ≤ 0 → Among n names → ⊥
no_names_left [] n l h = h
no_names_left (m ∷ ms) n l h = never (count ms) l
  where
    never : (k : ℕ) → suc k ≤ 0 → ⊥
    never k z = Prim.omega arith

fewer : (a b k : ℕ) → a ≡ suc b → a ≤ suc k → b ≤ k
fewer a b k p l = Prim.omega arith

expands_within : (k : ℕ) (S : Synonyms) (t : TypeTerm) (names : List OrigName) → count names ≤ k → CoversMet S t names
    → IsExpandable S t → (u : TypeTerm) × Expands S t u
expands_within zero S t names l all e = spine S t [] []
    (λ n s m q. absurd (no_names_left names n l (all n (inl m) (some_of S n s q)))) none e.applied_fully
expands_within (suc k) S t names l all e = spine S t [] [] (λ n s m q.
    let h = all n (inl m) (some_of S n s q) in
    expands_within k S s.body (drop_at n names h) (fewer _ _ k (drop_count n names h) l)
    (λ i met some. among_others i n names h (all i (inr (n, m, met_from_body S t n i s m q met)) some)
    (λ p. e.acyclic n (inl m) (subst (λ z. LeadsTo S n z) (sym p) (met_from_body S t n i s m q met))))
    (expandable_body S t n s m q e)) none e.applied_fully

pub expansion_exists : ExpansionExists
expansion_exists S names all t = (
  λ h. expandable_from S t h.0 h.1,
  λ e. expands_within (count names) S t names (le_same (count names)) (λ n m s. all n s) e,
)
  where
    le_same : (n : ℕ) → n ≤ n
    le_same n = Prim.omega arith
