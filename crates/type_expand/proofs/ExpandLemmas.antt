-- Expansion case by case, and that so many synonyms are enough.
use Rattle.std.proofs.Common.{◌≡◌, ℕ, zero, suc, ◌-◌, ◌<◌, ◌≤◌, Bool, true, false, List, [], ◌∷◌, ◌++◌, length}
use Rattle.std.proofs.Common.{take, drop}
use Rattle.std.proofs.Common.{inl, inr, refl, sym, ap, subst, ◌∙◌, arith, true≢false}
use Rattle.std.specs.Prelude.{map, reverse, Option, Some, None, IsSome, is_some, nat_le, IsTrue}
use Rattle.std.proofs.lemmas.Bool.{leb-true, leb-false}
use Rattle.std.proofs.lemmas.List.{take-append-drop, length-reverse}
use Rattle.kind_check.proofs.ScopeLemmas.{count-length}
use Rattle.bp_base.specs.Lists.{Among}
use Rattle.bp_base.specs.declared.ty.OrigName.{OrigName}
use Rattle.bp_base.specs.declared.ty.Kind.{Kind}
use Rattle.bp_base.specs.declared.ty.Ty.{Ty}
use Rattle.bp_base.specs.declared.ty.Ty.TheVariants.{Var, Con, App}
use Rattle.type_terms.specs.Terms.{var, con, app, applied}
use Rattle.hs_core.specs.Types.{TypeTerm, type_term, applied_to, listed, count}
use Rattle.hs_core.specs.Expansion.{Synonym, Synonyms, Expands, ExpandEach, IsMet, LeadsTo}
use Rattle.hs_core.specs.Expansion.{IsExpandable}
use Rattle.hs_core.specs.Expansion.LeadsTo.{at_once, through}
use Rattle.hs_core.specs.Expansion.Expands.{variable, name, application, body_for}
use Rattle.hs_core.specs.Expansion.ExpandEach.{none, each}
use Rattle.hs_core.specs.Sameness.{same_original}
use Rattle.hs_core.proofs.SamenessLemmas.{original_same}
use Rattle.hs_core.proofs.ExpansionLemmas.{drop_at, drop_count, among_others, apply_each, applied_append}
use Rattle.kind_check.specs.declared.scope.Known.{Known}
use Rattle.kind_check.specs.declared.scope.Sense.{Sense}
use Rattle.kind_check.specs.declared.scope.Sense.TheVariants.{SynonymOf}
use Rattle.kind_check.specs.Answers.{known_synonyms, sense_synonym}
use Rattle.type_expand.specs.Lawful.{names_of}
use Rattle.type_expand.specs.Expanding.{stacked_types, CanExpand, CanNotExpand, ExpandsFor}
use Rattle.type_expand.proofs.TypeLemmas.{type_app, stacked_types-push}

-- ---- the parts of a type that expands

met_fun : (S : Synonyms) (f a : TypeTerm) (n : OrigName) → IsMet S f n → IsMet S (app f a) n
met_fun S f a n (inl k) = inl (inl k)
met_fun S f a n (inr (m, k, x)) = inr (m, inl k, x)

met_arg : (S : Synonyms) (f a : TypeTerm) (n : OrigName) → IsMet S a n → IsMet S (app f a) n
met_arg S f a n (inl k) = inl (inr k)
met_arg S f a n (inr (m, k, x)) = inr (m, inr k, x)

pub can_fun : (S : Synonyms) (f a : TypeTerm) (given fuel : ℕ) → CanExpand S (app f a) given fuel
    → CanExpand S f (suc given) fuel
can_fun S f a given fuel c = record {
  full = c.full.0;
  bodies = λ n s m q. c.bodies n s (met_fun S f a n m) q;
  acyclic = λ n m. c.acyclic n (met_fun S f a n m);
  names = c.names;
  few = c.few;
  covers = λ n m q. c.covers n (met_fun S f a n m) q;
}

pub can_arg : (S : Synonyms) (f a : TypeTerm) (given fuel : ℕ) → CanExpand S (app f a) given fuel
    → CanExpand S a 0 fuel
can_arg S f a given fuel c = record {
  full = c.full.1;
  bodies = λ n s m q. c.bodies n s (met_arg S f a n m) q;
  acyclic = λ n m. c.acyclic n (met_arg S f a n m);
  names = c.names;
  few = c.few;
  covers = λ n m q. c.covers n (met_arg S f a n m) q;
}

leads_from : (S : Synonyms) (n m : OrigName) (s : Synonym) → S n ≡ Some s → IsMet S s.body m → LeadsTo S n m
leads_from S n m s q (inl k) = at_once n m s q k
leads_from S n m s q (inr (l, k, x)) = through n l m (at_once n l s q k) x

-- a synonym's body expands with one synonym less
pub can_body : (S : Synonyms) (n : OrigName) (s : Synonym) (given fuel : ℕ) → S n ≡ Some s
    → CanExpand S (con n) given fuel → CanExpand S s.body 0 (fuel - 1)
can_body S n s given fuel q c =
    let h = c.covers n (inl refl) (ap is_some q) in
    let e = drop_count n c.names h in
    let l = c.few in
    record {
      full = c.bodies n s (inl refl) q;
      bodies = λ m r k w. c.bodies m r (inr (n, refl, leads_from S n m s q k)) w;
      acyclic = λ m k. c.acyclic m (inr (n, refl, leads_from S n m s q k));
      names = drop_at n c.names h;
      few = omega (arith, e, l);
      covers = λ i met some.
          among_others i n c.names h (c.covers i (inr (n, refl, leads_from S n i s q met)) some)
          (λ p. c.acyclic n (inl refl) (subst (LeadsTo S n) (sym p) (leads_from S n i s q met)));
    }

pub some_fuel : (S : Synonyms) (n : OrigName) (s : Synonym) (given fuel : ℕ) → S n ≡ Some s
    → CanExpand S (con n) given fuel → 1 ≤ fuel
some_fuel S n s given fuel q c =
    let h = c.covers n (inl refl) (ap is_some q) in
    let e = drop_count n c.names h in
    let l = c.few in
    omega (arith, e, l)

-- ---- each case

for_app : (S : Synonyms) (f a v w : TypeTerm) (us : List TypeTerm) → Expands S a v → ExpandsFor S f (v ∷ us) w
    → ExpandsFor S (app f a) us w
for_app S f a v w us x h ts e = h (a ∷ ts) (each a v ts us x e)

-- the first so many, the rest, and their expansions
record Parted (S : Synonyms) (p : ℕ) (ts us : List TypeTerm) : Type 0 where
  many : count (take p ts) ≡ p
  front : ExpandEach S (take p ts) (take p us)
  rest : ExpandEach S (drop p ts) (drop p us)

parted : (S : Synonyms) (p : ℕ) (ts us : List TypeTerm) → ExpandEach S ts us → p ≤ count us → Parted S p ts us
parted S zero ts us h l = record { many = refl; front = none; rest = h }
parted S (suc p) _ _ none l = absurd (never l)
  where
    never : suc p ≤ 0 → ⊥
    never z = Prim.omega arith
parted S (suc p) _ _ (each t u ts us x y) l =
    let h = parted S p ts us y (Prim.omega arith) in
    record { many = ap suc h.many; front = each t u (take p ts) (take p us) x h.front; rest = h.rest }

for_synonym : (S : Synonyms) (n : OrigName) (s : Synonym) (us : List TypeTerm) (w : TypeTerm) → S n ≡ Some s
    → s.params ≤ count us → Expands S s.body w
    → ExpandsFor S (con n) us (applied_to (applied (listed (take s.params us)) w) (drop s.params us))
for_synonym S n s us w q l h ts e =
    let cut = parted S s.params ts us e l in
    let head = body_for n s (take s.params ts) (take s.params us) _ w q cut.many refl cut.front h in
    subst (λ t. Expands S t (applied_to (applied (listed (take s.params us)) w) (drop s.params us)))
    (sym (applied_append (con n) (take s.params ts) (drop s.params ts))
    ∙ ap (applied_to (con n)) (take-append-drop s.params ts))
    (apply_each S _ _ (drop s.params ts) (drop s.params us) head cut.rest)

-- ---- what the code has

pub done_var : (S : Synonyms) (ty own t : Ty) (i : ℕ) (us : List TypeTerm) → ty ≡ Var i → own ≡ Var i
    → type_term t ≡ applied_to (type_term own) us → ExpandsFor S (type_term ty) us (type_term t)
done_var S ty own t i us e f g ts h =
    subst (λ x. Expands S (applied_to (type_term x) ts) (type_term t)) (sym e)
    (subst (Expands S (applied_to (var i) ts)) (sym (g ∙ ap (λ x. applied_to (type_term x) us) f))
    (apply_each S (var i) (var i) ts us (variable i) h))

pub done_name : (S : Synonyms) (ty own t : Ty) (n : OrigName) (k : Kind) (us : List TypeTerm) → ty ≡ Con n k
    → own ≡ ty → S n ≡ None → type_term t ≡ applied_to (type_term own) us
    → ExpandsFor S (type_term ty) us (type_term t)
done_name S ty own t n k us e f q g ts h =
    subst (λ x. Expands S (applied_to (type_term x) ts) (type_term t)) (sym e)
    (subst (Expands S (applied_to (con n) ts)) (sym (g ∙ ap (λ x. applied_to (type_term x) us) (f ∙ e)))
    (apply_each S (con n) (con n) ts us (name n q) h))

count-stacked : (ts : List Ty) → count (stacked_types ts) ≡ count ts
count-stacked ts = count-map (reverse ts) ∙ count-length (reverse ts) ∙ length-reverse ts ∙ sym (count-length ts)
  where
    count-map : (us : List Ty) → count (map type_term us) ≡ count us
    count-map [] = refl
    count-map (u ∷ us) = ap suc (count-map us)

-- the body alone expands
pub alone : (S : Synonyms) (t v : TypeTerm) (args : List Ty) → args ≡ [] → ExpandsFor S t (stacked_types args) v
    → Expands S t v
alone S t v args e h = subst (λ xs. ExpandsFor S t (stacked_types xs) v) e h [] none

-- what a synonym is, by the meaning of its name
pub synonym_is : (o : Option Synonym) (sense : Sense) (k : Kind) (p : ℕ) (b : Ty) → o ≡ sense_synonym sense
    → sense ≡ SynonymOf k p b → o ≡ Some (record { params = p; body = type_term b })
synonym_is o sense k p b e f = e ∙ ap sense_synonym f

pub done_synonym : (S : Synonyms) (ty t whole : Ty) (n : OrigName) (k : Kind) (p : ℕ) (b : TypeTerm)
    (args : List Ty) → ty ≡ Con n k → S n ≡ Some (record { params = p; body = b })
    → p ≤ length args → Expands S b (type_term whole)
    → type_term t
    ≡ applied_to (applied (listed (take p (stacked_types args))) (type_term whole)) (drop p (stacked_types args))
    → ExpandsFor S (type_term ty) (stacked_types args) (type_term t)
done_synonym S ty t whole n k p b args e q l h g =
    subst (λ x. ExpandsFor S (type_term x) (stacked_types args) (type_term t)) (sym e)
    (subst (ExpandsFor S (con n) (stacked_types args)) (sym g)
    (for_synonym S n (record { params = p; body = b }) (stacked_types args) (type_term whole) q
    (subst (λ m. p ≤ m) (sym (count-stacked args ∙ count-length args)) l) h))

pub done_app : (S : Synonyms) (ty f a g b own : Ty) (args none' more : List Ty) (w : TypeTerm) → ty ≡ App f a → g ≡ f
    → b ≡ a → none' ≡ [] → more ≡ args ++ own ∷ []
    → ExpandsFor S (type_term b) (stacked_types none') (type_term own)
    → ExpandsFor S (type_term g) (stacked_types more) w
    → ExpandsFor S (type_term ty) (stacked_types args) w
done_app S ty f a g b own args none' more w e p q z m x y =
    let one = subst (λ i. Expands S (type_term i) (type_term own)) q (alone S (type_term b) (type_term own) none' z x)
    in
    let two = subst (λ i. ExpandsFor S (type_term i) (type_term own ∷ stacked_types args) w) p
    (subst (λ us. ExpandsFor S (type_term g) us w) (ap stacked_types m ∙ stacked_types-push args own) y) in
    subst (λ i. ExpandsFor S i (stacked_types args) w) (sym (ap type_term e ∙ type_app f a))
    (for_app S (type_term f) (type_term a) (type_term own) w (stacked_types args) one two)

-- ---- what the calls owe

pub owe_arg : (S : Synonyms) (ty f a b : Ty) (args none' : List Ty) (fuel : ℕ) → ty ≡ App f a → b ≡ a → none' ≡ []
    → CanExpand S (type_term ty) (count args) fuel → CanExpand S (type_term b) (count none') fuel
owe_arg S ty f a b args none' fuel e q z c =
    subst (λ xs. CanExpand S (type_term b) (count xs) fuel) (sym z)
    (subst (λ i. CanExpand S (type_term i) 0 fuel) (sym q)
    (can_arg S (type_term f) (type_term a) (count args) fuel
    (subst (λ i. CanExpand S i (count args) fuel) (ap type_term e ∙ type_app f a) c)))

pub owe_fun : (S : Synonyms) (ty f a g own : Ty) (args more : List Ty) (fuel : ℕ) → ty ≡ App f a → g ≡ f
    → more ≡ args ++ own ∷ [] → CanExpand S (type_term ty) (count args) fuel
    → CanExpand S (type_term g) (count more) fuel
owe_fun S ty f a g own args more fuel e p m c =
    subst (λ i. CanExpand S (type_term g) i fuel) (sym (ap count m ∙ count-push args own))
    (subst (λ i. CanExpand S (type_term i) (suc (count args)) fuel) (sym p)
    (can_fun S (type_term f) (type_term a) (count args) fuel
    (subst (λ i. CanExpand S i (count args) fuel) (ap type_term e ∙ type_app f a) c)))
  where
    count-push : (ts : List Ty) (t : Ty) → count (ts ++ t ∷ []) ≡ suc (count ts)
    count-push [] t = refl
    count-push (u ∷ us) t = ap suc (count-push us t)

pub owe_body : (S : Synonyms) (ty b : Ty) (n : OrigName) (k : Kind) (p fuel : ℕ) (args none' : List Ty) → ty ≡ Con n k
    → none' ≡ [] → S n ≡ Some (record { params = p; body = type_term b })
    → CanExpand S (type_term ty) (count args) fuel → CanExpand S (type_term b) (count none') (fuel - 1)
owe_body S ty b n k p fuel args none' e z q c =
    subst (λ xs. CanExpand S (type_term b) (count xs) (fuel - 1)) (sym z)
    (can_body S n (record { params = p; body = type_term b }) (count args) fuel q
    (subst (λ x. CanExpand S (type_term x) (count args) fuel) e c))

-- ---- where it stops, there is no expansion

pub no_fuel : (S : Synonyms) (ty b : Ty) (n : OrigName) (k : Kind) (p fuel given : ℕ) → ty ≡ Con n k
    → S n ≡ Some (record { params = p; body = type_term b }) → fuel ≡ 0 → CanNotExpand S (type_term ty) given fuel
no_fuel S ty b n k p fuel given e q z c =
    let l = some_fuel S n (record { params = p; body = type_term b }) given fuel q
    (subst (λ x. CanExpand S (type_term x) given fuel) e c) in absurd (omega (arith, l, z))

pub too_few : (S : Synonyms) (ty b : Ty) (n : OrigName) (k : Kind) (p fuel : ℕ) (args : List Ty) → ty ≡ Con n k
    → S n ≡ Some (record { params = p; body = type_term b }) → length args < p
    → CanNotExpand S (type_term ty) (count args) fuel
too_few S ty b n k p fuel args e q l c =
    let m = (subst (λ x. CanExpand S (type_term x) (count args) fuel) e c).full
    (record { params = p; body = type_term b }) q in
    let s = count-length args in absurd (omega (arith, l, m, s))

-- ---- all names are enough

count-names : (es : List Known) → count (names_of es) ≡ length es
count-names [] = refl
count-names (e ∷ es) = ap suc (count-names es)

pub synonyms_named : (es : List Known) (n : OrigName) → IsSome (known_synonyms es n) → Among n (names_of es)
synonyms_named [] n h = absurd (true≢false (sym h))
synonyms_named (e ∷ es) n h = go (same_original e.name n) refl (λ k. synonyms_named es n k)
  where
    go : (b : Bool) → same_original e.name n ≡ b → (IsSome (known_synonyms es n) → Among n (names_of es))
        → Among n (names_of (e ∷ es))
    go true p rest = inl (original_same e.name n p)
    go false p rest = inr (rest (subst IsSome (past p) h))
      where
        past : same_original e.name n ≡ false → known_synonyms (e ∷ es) n ≡ known_synonyms es n
        past q = rw q refl

pub can_start : (known es : List Known) (t : TypeTerm) (args : List Ty) → known ≡ es → args ≡ []
    → IsExpandable (known_synonyms es) t → CanExpand (known_synonyms known) t (count args) (length known)
can_start known es t args d z x =
    subst (λ k. CanExpand (known_synonyms k) t (count args) (length k)) (sym d)
    (subst (λ xs. CanExpand (known_synonyms es) t (count xs) (length es)) (sym z)
    (record {
      full = x.applied_fully;
      bodies = x.bodies;
      acyclic = x.acyclic;
      names = names_of es;
      few = let e = count-names es in omega (arith, e);
      covers = λ n m h. synonyms_named es n h;
    }))

-- what the expansion is
pub expands_alone : (known es : List Known) (t v : TypeTerm) (args : List Ty) → known ≡ es → args ≡ []
    → ExpandsFor (known_synonyms known) t (stacked_types args) v → Expands (known_synonyms es) t v
expands_alone known es t v args d z h =
    alone (known_synonyms es) t v args z (subst (λ k. ExpandsFor (known_synonyms k) t (stacked_types args) v) d h)

pub deeper : (d m : ℕ) → (d ≤ m → IsTrue false) → m < d
deeper d m h = go (nat_le d m) refl
  where
    go : (b : Bool) → nat_le d m ≡ b → m < d
    go true e = absurd (true≢false (sym (h (leb-true d m e))))
    go false e = leb-false d m e
