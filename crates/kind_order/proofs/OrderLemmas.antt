-- Groups one after another: what names mean, and where the first group without kinds stands.
use Rattle.std.proofs.Common.{◌≡◌, ℕ, zero, suc, ◌+◌, ◌<◌, List, [], ◌∷◌, ◌++◌, length, get_or, take, drop}
use Rattle.std.proofs.Common.{inl}
use Rattle.std.proofs.Common.{inr, refl, sym, ap, subst, ◌∙◌, arith}
use Rattle.std.specs.Prelude.{map, ◌↔◌, Some}
use Rattle.bp_base.specs.Texts.{Text}
use Rattle.bp_base.specs.declared.ty.OrigName.{OrigName}
use Rattle.bp_base.specs.declared.ty.Kind.{Kind}
use Rattle.hs_core.specs.Types.{KindTerm, kind_term}
use Rattle.hs_core.specs.Kinds.{NameKinds, TypeDecl, Given, within_group, AllKeep, AreLeastKinds, IsKinding}
use Rattle.kind_check.specs.declared.scope.Known.{Known}
use Rattle.kind_check.specs.declared.scope.GroupDecl.{GroupDecl}
use Rattle.kind_check.specs.declared.group.TypeGroup.{TypeGroup}
use Rattle.kind_check.specs.declared.group.KindEnv.{KindEnv}
use Rattle.kind_check.specs.declared.group.GroupError.{GroupError}
use Rattle.kind_check.specs.declared.group.GroupError.TheVariants as why
use Rattle.kind_check.specs.Scopes.{decls_of, known_names, sense_kind}
use Rattle.kind_check.specs.Walks.{HasNoKinding}
use Rattle.kind_check.specs.Answers.{IsFirst, IsGroupError}
use Rattle.std.proofs.lemmas.List.{take_more}
use Rattle.kind_check.proofs.LoopLemmas.{take_end}
use Rattle.kind_check.proofs.ScopeLemmas.{count-length, some_same}
use Rattle.kind_check.proofs.DeclareLemmas.{Keeps-map, count-kept}
use Rattle.kind_check.proofs.GroupLemmas.{count-decls}
use Rattle.kind_order.specs.declared.order.GroupKinds.{GroupKinds}
use Rattle.kind_order.specs.Orders.{IsNamed, with_group, AreKindsOf, Follows, Kinded, IllAt, IsOrderError}

-- ---- a group's names in front

pub named_front : (ds : List GroupDecl) (ks : List Kind) (es outer : List Known) (n : OrigName) (k : KindTerm)
    → IsNamed ds ks es
    → known_names (es ++ outer) n k ↔ within_group (known_names outer) (decls_of ds) (map kind_term ks) n k
named_front [] ks es outer n k i = (
  λ h. inr (tt, subst (λ x. known_names (x ++ outer) n k) i h),
  λ h. elim h [ inl p ↦ absurd p | inr q ↦ subst (λ x. known_names (x ++ outer) n k) (sym i) q.1 ],
)
named_front (d ∷ ds) [] es outer n k i = absurd i
named_front (d ∷ ds) (j ∷ ks) [] outer n k i = absurd i
named_front (d ∷ ds) (j ∷ ks) (e ∷ es) outer n k i =
    let rest = named_front ds ks es outer n k i.2 in (
      λ h. elim h [
        | inl p ↦ inl (inl (sym i.0 ∙ p.0, some_same _ _ (sym i.1 ∙ p.1)))
        | inr q ↦ there (λ s. q.0 (i.0 ∙ s)) (rest.0 q.1)
      ],
      λ h. elim h [
        | inl p ↦ given (λ x. rest.1 x) p
        | inr q ↦ inr (λ s. q.0.0 (sym i.0 ∙ s), rest.1 (inr (q.0.1, q.1)))
      ],
    )
  where
    there : (d.name ≡ n → ⊥) → within_group (known_names outer) (decls_of ds) (map kind_term ks) n k
        → within_group (known_names outer) (decls_of (d ∷ ds)) (map kind_term (j ∷ ks)) n k
    there other (inl g) = inl (inr (other, g))
    there other (inr o) = inr ((other, o.0), o.1)

    given : (within_group (known_names outer) (decls_of ds) (map kind_term ks) n k → known_names (es ++ outer) n k)
        → Given (decls_of (d ∷ ds)) (map kind_term (j ∷ ks)) n k → known_names ((e ∷ es) ++ outer) n k
    given back (inl p) = inl (i.0 ∙ p.0, i.1 ∙ ap Some p.1)
    given back (inr q) = inr (λ s. q.0 (sym i.0 ∙ s), back (inl q.1))

-- one more declaration with its kind
IsNamed-push : (ds : List GroupDecl) (ks : List Kind) (es : List Known) (d : GroupDecl) (k : Kind) (e : Known)
    → length ks ≡ length ds → IsNamed ds ks es → e.name ≡ d.name → sense_kind e.sense ≡ Some (kind_term k)
    → IsNamed (ds ++ d ∷ []) (ks ++ k ∷ []) (es ++ e ∷ [])
IsNamed-push [] [] es d k e l i p q = subst (λ x. IsNamed (d ∷ []) (k ∷ []) (x ++ e ∷ [])) (sym i) (p, q, refl)
IsNamed-push [] (j ∷ ks) es d k e l i p q = absurd (omega (arith, l))
IsNamed-push (c ∷ ds) [] es d k e l i p q = absurd i
IsNamed-push (c ∷ ds) (j ∷ ks) [] d k e l i p q = absurd i
IsNamed-push (c ∷ ds) (j ∷ ks) (f ∷ es) d k e l i p q =
    (i.0, i.1, IsNamed-push ds ks es d k e (omega (arith, l)) i.2 p q)

length-take_both : {A B : Type 0} (xs : List A) (ys : List B) (i : ℕ) → length xs ≡ length ys
    → length (take i xs) ≡ length (take i ys)
length-take_both xs ys zero e = refl
length-take_both [] [] (suc i) e = refl
length-take_both [] (y ∷ ys) (suc i) e = absurd (omega (arith, e))
length-take_both (x ∷ xs) [] (suc i) e = absurd (omega (arith, e))
length-take_both (x ∷ xs) (y ∷ ys) (suc i) e = ap suc (length-take_both xs ys i (omega (arith, e)))

pub named-next : (ds : List GroupDecl) (ks : List Kind) (i : ℕ) (old new : List Known) (e : Known) (d d' : GroupDecl)
    (k k' : Kind) → length ks ≡ length ds → i < length ds → IsNamed (take i ds) (take i ks) old → new ≡ old ++ e ∷ []
    → d ≡ get_or ds i d' → k ≡ get_or ks i k' → e.name ≡ d.name → sense_kind e.sense ≡ Some (kind_term k)
    → IsNamed (take (i + 1) ds) (take (i + 1) ks) new
named-next ds ks i old new e d d' k k' l b h n p q x y =
    subst (λ z. IsNamed z (take (i + 1) ks) new) (sym (take_more ds i d' b))
    (subst (λ z. IsNamed (take i ds ++ get_or ds i d' ∷ []) z new) (sym (take_more ks i k' (omega (arith, l, b))))
    (subst (IsNamed (take i ds ++ get_or ds i d' ∷ []) (take i ks ++ get_or ks i k' ∷ [])) (sym n)
    (IsNamed-push (take i ds) (take i ks) old (get_or ds i d') (get_or ks i k') e (length-take_both ks ds i l) h
    (x ∙ ap (λ z. z.name) p) (y ∙ ap (λ z. Some (kind_term z)) q))))

pub front_is : (ds ds' : List GroupDecl) (ks ks' : List Kind) (es outer new : List Known) → ds ≡ ds' → ks ≡ ks'
    → new ≡ es ++ outer → IsNamed ds ks es → (n : OrigName) (k : KindTerm)
    → known_names new n k ↔ within_group (known_names outer) (decls_of ds') (map kind_term ks') n k
front_is ds ds' ks ks' es outer new d e f i n k =
    subst (λ x. known_names new n k ↔ within_group (known_names outer) (decls_of x) (map kind_term ks') n k) d
    (subst (λ x. known_names new n k ↔ within_group (known_names outer) (decls_of ds) (map kind_term x) n k) e
    (subst (λ x. known_names x n k ↔ within_group (known_names outer) (decls_of ds) (map kind_term ks) n k) (sym f)
    (named_front ds ks es outer n k i)))

-- ---- names that mean the same

within-map : (N M : NameKinds) (ds : List TypeDecl) (ks : List KindTerm)
    → ((n : OrigName) (k : KindTerm) → N n k → M n k) → (n : OrigName) (k : KindTerm) → within_group N ds ks n k
    → within_group M ds ks n k
within-map N M ds ks p n k (inl g) = inl g
within-map N M ds ks p n k (inr o) = inr (o.0, p n k o.1)

AllKeep-map : (N M : NameKinds) (ds : List TypeDecl) (ks : List KindTerm)
    → ((n : OrigName) (k : KindTerm) → N n k → M n k) → AllKeep N ds ks → AllKeep M ds ks
AllKeep-map N M [] ks p h = h
AllKeep-map N M (d ∷ ds) ks p h = (h.0, h.1, h.2, Keeps-map N M d h.0 p h.3, AllKeep-map N M ds h.1 p h.4)

IsKinding-map : (N M : NameKinds) (ds : List TypeDecl) (ks : List KindTerm)
    → ((n : OrigName) (k : KindTerm) → N n k → M n k) → IsKinding N ds ks → IsKinding M ds ks
IsKinding-map N M ds ks p h =
    AllKeep-map (within_group N ds ks) (within_group M ds ks) ds ks (within-map N M ds ks p) h

pub least-map : (N M : NameKinds) (ds : List TypeDecl) (ks : List KindTerm)
    → ((n : OrigName) (k : KindTerm) → N n k ↔ M n k) → AreLeastKinds N ds ks → AreLeastKinds M ds ks
least-map N M ds ks p h = record {
  valid = IsKinding-map N M ds ks (λ n k. (p n k).0) h.valid;
  least = λ others x. h.least others (IsKinding-map M N ds others (λ n k. (p n k).1) x);
}

no_kinding-map : (N M : NameKinds) (ds : List TypeDecl) → ((n : OrigName) (k : KindTerm) → N n k ↔ M n k)
    → HasNoKinding N ds → HasNoKinding M ds
no_kinding-map N M ds p h ks x = h ks (IsKinding-map M N ds ks (λ n k. (p n k).1) x)

-- a group has as many kinds as declarations
pub as_many : (N : NameKinds) (ds : List GroupDecl) (ks : List Kind)
    → AreLeastKinds N (decls_of ds) (map kind_term ks) → length ks ≡ length ds
as_many N ds ks h =
    sym (length-map ks) ∙ sym (count-length (map kind_term ks))
    ∙ count-kept (within_group N (decls_of ds) (map kind_term ks)) (decls_of ds) (map kind_term ks) h.valid
    ∙ count-decls ds
  where
    length-map : (js : List Kind) → length (map kind_term js) ≡ length js
    length-map [] = refl
    length-map (j ∷ js) = ap suc (length-map js)

-- ---- groups so far

-- what names mean behind these groups
abbrev pub grown : NameKinds → List TypeGroup → List GroupKinds → NameKinds
grown N [] kss = N
grown N (g ∷ gs) [] = N
grown N (g ∷ gs) (ks ∷ kss) = grown (with_group N g ks) gs kss

-- the groups so far have their kinds, and names mean what they mean behind them
pub record Gone (N : NameKinds) (gs : List TypeGroup) (kss : List GroupKinds) (env : KindEnv) : Type 0 where
  pub kinded : Kinded N gs kss
  pub names : (n : OrigName) (k : KindTerm) → known_names env.names n k ↔ grown N gs kss n k

kinded-push : (N : NameKinds) (gs : List TypeGroup) (kss : List GroupKinds) (g : TypeGroup) (ks : GroupKinds)
    → Kinded N gs kss → AreKindsOf (grown N gs kss) g ks → Kinded N (gs ++ g ∷ []) (kss ++ ks ∷ [])
kinded-push N [] kss g ks h l = subst (λ x. Kinded N (g ∷ []) (x ++ ks ∷ [])) (sym h) (l, refl)
kinded-push N (c ∷ gs) [] g ks h l = absurd h
kinded-push N (c ∷ gs) (j ∷ kss) g ks h l = (h.0, kinded-push (with_group N c j) gs kss g ks h.1 l)

grown-push : (N : NameKinds) (gs : List TypeGroup) (kss : List GroupKinds) (g : TypeGroup) (ks : GroupKinds)
    (n : OrigName) (k : KindTerm) → Kinded N gs kss
    → with_group (grown N gs kss) g ks n k ↔ grown N (gs ++ g ∷ []) (kss ++ ks ∷ []) n k
grown-push N [] kss g ks n k h =
    subst (λ x. with_group N g ks n k ↔ grown N (g ∷ []) (x ++ ks ∷ []) n k) (sym h) (λ x. x, λ x. x)
grown-push N (c ∷ gs) [] g ks n k h = absurd h
grown-push N (c ∷ gs) (j ∷ kss) g ks n k h = grown-push (with_group N c j) gs kss g ks n k h.1

ill-behind : (N : NameKinds) (gs rest : List TypeGroup) (kss : List GroupKinds) (g : TypeGroup) (x : Text)
    → Kinded N gs kss → HasNoKinding (grown N gs kss) (decls_of g.decls) → IsFirst g.decls x
    → IllAt N (gs ++ (g ∷ rest)) x
ill-behind N [] rest kss g x h none first = inl (none, first)
ill-behind N (c ∷ gs) rest [] g x h none first = absurd h
ill-behind N (c ∷ gs) rest (j ∷ kss) g x h none first =
    inr (j, h.0, ill-behind (with_group N c j) gs rest kss g x h.1 none first)

both : (A B C : Type 0) → A ↔ B → B ↔ C → A ↔ C
both A B C p q = (λ a. q.0 (p.0 a), λ c. p.1 (q.1 c))

pub gone-more : (N : NameKinds) (gs : List TypeGroup) (i : ℕ) (old new : List GroupKinds) (g d : TypeGroup)
    (env next : KindEnv) → i < length gs → g ≡ get_or gs i d → Gone N (take i gs) old env
    → Follows (known_names env.names) g next old new → Gone N (take (i + 1) gs) new next
gone-more N gs i old new g d env next l e h f =
    subst (λ z. Gone N z new next) (sym (take_more gs i d l))
    (subst (λ y. Gone N (take i gs ++ y ∷ []) new next) e
    (subst (λ z. Gone N (take i gs ++ g ∷ []) z next) (sym f.more) (record {
      kinded = kinded-push N (take i gs) old g f.next h.kinded
          (least-map (known_names env.names) (grown N (take i gs) old) (decls_of g.decls)
          (map kind_term f.next.kinds) h.names f.least);
      names = λ n k.
          both _ _ _ (f.front n k) (both _ _ _ (
            within-map (known_names env.names) (grown N (take i gs) old) (decls_of g.decls)
                (map kind_term f.next.kinds) (λ m j. (h.names m j).0) n k,
            within-map (grown N (take i gs) old) (known_names env.names) (decls_of g.decls)
                (map kind_term f.next.kinds) (λ m j. (h.names m j).1) n k,
          )
          (grown-push N (take i gs) old g f.next n k h.kinded));
    })))

split-at : {A : Type 0} (xs : List A) (i : ℕ) (d : A) → i < length xs
    → take i xs ++ (get_or xs i d ∷ drop (suc i) xs) ≡ xs
split-at [] i d l = absurd (omega (arith, l))
split-at (x ∷ xs) zero d l = refl
split-at (x ∷ xs) (suc i) d l = ap (λ ys. x ∷ ys) (split-at xs i d (omega (arith, l)))

pub gone-ill : (N : NameKinds) (gs : List TypeGroup) (i : ℕ) (kss : List GroupKinds) (g d : TypeGroup) (env : KindEnv)
    (e : GroupError) → i < length gs → g ≡ get_or gs i d → Gone N (take i gs) kss env
    → IsGroupError (known_names env.names) g.decls e → IsOrderError N gs e
gone-ill N gs i kss g d env (why.Kind x) l is h f =
    subst (λ z. IllAt N z x) (ap (λ y. take i gs ++ (y ∷ drop (suc i) gs)) is ∙ split-at gs i d l)
    (ill-behind N (take i gs) (drop (suc i) gs) kss g x h.kinded
    (no_kinding-map (known_names env.names) (grown N (take i gs) kss) (decls_of g.decls) h.names f.0) f.1)
gone-ill N gs i kss g d env why.NoMemory l is h f = tt
