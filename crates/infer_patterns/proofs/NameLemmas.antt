-- Searching names, and declared types as terms.
use Rattle.std.proofs.Common.{◌≡◌, refl, sym, ap, ap₂, subst, ◌∙◌, inl, inr, ℕ, zero, suc, ◌+◌, ◌<◌, ◌≤◌, List, []}
use Rattle.std.proofs.Common.{◌∷◌, ◌++◌, take, drop, get_or, map, arith}
use Rattle.std.proofs.lemmas.List.{take_more, take_all, take-append-drop, drop_more}
use Rattle.std.specs.Prelude.{◌≢◌, length, IsTrue, false}
use Rattle.bp_base.proofs.SetLemmas.{among-either, among-middle}
use Rattle.bp_base.specs.Lists.{Among}
use Rattle.bp_base.specs.declared.ty.Kind.{Kind}
use Rattle.bp_base.specs.declared.ty.OrigName.{OrigName}
use Rattle.bp_base.specs.declared.ty.Ty.{Ty}
use Rattle.bp_base.specs.declared.ty.Ty.TheVariants.{App}
use Rattle.bp_base.specs.declared.ty.Ty.TheBlock.{hidden-the_row-Ty-0}
use denote.Hole.Carrier.{hidden}
use Rattle.type_terms.specs.Terms.{app}
use Rattle.hs_core.specs.Types.{KindTerm, star, kind_term}
use Rattle.hs_core.specs.Kinds.{kind_at}
use Rattle.type_unify.specs.Types.{Plain}
use Rattle.kind_check.specs.Forms.{code}
use Rattle.type_equations.specs.Coded.{applied_at, result_kind}
use Rattle.infer_patterns.specs.Names.{noted_kind, argument_kind, instance}
use Rattle.infer_patterns.specs.declared.names.Declared.{Declared}

pub false-true : IsTrue false → ⊥
false-true h = cc

pub named-there : (names : List Declared) (i : ℕ) (x : Declared) → i < length names → x ≡ get_or names i x
    → Among x names
named-there names i x l e = subst (Among x)
    (ap (λ r. take i names ++ r) (ap (λ y. y ∷ drop (i + 1) names) e ∙ sym (drop_more names i x l))
    ∙ take-append-drop i names) (among-middle x (take i names) (drop (i + 1) names))

pub unknown-next : (names : List Declared) (n : OrigName) (i : ℕ) (x : Declared) → i < length names
    → x ≡ get_or names i x → x.name ≢ n → ((d : Declared) → Among d (take i names) → d.name ≢ n)
    → (d : Declared) → Among d (take (i + 1) names) → d.name ≢ n
unknown-next names n i x l e h known d a = elim
    (among-either d (take i names) (x ∷ [])
    (subst (Among d) (take_more names i x l ∙ ap (λ y. take i names ++ y ∷ []) (sym e)) a))
    [ inl b ↦ known d b | inr b ↦ last b ]
  where
    last : Among d (x ∷ []) → d.name ≢ n
    last (inl p) = subst (λ z. z.name ≢ n) p h
    last (inr p) = absurd p

pub unknown-all : (names : List Declared) (n : OrigName) (i : ℕ) → length names ≤ i
    → ((d : Declared) → Among d (take i names) → d.name ≢ n) → (d : Declared) → Among d names → d.name ≢ n
unknown-all names n i l known d a = known d (subst (Among d) (sym (take_all i names l)) a)

-- ---- types

pub kind_at-within : (ks : List Kind) (i : ℕ) (d : Kind) → i < length ks
    → kind_term (get_or ks i d) ≡ kind_at (map kind_term ks) i
kind_at-within [] i d l = absurd (omega (arith, l))
kind_at-within (k ∷ ks) zero d l = refl
kind_at-within (k ∷ ks) (suc i) d l = kind_at-within ks i d (omega (arith, l))

pub kind_at-past : (ks : List Kind) (i : ℕ) → length ks ≤ i → star ≡ kind_at (map kind_term ks) i
kind_at-past [] i l = refl
kind_at-past (k ∷ ks) zero l = absurd (omega (arith, l))
kind_at-past (k ∷ ks) (suc i) l = kind_at-past ks i (omega (arith, l))

pub noted_app : (ks : List KindTerm) (f a : Ty) → noted_kind ks (App f a) ≡ result_kind (noted_kind ks f)
unfolding hidden-the_row-Ty-0 hidden
noted_app ks f a = refl

pub instance_app : (ks : List KindTerm) (first : ℕ) (f a : Ty)
    → instance ks first (App f a) ≡ applied_at (argument_kind (noted_kind ks f)) (instance ks first f)
    (instance ks first a)
unfolding hidden-the_row-Ty-0 hidden
instance_app ks first f a = refl

pub result_star : (ks : List KindTerm) (ty f a g : Ty) (k : KindTerm) → ty ≡ App f a → g ≡ f → k ≡ noted_kind ks g
    → result_kind k ≡ noted_kind ks ty
result_star ks ty f a g k w e h = ap result_kind (h ∙ ap (noted_kind ks) e) ∙ sym (ap (noted_kind ks) w
    ∙ noted_app ks f a)

pub instance_made : (ks : List KindTerm) (first : ℕ) (ty f a g b : Ty) (t u c : Plain) → ty ≡ App f a → g ≡ f → b ≡ a
    → c ≡ code (argument_kind (noted_kind ks g)) → t ≡ instance ks first g → u ≡ instance ks first b
    → app (app c t) u ≡ instance ks first ty
instance_made ks first ty f a g b t u c w p q h i j =
    ap₂ app (ap₂ app (h ∙ ap (λ z. code (argument_kind (noted_kind ks z))) p) (i ∙ ap (instance ks first) p))
    (j ∙ ap (instance ks first) q) ∙ sym (ap (instance ks first) w ∙ instance_app ks first f a)
