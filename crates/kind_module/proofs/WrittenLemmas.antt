-- Kinds of written types, whose variables are numbered by first occurrence.
use Rattle.std.proofs.Common.{◌≡◌, ◌⊎◌, inl, inr, ℕ, zero, suc, ◌<◌, ◌+◌, Bool, true, false, List, [], ◌∷◌, ◌++◌, refl, sym}
use Rattle.std.proofs.Common.{ap, ap₂, ◌∙◌, subst, arith}
use Rattle.std.specs.Prelude.{◌↔◌, Option, Some, if◌then◌else◌, IsTrue}
use Rattle.bp_base.specs.declared.ty.Kind.{Kind}
use Rattle.bp_base.specs.declared.ty.Kind.TheVariants.{Arrow}
use Rattle.hs_core.specs.Expansion.{IsFullyApplied}
use Rattle.kind_check.specs.Answers.{known_synonyms}
use Rattle.kind_check.proofs.ArmLemmas.{kind_arrow}
use Rattle.std.specs.Str.{bytes_eq}
use Rattle.bp_base.specs.Texts.{Text}
use Rattle.bp_base.specs.Lists.{Among, is_among}
use Rattle.bp_base.proofs.SetLemmas.{is_among-there, among-left, among-right}
use Rattle.bp_base.proofs.TextLemmas.{texts_same}
use Rattle.bp_base.specs.declared.ty.OrigName.{OrigName}
use Rattle.type_terms.specs.Terms.{var, con, app}
use Rattle.hs_core.specs.declared.tree.Written.{Written}
use Rattle.hs_core.specs.declared.tree.Written.TheVariants.{WVar, WCon, WApp'}
use Rattle.hs_core.specs.declared.tree.Written.TheBlock.{more_of-Written, end_of-Written}
use Rattle.hs_core.specs.Types.{KindTerm, star, arrow, TypeTerm, count, place, variables, variables_after, written_term, kind_term}
use Rattle.hs_core.specs.Kinds.{NameKinds, HasKind, kind_at, Below, AllBelow}
use Rattle.kind_check.specs.declared.scope.Known.{Known}
use Rattle.kind_check.specs.Scopes.{known_names, guessed}
use Rattle.kind_check.specs.Answers.{HasKindAlone, HasNoKind}
use Rattle.kind_check.proofs.ScopeLemmas.{kind_at-guessed}
use Rattle.kind_check.proofs.DeclareLemmas.{count-guessed}
use Rattle.kind_env.specs.Listings.{known_kind}
use Rattle.kind_env.proofs.ListLemmas.{known_has}
use Rattle.kind_module.specs.Tests.{Kinds, IsStarKinded, IsFull}

-- ---- variables

-- the variables of a type stand below the number
abbrev pub AreBelow : ℕ → TypeTerm → Type 0
AreBelow n (var i) = i < n
AreBelow n (con m) = Unit {0}
AreBelow n (app f a) = AreBelow n f × AreBelow n a

abbrev pub AllAmong : Written → List Text → Type 0
AllAmong (WVar x) names = Among x names
AllAmong (WCon n) names = Unit {0}
AllAmong (WApp' s (more_of-Written f end_of-Written) z (more_of-Written a end_of-Written)) names = AllAmong f names
    × AllAmong a names

place-below : (names : List Text) (x : Text) → Among x names → place names x < count names
place-below [] x h = absurd h
place-below (n ∷ ns) x h = go (bytes_eq n x) refl h (λ k. place-below ns x k)
  where
    go : (b : Bool) → bytes_eq n x ≡ b → Among x (n ∷ ns) → (Among x ns → place ns x < count ns)
        → place (n ∷ ns) x < count (n ∷ ns)
    go true e k rest = rw e (omega arith)
    go false e (inl p) rest = absurd (let t : bytes_eq n x ≡ true = ap (bytes_eq n) (sym p) ∙ texts_same n in cc)
    go false e (inr k) rest = rw e (let l = rest k in omega (arith, l))

AllAmong-more : (w : Written) (names more : List Text) → ((x : Text) → Among x names → Among x more)
    → AllAmong w names → AllAmong w more
AllAmong-more (WVar x) names more f h = f x h
AllAmong-more (WCon n) names more f h = tt
AllAmong-more (WApp' s (more_of-Written g end_of-Written) z (more_of-Written a end_of-Written)) names more f h = (
  AllAmong-more g names more f h.0,
  AllAmong-more a names more f h.1,
)

after-keeps : (w : Written) (met : List Text) (x : Text) → Among x met → Among x (variables_after met w)
after-keeps (WVar y) met x h = go (is_among y met) refl
  where
    go : (b : Bool) → is_among y met ≡ b → Among x (variables_after met (WVar y))
    go true e = rw e h
    go false e = rw e (among-left x met (y ∷ []) h)
after-keeps (WCon n) met x h = h
after-keeps (WApp' s (more_of-Written f end_of-Written) z (more_of-Written a end_of-Written)) met x h =
    after-keeps a (variables_after met f) x (after-keeps f met x h)

all-after : (w : Written) (met : List Text) → AllAmong w (variables_after met w)
all-after (WVar y) met = go (is_among y met) refl
  where
    go : (b : Bool) → is_among y met ≡ b → Among y (variables_after met (WVar y))
    go true e = rw e (is_among-there y met e)
    go false e = rw e (among-right y met (y ∷ []) (inl refl))
all-after (WCon n) met = tt
all-after (WApp' s (more_of-Written f end_of-Written) z (more_of-Written a end_of-Written)) met = (
  AllAmong-more f (variables_after met f) (variables_after (variables_after met f) a)
      (λ x h. after-keeps a (variables_after met f) x h) (all-after f met),
  all-after a (variables_after met f),
)

term-below : (w : Written) (names : List Text) → AllAmong w names → AreBelow (count names) (written_term names w)
term-below (WVar x) names h = place-below names x h
term-below (WCon n) names h = tt
term-below (WApp' s (more_of-Written f end_of-Written) z (more_of-Written a end_of-Written)) names h = (
  term-below f names h.0,
  term-below a names h.1,
)

-- ---- kinds by a list of kinds, and by a function

HasKind-names : (N M : NameKinds) (f g : ℕ → KindTerm) (n : ℕ) (t : TypeTerm) (k : KindTerm) → AreBelow n t
    → ((m : OrigName) (j : KindTerm) → N m j → M m j) → ((i : ℕ) → i < n → f i ≡ g i) → HasKind N f t k → HasKind M g t k
HasKind-names N M f g n (var i) k b p q h = sym (q i b) ∙ h
HasKind-names N M f g n (con m) k b p q h = p m k h
HasKind-names N M f g n (app s t) k b p q h = (
  h.0,
  HasKind-names N M f g n s _ b.0 p q h.1,
  HasKind-names N M f g n t _ b.1 p q h.2,
)

-- the names that are known, as a function
abbrev pub by_kinds : Kinds → NameKinds
by_kinds K n k = K n ≡ Some k

module _ (es : List Known) (w : Written) where
  abbrev pub term : TypeTerm
  term = written_term (variables w) w

  low : AreBelow (count (variables w)) term
  low = term-below w (variables w) (all-after w [])

  at_place : (s : IsStarKinded (known_kind es) w) (i : ℕ) → i < count (variables w)
      → kind_at (guessed s.0 0 (count (variables w))) i ≡ s.0 i
  at_place s i l =
      let z : 0 + i ≡ i = omega arith in kind_at-guessed s.0 0 (count (variables w)) i l ∙ ap s.0 z

  -- the least kind is `*`
  pub star_kinded : (k : KindTerm) → HasKindAlone (known_names es) term (count (variables w)) k
      → (k ≡ star) ↔ IsStarKinded (known_kind es) w
  star_kinded k h = (
    λ e. (
      kind_at h.kinds,
      HasKind-names (known_names es) (by_kinds (known_kind es)) (kind_at h.kinds) (kind_at h.kinds)
          (count (variables w)) term star low (λ n j p. (known_has es n j).0 p) (λ i l. refl)
          (subst (HasKind (known_names es) (kind_at h.kinds) term) e h.fit),
    ),
    λ s. least k (h.below (guessed s.0 0 (count (variables w))) star (count-guessed s.0 0 (count (variables w)))
        (listed s)).1,
  )
    where
      listed : (s : IsStarKinded (known_kind es) w)
          → HasKind (known_names es) (kind_at (guessed s.0 0 (count (variables w)))) term star
      listed s = HasKind-names (by_kinds (known_kind es)) (known_names es) s.0
          (kind_at (guessed s.0 0 (count (variables w)))) (count (variables w)) term star low
          (λ n j p. (known_has es n j).1 p)
          (λ i l. sym (at_place s i l)) s.1

      least : (k : KindTerm) → Below k star → k ≡ star
      least star b = refl
      least (arrow i j) b = absurd b

  pub not_kinded : HasNoKind (known_names es) term (count (variables w)) → IsStarKinded (known_kind es) w → ⊥
  not_kinded none s = none (guessed s.0 0 (count (variables w))) star (count-guessed s.0 0 (count (variables w)))
      (HasKind-names (by_kinds (known_kind es)) (known_names es) s.0 (kind_at (guessed s.0 0 (count (variables w))))
      (count (variables w)) term star low (λ n j p. (known_has es n j).1 p)
      (λ i l. sym (at_place s i l)) s.1)

-- ---- answers

pub star_answer : (given es : List Known) (names : List Text) (w : Written) (k : KindTerm) (b : Bool) → given ≡ es
    → names ≡ variables w → HasKindAlone (known_names given) (written_term names w) (count names) k
    → IsTrue b ↔ (k ≡ star) → IsTrue b ↔ IsStarKinded (known_kind es) w
star_answer given es names w k b p q h t =
    let i = star_kinded es w k (subst (λ z. HasKindAlone (known_names z) (term es w) (count (variables w)) k) p
    (subst (λ z. HasKindAlone (known_names given) (written_term z w) (count z) k) q h)) in
    (λ x. i.0 (t.0 x), λ x. t.1 (i.1 x))

pub no_star : (given es : List Known) (names : List Text) (w : Written) → given ≡ es → names ≡ variables w
    → HasNoKind (known_names given) (written_term names w) (count names) → IsTrue false ↔ IsStarKinded (known_kind es) w
no_star given es names w p q h = (
  λ t. absurd (let u : false ≡ true = t in cc),
  λ x. absurd (not_kinded es w (subst (λ z. HasNoKind (known_names z) (term es w) (count (variables w))) p
      (subst (λ z. HasNoKind (known_names given) (written_term z w) (count z)) q h)) x),
)

pub full_answer : (given es : List Known) (w : Written) (b : Bool) → given ≡ es
    → ((names : List Text) → IsTrue b ↔ IsFullyApplied (known_synonyms given) (written_term names w) 0)
    → IsTrue b ↔ IsFull (known_synonyms es) w
full_answer given es w b p h =
    subst (λ z. IsTrue b ↔ IsFullyApplied (known_synonyms z) (written_term (variables w) w) 0) p (h (variables w))

pub arrow_not_star : (k f t : Kind) → k ≡ Arrow f t → IsTrue false ↔ (kind_term k ≡ star)
arrow_not_star k f t is = (
  λ u. absurd (let v : false ≡ true = u in cc),
  λ e. absurd (subst IsNoStar (sym (kind_arrow f t) ∙ sym (ap kind_term is) ∙ e) tt),
)
  where
    IsNoStar : KindTerm → Type 0
    IsNoStar star = ⊥
    IsNoStar (arrow i j) = Unit {0}
