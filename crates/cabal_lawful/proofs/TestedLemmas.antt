-- The test whether a component is lawful decides it.
use Rattle.std.proofs.Common.{◌≡◌, inl, inr, refl, sym, ap, ◌∙◌, subst, Bool, true, false, ◌&&◌, ◌||◌, not}
use Rattle.std.proofs.Common.{cond, List, [], ◌∷◌, ◌++◌, map, length, arith}
use Rattle.std.specs.Prelude.{◌↔◌, IsTrue, ◌==◌}
use Rattle.std.specs.List.{AllByRecursion}
use Rattle.std.specs.Str.{bytes_eq}
use Rattle.std.proofs.lemmas.Bool.{and_parts, and_from, not-true, eqb-true}
use Rattle.bp_base.specs.declared.linking.Rename.{Rename}
use Rattle.bp_base.specs.Lists.{Among, AreDistinct, is_among}
use Rattle.bp_base.specs.Texts.{Text}
use Rattle.bp_base.proofs.SetLemmas.{is_among-there, there-is_among}
use Rattle.cabal_text.specs.Seen.{repeats_after, repeats}
use Rattle.cabal_component.specs.declared.component.Component.{Component}
use Rattle.cabal_component.specs.declared.component.Mixin.{Mixin}
use Rattle.cabal_component.specs.declared.component.Provides.{Provides}
use Rattle.cabal_component.specs.declared.component.Provides.TheVariants.{Whole, Listed, Hiding}
use Rattle.cabal_component.specs.Lawful.{own_names, HasNewsApart, IsLawfulEntry, IsLawful}
use Rattle.cabal_lawful.specs.Tested.{are_apart, has_news_apart, are_lawful_entries}
use Rattle.cabal_lawful.specs.Tested.{has_form}
use Rattle.cabal_lawful.proofs.ApartLemmas.{repeats_none, is_at_end}

-- ---- names

nothing-repeats : (seen ns : List Text) → ((a : Text) → Among a ns → is_among a seen ≡ false) → AreDistinct ns
    → repeats_after seen ns ≡ false
nothing-repeats seen [] apart d = refl
nothing-repeats seen (n ∷ ns) apart d =
    ap (λ b. b || repeats_after (seen ++ n ∷ []) ns) (apart n (inl refl))
    ∙ nothing-repeats (seen ++ n ∷ []) ns (λ a h. later a h) d.1
  where
    unlike : (a : Text) → Among a ns → (b : Bool) → bytes_eq a n ≡ b → bytes_eq a n ≡ false
    unlike a h true e = absurd (d.0 (subst (λ z. Among z ns) (is_same a e) h))
      where
        is_same : (a : Text) → bytes_eq a n ≡ true → a ≡ n
        is_same a e = elim (is_among-there a (n ∷ []) (ap (λ b. b || false) e)) [
          | inl p ↦ sym p
          | inr none ↦
              absurd none
        ]
    unlike a h false e = e

    later : (a : Text) → Among a ns → is_among a (seen ++ n ∷ []) ≡ false
    later a h =
        is_at_end seen n a ∙ ap (λ b. b || (bytes_eq a n || false)) (apart a (inr h))
        ∙ ap (λ b. b || false) (unlike a h (bytes_eq a n) refl)

apart-distinct : (ns : List Text) → are_apart ns ≡ true → AreDistinct ns
apart-distinct ns e = (repeats_none [] ns (not-true (repeats ns) e)).distinct

distinct-apart : (ns : List Text) → AreDistinct ns → are_apart ns ≡ true
distinct-apart ns d = ap not (nothing-repeats [] ns (λ a h. refl) d)

-- ---- entries

news-apart : (p : Provides) → has_news_apart p ≡ true → HasNewsApart p
news-apart Whole e = tt
news-apart (Listed items) e = apart-distinct (map (λ r. r.to) items) e
news-apart (Hiding names) e = tt

apart-news : (p : Provides) → HasNewsApart p → has_news_apart p ≡ true
apart-news Whole h = refl
apart-news (Listed items) h = distinct-apart (map (λ r. r.to) items) h
apart-news (Hiding names) h = refl

abbrev Entries : List Text → List Mixin → Type 0
Entries deps ms = AllByRecursion (λ (m : Mixin). Among m.dep deps × IsLawfulEntry m) ms

module _ (is_dep : Text → Bool) (deps : List Text) (is : (q : Text) → is_dep q ≡ is_among q deps) where
  entries-met : (ms : List Mixin) → are_lawful_entries is_dep ms ≡ true → Entries deps ms
  entries-met [] e = tt
  entries-met (m ∷ ms) e =
      let p = and_parts _ _ e in
      let q = and_parts _ _ p.0 in
      let r = and_parts _ _ q.1 in (
        (
          is_among-there m.dep deps (sym (is m.dep) ∙ q.0),
          record { news = news-apart m.provides r.0; olds = apart-distinct (map (λ z. z.from) m.needs) r.1 },
        ),
        entries-met ms p.1,
      )

  met-entries : (ms : List Mixin) → Entries deps ms → are_lawful_entries is_dep ms ≡ true
  met-entries [] h = refl
  met-entries (m ∷ ms) h =
      and_from _ _
      (and_from _ _ (is m.dep ∙ there-is_among m.dep deps h.0.0)
      (and_from _ _ (apart-news m.provides h.0.1.news) (distinct-apart (map (λ z. z.from) m.needs) h.0.1.olds)))
      (met-entries ms h.1)

-- ---- the form of a component

empty-list : {A : Type 0} (xs : List A) → (length xs == 0) ≡ true → xs ≡ []
empty-list [] e = refl
empty-list (x ∷ xs) e = absurd (let z : length (x ∷ xs) ≡ 0 = eqb-true (length (x ∷ xs)) 0 e in omega (arith, z))

module _ (main : Text) (signatures exposed : List Text) (reexports : List Rename) where
  abbrev Formed : Bool → Bool
  Formed executable = cond executable
      ((length signatures == 0) && ((length exposed == 0) && (length reexports == 0))) (length main == 0)

  abbrev Form : Bool → Type 0
  Form executable = (executable ≡ false → main ≡ [])
      × (executable ≡ true → (signatures ≡ []) × (exposed ≡ []) × (reexports ≡ []))

  form-met : (executable : Bool) → Formed executable ≡ true → Form executable
  form-met false e = (λ f. empty-list main e, λ t. absurd (cc))
  form-met true e =
      let p = and_parts _ _ e in
      let q = and_parts _ _ p.1 in
      (λ f. absurd (cc), λ t. (empty-list signatures p.0, empty-list exposed q.0, empty-list reexports q.1))

  met-form : (executable : Bool) → Form executable → Formed executable ≡ true
  met-form false h = ap (λ z. length z == 0) (h.0 refl)
  met-form true h =
      let k = h.1 refl in
      λ w. (length (k.0 w) == 0) && ((length (k.1 w) == 0) && (length (k.2 w) == 0))

-- the test decides
pub lawful-tested : (c : Component) (is_dep : Text → Bool) (r : Bool) → ((q : Text) → is_dep q ≡ is_among q c.deps)
    → r ≡ (are_apart (own_names c) && (are_apart c.deps && (are_lawful_entries is_dep c.mixins && has_form c)))
    → IsTrue r ↔ IsLawful c
lawful-tested c is_dep r is made = (λ t. met (sym made ∙ t), λ l. made ∙ tested l)
  where
    met : (are_apart (own_names c) && (are_apart c.deps && (are_lawful_entries is_dep c.mixins && has_form c))) ≡ true
        → IsLawful c
    met e =
        let p = and_parts _ _ e in
        let q = and_parts _ _ p.1 in
        let s = and_parts _ _ q.1 in
        let form = form-met c.main_is c.signatures c.exposed c.reexports c.executable s.1 in
        record {
          own = apart-distinct (own_names c) p.0;
          deps = apart-distinct c.deps q.0;
          entries = entries-met is_dep c.deps is c.mixins s.0;
          library = form.0;
          executable = form.1;
        }

    tested : IsLawful c → (are_apart (own_names c) &&
        (are_apart c.deps && (are_lawful_entries is_dep c.mixins && has_form c))) ≡ true
    tested l =
        and_from _ _ (distinct-apart (own_names c) l.own)
        (and_from _ _ (distinct-apart c.deps l.deps)
        (and_from _ _ (met-entries is_dep c.deps is c.mixins l.entries)
        (met-form c.main_is c.signatures c.exposed c.reexports c.executable (l.library, l.executable))))
