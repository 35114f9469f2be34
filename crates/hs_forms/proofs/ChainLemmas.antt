-- A chain: what is known of its tokens behind a head and some items.
use Rattle.std.proofs.Common.{◌≡◌, ℕ, Bool, true, false, List, [], ◌∷◌, ◌++◌, length, refl, sym, ap, ◌∙◌, subst}
use Rattle.std.proofs.Common.{append_assoc, true≢false}
use Rattle.std.specs.Prelude.{flat_map}
use Rattle.std.proofs.lemmas.Grind.{flat_map-append}
use Rattle.std.proofs.lemmas.List.{append-nil}
use Rattle.hs_forms.specs.Reading.{Form, SameStart, begins, Reads, Refuses}
use Rattle.hs_forms.specs.Forms.{item_form}
use Rattle.hs_forms.specs.Productions.{IsChain}
use Rattle.hs_forms.proofs.FormLemmas.{same_start_append, begins_append, begins_apart, begins_within, begins_same}

-- What was read so far are the head and these items, whatever follows.
pub record SoFar {K T H X : Type 0} (form : Form K T) (head : Form K H) (items : X → List K) (make : H → List X → T)
    (h : H) (xs : List X) (here : List K) : Type 0 where
  pub good : form.Good (make h xs)
  pub only : (s : List K) (h' : H) (xs' : List X) (after : List K) → SameStart here s → form.Good (make h' xs') →
      begins (form.extends (make h' xs')) after ≡ false
      → (head.tokens h ++ flat_map items xs) ++ s ≡ (head.tokens h' ++ flat_map items xs') ++ after →
      (h' ≡ h) × (more : List X) × (xs' ≡ xs ++ more) × (s ≡ flat_map items more ++ after)

regroup_more : {K X : Type 0} (items : X → List K) (front : List K) (xs : List X) (x : X) (s : List K) →
    (front ++ flat_map items (xs ++ x ∷ [])) ++ s ≡ (front ++ flat_map items xs) ++ (items x ++ s)
regroup_more items front xs x s =
    rw (flat_map-append items xs (x ∷ [])) (simp (append_assoc, append-nil))

module _ {K T H X : Type 0} (form : Form K T) (head : Form K H) (items : X → List K) (item : ℕ → X → Type 0)
    (inner : X → K → Bool) (starter : K → Bool) (make : H → List X
    → T) (c : IsChain form head items item inner starter make) where
  pub quiet_inner : (h : H) (xs : List X) (x : X) (more : List X) (after : List K) →
      form.Good (make h (xs ++ x ∷ more)) →
      begins (form.extends (make h (xs ++ x ∷ more))) after ≡ false
      → begins (inner x) (flat_map items more ++ after) ≡ false
  quiet_inner h xs x [] after g q = begins_within (form.extends (make h (xs ++ x ∷ []))) (inner x) after
      (c.ends_item h xs x) q
  quiet_inner h xs x (y ∷ more) after g q =
      rw (append_assoc (items y) (flat_map items more) after)
      (begins_apart starter (inner x) (items y) _ (λ t e. c.apart_item h xs x y more t g e) (c.starts y))

  pub quiet_head : (h : H) (xs : List X) (after : List K) → form.Good (make h xs) →
      begins (form.extends (make h xs)) after ≡ false →
      begins (head.extends h) (flat_map items xs ++ after) ≡ false
  quiet_head h [] after g q = begins_within (form.extends (make h [])) (head.extends h) after (c.ends_head h) q
  quiet_head h (x ∷ xs) after g q =
      rw (append_assoc (items x) (flat_map items xs) after)
      (begins_apart starter (head.extends h) (items x) _ (λ t e. c.apart_head h x xs t g e) (c.starts x))

  not_started : (h : H) (xs : List X) (after : List K) → begins (form.extends (make h xs)) after ≡ false →
      begins starter after ≡ true → ⊥
  not_started h xs after q e = true≢false (sym e ∙ begins_within (form.extends (make h xs)) starter after
      (c.ends h xs) q)

  started : (x : X) (more : List X) (after : List K) → begins starter (flat_map items (x ∷ more) ++ after) ≡ true
  started x more after = rw (append_assoc (items x) (flat_map items more) after)
      (begins_append starter (items x) _ (c.starts x))

  pub chain_first : (h : H) (rest : List K) → Reads head h rest → form.Good (make h []) →
      SoFar form head items make h [] rest
  chain_first h rest r good = record {
    good = good;
    only = λ s h' xs' after same g quiet e.
        let e' : head.tokens h ++ s ≡ head.tokens h' ++ (flat_map items xs' ++ after) =
        sym (ap (λ front. front ++ s) (append-nil (head.tokens h))) ∙ e
        ∙ append_assoc (head.tokens h') (flat_map items xs') after in
        let found = r.only s h' (flat_map items xs' ++ after) same (c.good_head h' xs' g)
        (quiet_head h' xs' after g quiet) e' in
        (found.0, xs', refl, sym found.1);
  }

  step_more : (xs : List X) (x : X) (rest : List K) → Reads (item_form items item inner (length xs)) x rest →
      (s : List K) (h h' : H) (xs' : List X) (after : List K) → SameStart rest s → form.Good (make h' xs') →
      begins (form.extends (make h' xs')) after ≡ false → h' ≡ h → (more : List X) → xs' ≡ xs ++ more
      → items x ++ s ≡ flat_map items more ++ after →
      (h' ≡ h) × (more' : List X) × (xs' ≡ (xs ++ x ∷ []) ++ more') × (s ≡ flat_map items more' ++ after)
  step_more xs x rest r s h h' xs' after same g quiet eh [] ex e =
      absurd (not_started h' xs' after quiet (subst (λ l. begins starter l ≡ true) e
      (begins_append starter (items x) s (c.starts x))))
  step_more xs x rest r s h h' xs' after same g quiet eh (y ∷ more) ex e =
      let g' = subst (λ l. form.Good (make h' l)) ex g in
      let found = r.only s y (flat_map items more ++ after) same (c.good_item h' xs y more g')
      (quiet_inner h' xs y more after g' (subst (λ l. begins (form.extends (make h' l)) after ≡ false) ex quiet))
      (e ∙ append_assoc (items y) (flat_map items more) after) in
      (eh, more, ex ∙ ap (λ v. xs ++ v ∷ more) found.0 ∙ sym (append_assoc xs (x ∷ []) more), sym found.1)

  pub chain_step : (h : H) (xs : List X) (x : X) (here rest : List K) → SoFar form head items make h xs here →
      here ≡ items x ++ rest →
      Reads (item_form items item inner (length xs)) x rest → form.Good (make h (xs ++ x ∷ [])) →
      SoFar form head items make h (xs ++ x ∷ []) rest
  chain_step h xs x here rest so at r good = record {
    good = good;
    only = λ s h' xs' after same g quiet e.
        let same' : SameStart here (items x ++ s) =
        subst (λ l. SameStart l (items x ++ s)) (sym at) (same_start_append (items x) rest s same) in
        let found = so.only (items x ++ s) h' xs' after same' g quiet (sym (regroup_more items (head.tokens h) xs x s)
        ∙ e) in
        step_more xs x rest r s h h' xs' after same g quiet found.0 found.1 found.2 found.3;
  }

  stop_more : (xs : List X) (here s : List K) (h h' : H) (xs' : List X) (after : List K) → SameStart here s →
      begins starter here ≡ false → h' ≡ h → (more : List X) → xs' ≡ xs ++ more → s ≡ flat_map items more ++ after →
      (make h' xs' ≡ make h xs) × (after ≡ s)
  stop_more xs here s h h' xs' after same ends eh [] ex e =
      (ap (λ a. make a xs') eh ∙ ap (λ l. make h l) (ex ∙ append-nil xs), sym e)
  stop_more xs here s h h' xs' after same ends eh (y ∷ more) ex e =
      absurd (true≢false (sym (subst (λ l. begins starter l ≡ true) (sym e) (started y more after))
      ∙ begins_same starter here s same ∙ ends))

  pub chain_stop : (h : H) (xs : List X) (here : List K) → SoFar form head items make h xs here →
      begins starter here ≡ false →
      Reads form (make h xs) here
  chain_stop h xs here so ends = record {
    good = so.good;
    only = λ s other after same g quiet e.
        let t = c.taken other in
        let g' = subst form.Good t.2 g in
        let quiet' = subst (λ o. begins (form.extends o) after ≡ false) t.2 quiet in
        let e' : (head.tokens h ++ flat_map items xs) ++ s ≡ (head.tokens t.0 ++ flat_map items t.1) ++ after =
        sym (ap (λ l. l ++ s) (c.spelled h xs)) ∙ e ∙ ap (λ o. form.tokens o ++ after) t.2
        ∙ ap (λ l. l ++ after) (c.spelled t.0 t.1) in
        let found = so.only s t.0 t.1 after same g' quiet' e' in
        let end = stop_more xs here s h t.0 t.1 after same ends found.0 found.1 found.2 found.3 in
        (t.2 ∙ end.0, end.1);
  }

  pub head_refused : (before bad : List K) → Refuses head before bad → ((h : H) → head.Good h → form.Good (make h [])) →
      Refuses form before bad
  head_refused before bad r complete = record {
    begun = (
      r.begun.0,
      make r.begun.1 [],
      complete r.begun.1 r.begun.2,
      r.begun.3 ∙ sym (append-nil (head.tokens r.begun.1)) ∙ sym (c.spelled r.begun.1 []),
    );
    never = λ s other after same g quiet e.
        let t = c.taken other in
        let g' = subst form.Good t.2 g in
        let quiet' = subst (λ o. begins (form.extends o) after ≡ false) t.2 quiet in
        r.never s t.0 (flat_map items t.1 ++ after) same (c.good_head t.0 t.1 g') (quiet_head t.0 t.1 after g' quiet')
        (e ∙ ap (λ o. form.tokens o ++ after) t.2 ∙ ap (λ l. l ++ after) (c.spelled t.0 t.1)
        ∙ append_assoc (head.tokens t.0) (flat_map items t.1) after);
  }

  refused_more : (xs : List X) (before bad : List K) → Refuses (item_form items item inner (length xs)) before bad →
      (s : List K) (h' : H) (xs' : List X) (after : List K) → begins starter (before ++ s) ≡ true → SameStart bad s →
      form.Good (make h' xs') → begins (form.extends (make h' xs')) after ≡ false → (more : List X) → xs' ≡ xs ++ more →
      before ++ s ≡ flat_map items more ++ after → ⊥
  refused_more xs before bad r s h' xs' after starts same g quiet [] ex e =
      not_started h' xs' after quiet (subst (λ l. begins starter l ≡ true) e starts)
  refused_more xs before bad r s h' xs' after starts same g quiet (y ∷ more) ex e =
      r.never s y (flat_map items more ++ after) same
      (c.good_item h' xs y more (subst (λ l. form.Good (make h' l)) ex g))
      (quiet_inner h' xs y more after (subst (λ l. form.Good (make h' l)) ex g)
      (subst (λ l. begins (form.extends (make h' l)) after ≡ false) ex quiet)) (e
      ∙ append_assoc (items y) (flat_map items more) after)

  pub item_refused : (h : H) (xs : List X) (here before bad : List K) → SoFar form head items make h xs here →
      begins starter here ≡ true → here ≡ before ++ bad → Refuses (item_form items item inner (length xs)) before bad →
      ((x : X) → item (length xs) x → form.Good (make h (xs ++ x ∷ []))) →
      Refuses form ((head.tokens h ++ flat_map items xs) ++ before) bad
  item_refused h xs here before bad so starts at r complete = record {
    begun = (
      r.begun.0,
      make h (xs ++ r.begun.1 ∷ []),
      complete r.begun.1 r.begun.2,
      append_assoc (head.tokens h ++ flat_map items xs) before r.begun.0
          ∙ ap (λ l. (head.tokens h ++ flat_map items xs) ++ l) (r.begun.3 ∙ sym (append-nil (items r.begun.1)))
          ∙ sym (regroup_more items (head.tokens h) xs r.begun.1 [])
          ∙ append-nil (head.tokens h ++ flat_map items (xs ++ r.begun.1 ∷ []))
          ∙ sym (c.spelled h (xs ++ r.begun.1 ∷ [])),
    );
    never = λ s other after same g quiet e.
        let t = c.taken other in
        let g' = subst form.Good t.2 g in
        let quiet' = subst (λ o. begins (form.extends o) after ≡ false) t.2 quiet in
        let same' : SameStart here (before ++ s) =
        subst (λ l. SameStart l (before ++ s)) (sym at) (same_start_append before bad s same) in
        let e' : (head.tokens h ++ flat_map items xs) ++ (before ++ s) ≡ (head.tokens t.0 ++ flat_map items t.1)
        ++ after =
        sym (append_assoc (head.tokens h ++ flat_map items xs) before s) ∙ e ∙ ap (λ o. form.tokens o ++ after) t.2
        ∙ ap (λ l. l ++ after) (c.spelled t.0 t.1) in
        let found = so.only (before ++ s) t.0 t.1 after same' g' quiet' e' in
        refused_more xs before bad r s t.0 t.1 after (begins_same starter here (before ++ s) same'
        ∙ starts) same g' quiet' found.1 found.2 found.3;
  }

  over_more : (xs : List X) (s : List K) (h' : H) (xs' : List X) (after : List K) → begins starter s ≡ true →
      ((h : H) (x : X) (more : List X) → form.Good (make h (xs ++ x ∷ more)) → h ≡ h' → ⊥) → form.Good (make h' xs') →
      begins (form.extends (make h' xs')) after ≡ false → (more : List X) → xs' ≡ xs ++ more
      → s ≡ flat_map items more ++ after → ⊥
  over_more xs s h' xs' after starts ends g quiet [] ex e =
      not_started h' xs' after quiet (subst (λ l. begins starter l ≡ true) e starts)
  over_more xs s h' xs' after starts ends g quiet (y ∷ more) ex e =
      ends h' y more (subst (λ l. form.Good (make h' l)) ex g) refl

  -- No more items are allowed, and one begins here
  pub chain_over : (h : H) (xs : List X) (here : List K) → SoFar form head items make h xs here →
      begins starter here ≡ true →
      ((x : X) (more : List X) → form.Good (make h (xs ++ x ∷ more)) → ⊥)
      → Refuses form (head.tokens h ++ flat_map items xs) here
  chain_over h xs here so starts ends = record {
    begun = ([], make h xs, so.good, append-nil (head.tokens h ++ flat_map items xs) ∙ sym (c.spelled h xs));
    never = λ s other after same g quiet e.
        let t = c.taken other in
        let g' = subst form.Good t.2 g in
        let quiet' = subst (λ o. begins (form.extends o) after ≡ false) t.2 quiet in
        let e' : (head.tokens h ++ flat_map items xs) ++ s ≡ (head.tokens t.0 ++ flat_map items t.1) ++ after =
        e ∙ ap (λ o. form.tokens o ++ after) t.2 ∙ ap (λ l. l ++ after) (c.spelled t.0 t.1) in
        let found = so.only s t.0 t.1 after same g' quiet' e' in
        over_more xs s t.0 t.1 after (begins_same starter here s same ∙ starts)
        (λ h'' x more good eq. ends x more (subst (λ a. form.Good (make a (xs ++ x ∷ more))) (eq ∙ found.0) good))
        g' quiet' found.1 found.2 found.3;
  }
