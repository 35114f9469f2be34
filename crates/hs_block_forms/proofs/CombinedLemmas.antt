-- How kinds of trees are read that are put together for guards, right sides, alternatives and blocks.
use Rattle.std.proofs.Common.{◌≡◌, ℕ, ◌+◌, Bool, true, false, List, [], ◌∷◌, ◌++◌, length, refl, sym, ap, ◌∙◌, subst}
use Rattle.std.proofs.Common.{true≢false, arith, length-append, append_assoc}
use Rattle.std.specs.Prelude.{max, map, not, Option}
use Rattle.std.proofs.lemmas.Bool.{and_from}
use Rattle.hs_forms.specs.Reading.{Form, SameStart, begins, Reads, Refuses}
use Rattle.hs_forms.specs.Limits.{Within, deepest}
use Rattle.hs_forms.specs.Answers.{Rejects}
use Rattle.hs_forms.specs.Forms.{closed_if, Completes}
use Rattle.hs_forms.specs.Productions.{Chain}
use Rattle.hs_forms.specs.declared.fault.Fault.{Fault}
use Rattle.hs_forms.proofs.FormLemmas.{reads_closed_if, refuses_closed_if, closed_if_missed, begins_append, begins_same}
use Rattle.hs_forms.proofs.FormLemmas.{reads_behind, uncons, same_start_append}
use Rattle.hs_forms.proofs.LimitLemmas.{within_less, within_max, within_zero, and_left, and_right, all_here, all_more}
use Rattle.hs_forms.proofs.LimitLemmas.{deep_here, deep_more, or_left, or_right}
use Rattle.hs_forms.proofs.StateLemmas.{fails_after}
use Rattle.hs_expression_forms.specs.Trees.{Trees, within, Took, Failed, behind_token}
use Rattle.hs_expression_forms.specs.Expressions.{few}
use Rattle.hs_expression_forms.proofs.TreesLemmas.{reads_same, refuses_same}
use Rattle.hs_expression_forms.proofs.ListedLemmas.{few_within, within_few, last_more}
use Rattle.hs_block_forms.specs.Combined.{narrowed, ended_if, headed, headed_goes, Heads, Places, PlaceCase}
use Rattle.hs_block_forms.specs.Combined.{is_none, is_some}

pub not_off : (b : Bool) → not b ≡ false → b ≡ true
not_off true h = refl
not_off false h = absurd (true≢false h)

pub on_not : (b : Bool) → b ≡ true → not b ≡ false
on_not true h = refl
on_not false h = absurd (true≢false (sym h))

-- trees before certain tokens
module _ {K T : Type 0} (a : Trees K T) (follow : K → Bool)
    (quiet : (x : T) (k : K) → follow k ≡ true → a.extends x k ≡ false) (limit : Option ℕ) where
  pub narrowed_took : (ts : List K) (x : T) (rest : List K) (m : ℕ) → Took a limit ts x rest m →
      Took (narrowed a follow) limit ts x rest m
  narrowed_took ts x rest m acc = record {
    spelled = acc.spelled;
    reads = reads_same (within a limit) (within (narrowed a follow) limit) (λ x. refl) (λ x g. g) (λ x g. g)
        (λ x k e. quiet x k (not_off (follow k) e)) x rest acc.reads;
    measured_is = acc.measured_is;
    room = acc.room;
  }

  pub narrowed_failed : (ts : List K) (e : Fault) → Failed a limit ts e → Failed (narrowed a follow) limit ts e
  narrowed_failed ts e r =
      fails_after (within (narrowed a follow) limit) (within a limit) [] ts ts e refl
      (λ before bad split q. refuses_same (within a limit) (within (narrowed a follow) limit) (λ x. refl) (λ x g. g)
      (λ x g. g) (λ x k e. quiet x k (not_off (follow k) e)) before bad q) r

-- a closing token of those that fit
module _ {K T : Type 0} (a : Trees K T) (fits : T → Bool) (k : K)
    (ends : (x : T) → fits x ≡ true → a.extends x k ≡ false) (limit : Option ℕ) where
  abbrev Fits : T → Type 0
  Fits x = fits x ≡ true

  abbrev closing : Form K T
  closing = closed_if (within a limit) Fits k

  there : (x : T) → closing.Good x → (within (ended_if a fits k) limit).Good x
  there x g = (and_from (a.formed x) (fits x) g.0.0 g.1, g.0.1)

  back : (x : T) → (within (ended_if a fits k) limit).Good x → closing.Good x
  back x g = ((and_left (a.formed x) (fits x) g.0, g.1), and_right (a.formed x) (fits x) g.0)

  refused : (before bad : List K) → Refuses closing before bad → Refuses (within (ended_if a fits k) limit) before bad
  refused before bad r =
      refuses_same closing (within (ended_if a fits k) limit) (λ x. refl) there back (λ x t e. e) before bad r

  pub ended_if_took : (ts : List K) (x : T) (here rest : List K) (m : ℕ) → Took a limit ts x here m →
      here ≡ k ∷ rest → fits x ≡ true → Took (ended_if a fits k) limit ts x rest m
  ended_if_took ts x here rest m acc at fit = record {
    spelled = acc.spelled ∙ ap (λ l. a.tokens x ++ l) at ∙ sym (append_assoc (a.tokens x) (k ∷ []) rest);
    reads = reads_same closing (within (ended_if a fits k) limit) (λ x. refl) there back (λ x t e. e) x rest
        (reads_closed_if (within a limit) Fits k ends x rest (subst (Reads (within a limit) x) at acc.reads) fit);
    measured_is = acc.measured_is;
    room = omega (arith, acc.room, ap length at);
  }

  module _ (completes : Completes (within a limit) Fits) where
    pub ended_if_failed : (ts : List K) (e : Fault) → Failed a limit ts e → Failed (ended_if a fits k) limit ts e
    ended_if_failed ts e r =
        fails_after (within (ended_if a fits k) limit) (within a limit) [] ts ts e refl
        (λ before bad split q. refused before bad
        (refuses_closed_if (within a limit) Fits k ends completes before bad q)) r

    pub ended_if_missed : (ts : List K) (x : T) (here : List K) (m : ℕ) → Took a limit ts x here m →
        ((more : List K) → here ≡ k ∷ more → fits x ≡ true → ⊥) →
        Rejects (within (ended_if a fits k) limit) ts (length here)
    ended_if_missed ts x here m acc missed = record {
      before = a.tokens x;
      bad = here;
      split = acc.spelled;
      left_is = refl;
      refuses = refused (a.tokens x) here
          (closed_if_missed (within a limit) Fits k ends completes x here acc.reads missed);
    }

-- A first tree and others behind it, as a chain: an item is one that its reader can find, and there may be no room for
-- any.
module _ {K A B : Type 0} (a : Trees K A) (b : Trees K B) (starter : K → Bool) (l : Heads a b starter)
    (most limit : Option ℕ) (item : B → Type 0) (room : Type 0)
    (there : room → (x : B) → item x → (within b limit).Good x)
    (back : (x : B) → (within b limit).Good x → room × item x) where
  abbrev whole : Trees K (A × List B)
  whole = headed a b starter most

  abbrev pub HeadedRoom : A → List B → Type 0
  HeadedRoom h xs = Within most (length xs + 1) × room

  pub headed_more : (h : A) (xs : List B) (x : B) → (within whole limit).Good (h, xs) → HeadedRoom h xs → item x →
      (within whole limit).Good (h, xs ++ x ∷ [])
  headed_more h xs x good free found =
      let one = there free.1 x found in
      let long = length-append xs (x ∷ []) in
      let new = deep_more b.deep xs x in
      let parts = and_right (few most (length xs)) _ good.0 in (
        and_from _ _ (within_few most _ (within_less most _ (length xs + 1) (omega arith) free.0))
            (and_from _ _ (and_left (a.formed h) _ parts)
            (all_more b.formed xs x (and_right (a.formed h) _ parts) one.0)),
        within_less limit _ (max (max (a.deep h) (deepest (map b.deep xs))) (b.deep x) + 0) (omega arith)
            (within_max limit _ _ 0 (within_less limit _ _ (omega arith) good.1)
            (within_less limit _ _ (omega arith) one.1)),
      )

  pub headed_part : (h : A) (xs : List B) (x : B) (ys : List B) → (within whole limit).Good (h, xs ++ x ∷ ys) →
      (within b limit).Good x
  headed_part h xs x ys good = (
    all_here b.formed xs x ys (and_right (a.formed h) _ (and_right (few most (length (xs ++ x ∷ ys))) _ good.0)),
    (let here = deep_here b.deep xs x ys in within_less limit _ _ (omega arith) good.1),
  )

  pub headed_full : (h : A) (xs : List B) (x : B) (ys : List B) → (within whole limit).Good (h, xs ++ x ∷ ys) →
      HeadedRoom h xs
  headed_full h xs x ys good =
      let long = length-append xs (x ∷ ys) in (
        within_less most _ (length (xs ++ x ∷ ys)) (omega arith)
            (few_within most _ (and_left (few most (length (xs ++ x ∷ ys))) _ good.0)),
        (back x (headed_part h xs x ys good)).0,
      )

  pub goes_more : (h : A) (xs : List B) (x : B) (k : K) → headed_goes a b (h, xs ++ x ∷ []) k ≡ b.extends x k
  goes_more h [] x k = refl
  goes_more h (y ∷ xs) x k = ap (λ z. b.extends z k) (last_more y xs x)

  abbrev pub headed_chain : Chain K (A × List B) A B
  headed_chain = record {
    form = within whole limit;
    head = within a limit;
    items = b.tokens;
    item = λ n x. item x;
    inner = b.extends;
    starter = starter;
    make = λ h xs. (h, xs);
    head_depth = a.deep;
    item_depth = b.deep;
    Room = HeadedRoom;
    laws = record {
      spelled = λ h xs. refl;
      taken = λ p. (p.0, p.1, refl);
      good_head = λ h xs good. (
        and_left (a.formed h) _ (and_right (few most (length xs)) _ good.0),
        within_less limit _ _ (omega arith) good.1,
      );
      good_item = λ h xs x more good. (back x (headed_part h xs x more good)).1;
      starts = l.starts;
      ends = λ h xs k e. or_left (starter k) _ e;
      ends_head = λ h k e. or_right (starter k) _ e;
      ends_item = λ h xs x k e. sym (goes_more h xs x k) ∙ or_right (starter k) _ e;
      apart_head = λ h x more k good e. l.apart_head h k e;
      apart_item = λ h xs x y more k good e. l.apart x k e;
    };
    first = λ h good. (
      and_from _ _ (within_few most 0 (within_zero most)) (and_from (a.formed h) true good.0 refl),
      within_less limit _ (a.deep h) (omega arith) good.1,
    );
    more = headed_more;
    full = headed_full;
  }

-- places of a block, behind a token
module _ {K T S : Type 0} (a : Trees K T) (s : Trees K S) (none : S) (some : T → S) (starter ends : K → Bool)
    (p : Places a s none some starter ends) (k : K) (limit : Option ℕ) where
  some_good : (x : T) → (within a limit).Good x → (within s limit).Good (some x)
  some_good x g = (p.formed x ∙ g.0, subst (Within limit) (sym (p.deep x)) g.1)

  some_back : (y : S) (x : T) → y ≡ some x → (within s limit).Good y → (within a limit).Good x
  some_back y x is g = (
    sym (p.formed x) ∙ ap s.formed (sym is) ∙ g.0,
    subst (Within limit) (ap s.deep is ∙ p.deep x) g.1,
  )

  none_good : (within s limit).Good none
  none_good = (p.none_formed, subst (Within limit) (sym p.none_deep) (within_zero limit))

  quiet : (y : S) (x : T) (after : List K) → begins (s.extends y) after ≡ false → begins (a.extends x) after ≡ false
  quiet y x [] e = refl
  quiet y x (j ∷ after) e = p.quiet x j (not_off (ends j) (sym (p.extends y j) ∙ e))

  starts_at : (y : S) (x : T) (s' after : List K) → y ≡ some x → s' ≡ s.tokens y ++ after → begins starter s' ≡ true
  starts_at y x s' after is e =
      ap (begins starter) (e ∙ ap (λ z. s.tokens z ++ after) is ∙ ap (λ l. l ++ after) (p.tokens x))
      ∙ begins_append starter (a.tokens x) after (p.starts x)

  none_at : (y : S) (s' after : List K) → y ≡ none → s' ≡ s.tokens y ++ after → after ≡ s'
  none_at y s' after is e =
      sym (e ∙ ap (λ z. s.tokens z ++ after) is ∙ ap (λ l. l ++ after) p.none_tokens)

  empty_reads : (ts : List K) → begins starter ts ≡ false → Reads (within s limit) none ts
  empty_reads ts off = record {
    good = none_good;
    only = λ s' other after same good q e. by s' other after same e (p.cases other);
  }
    where
      by : (s' : List K) (other : S) (after : List K) → SameStart ts s' → s.tokens none ++ s' ≡ s.tokens other ++
          after →
          PlaceCase none some other → (other ≡ none) × (after ≡ s')
      by s' other after same e (is_none is) = (
        is,
        none_at other s' after is (ap (λ l. l ++ s') (sym p.none_tokens) ∙ e),
      )
      by s' other after same e (is_some x is) =
          absurd (true≢false (sym (starts_at other x s' after is (ap (λ l. l ++ s') (sym p.none_tokens) ∙ e))
          ∙ begins_same starter ts s' same ∙ off))

  some_reads : (x : T) (rest : List K) → Reads (within a limit) x rest → Reads (within s limit) (some x) rest
  some_reads x rest r = record {
    good = some_good x r.good;
    only = λ s' other after same good q e. by s' other after same good q
        (ap (λ l. l ++ s') (sym (p.tokens x)) ∙ e) (p.cases other);
  }
    where
      by : (s' : List K) (other : S) (after : List K) → SameStart rest s' → (within s limit).Good other →
          begins (s.extends other) after ≡ false → a.tokens x ++ s' ≡ s.tokens other ++ after →
          PlaceCase none some other → (other ≡ some x) × (after ≡ s')
      by s' other after same good q e (is_none is) =
          absurd (true≢false (sym (begins_append starter (a.tokens x) s' (p.starts x))
          ∙ ap (begins starter) (sym (none_at other (a.tokens x ++ s') after is e)) ∙ off after q))
        where
          off : (after : List K) → begins (s.extends other) after ≡ false → begins starter after ≡ false
          off [] e = refl
          off (j ∷ after) e = p.apart j (not_off (ends j) (sym (p.extends other j) ∙ e))
      by s' other after same good q e (is_some y is) =
          let found = r.only s' y after same (some_back other y is good) (quiet other y after q)
          (e ∙ ap (λ z. s.tokens z ++ after) is ∙ ap (λ l. l ++ after) (p.tokens y)) in
          (is ∙ ap some found.0, found.1)

  pub place_empty : (ts here : List K) → ts ≡ k ∷ here → begins starter here ≡ false →
      Took (behind_token k s) limit ts none here 0
  place_empty ts here at off = record {
    spelled = at ∙ ap (λ l. k ∷ (l ++ here)) (sym p.none_tokens);
    reads = reads_behind k (within s limit) none here (empty_reads here off);
    measured_is = sym p.none_deep;
    room = omega (arith, ap length at);
  }

  pub place_took : (ts here : List K) (x : T) (rest : List K) (m : ℕ) → ts ≡ k ∷ here → Took a limit here x rest m →
      Took (behind_token k s) limit ts (some x) rest m
  place_took ts here x rest m at acc = record {
    spelled = at ∙ ap (λ l. k ∷ l) (acc.spelled ∙ ap (λ l. l ++ rest) (sym (p.tokens x)));
    reads = reads_behind k (within s limit) (some x) rest (some_reads x rest acc.reads);
    measured_is = acc.measured_is ∙ sym (p.deep x);
    room = omega (arith, acc.room, ap length at);
  }

  pub place_failed : (ts here : List K) (e : Fault) → ts ≡ k ∷ here → begins starter here ≡ true →
      Failed a limit here e → Failed (behind_token k s) limit ts e
  place_failed ts here e at on r =
      fails_after (within (behind_token k s) limit) (within a limit) (k ∷ []) ts here e at
      (λ before bad split q. record {
        begun = (
          q.begun.0,
          some q.begun.1,
          some_good q.begun.1 q.begun.2,
          ap (λ l. k ∷ l) (q.begun.3 ∙ sym (p.tokens q.begun.1)),
        );
        never = λ s' other after same good quiet' e.
            by before bad split q s' other after same good quiet' (uncons k _ _ e) (p.cases other);
      }) r
    where
      by : (before bad : List K) → here ≡ before ++ bad → Refuses (within a limit) before bad → (s' : List K)
          (other : S) (after : List K) → SameStart bad s' → (within s limit).Good other →
          begins (s.extends other) after ≡ false → before ++ s' ≡ s.tokens other ++ after →
          PlaceCase none some other → ⊥
      by before bad split q s' other after same good quiet' e (is_none is) =
          true≢false (sym (begins_same starter (before ++ bad) (before ++ s') (same_start_append before bad s' same)
          ∙ ap (begins starter) (sym split) ∙ on)
          ∙ ap (begins starter) (sym (none_at other (before ++ s') after is e)) ∙ off after quiet')
        where
          off : (after : List K) → begins (s.extends other) after ≡ false → begins starter after ≡ false
          off [] e = refl
          off (j ∷ after) e = p.apart j (not_off (ends j) (sym (p.extends other j) ∙ e))
      by before bad split q s' other after same good quiet' e (is_some y is) =
          q.never s' y after same (some_back other y is good) (quiet other y after quiet')
          (e ∙ ap (λ z. s.tokens z ++ after) is ∙ ap (λ l. l ++ after) (p.tokens y))
