-- How kinds of trees are read that are put together of others.
use Rattle.std.proofs.Common.{◌≡◌, ℕ, ◌+◌, ◌<◌, ◌≤◌, Bool, true, false, List, [], ◌∷◌, ◌++◌, length, refl}
use Rattle.std.proofs.Common.{sym, ap, ◌∙◌, subst, append_assoc, arith}
use Rattle.std.specs.Prelude.{max, Option}
use Rattle.std.proofs.lemmas.Bool.{and_from}
use Rattle.hs_forms.specs.Reading.{Form, SameStart, begins, Reads, Refuses}
use Rattle.hs_forms.specs.Limits.{Within, lowered}
use Rattle.hs_forms.specs.Answers.{Rejects}
use Rattle.hs_forms.specs.Forms.{pair}
use Rattle.hs_forms.specs.declared.fault.Fault.{Fault}
use Rattle.hs_forms.proofs.FormLemmas.{reads_behind, refuses_behind, reads_closed, refuses_closed, closing_missed}
use Rattle.hs_forms.proofs.FormLemmas.{reads_pair, pair_first, pair_second, completes_pair, begins_within}
use Rattle.hs_forms.proofs.FormLemmas.{begins_same, same_start_append}
use Rattle.hs_forms.proofs.StateLemmas.{fails_after}
use Rattle.hs_forms.proofs.LimitLemmas.{within_less, within_lowered, within_raised, within_max, within_zero, and_left}
use Rattle.hs_forms.proofs.LimitLemmas.{and_right}
use Rattle.hs_expression_forms.specs.Trees.{Trees, within, Took, Failed, behind_token, ended, row, Follows}
use Rattle.hs_expression_forms.specs.Trees.{Makes, Embeds}

-- forms with the same tokens and continuations whose trees are the same
pub reads_same : {K T : Type 0}
    (one two : Form K T) → ((x : T) → two.tokens x ≡ one.tokens x) →
    ((x : T) → one.Good x → two.Good x) → ((x : T) → two.Good x → one.Good x) →
    ((x : T) (k : K) → two.extends x k ≡ false → one.extends x k ≡ false) →
    (x : T) (rest : List K) → Reads one x rest → Reads two x rest
reads_same one two tokens there back extends x rest r = record {
  good = there x r.good;
  only = λ s other after same good quiet e.
      r.only s other after same (back other good)
      (begins_within (two.extends other) (one.extends other) after (extends other) quiet)
      (ap (λ l. l ++ s) (sym (tokens x)) ∙ e ∙ ap (λ l. l ++ after) (tokens other));
}

pub refuses_same : {K T : Type 0}
    (one two : Form K T) → ((x : T) → two.tokens x ≡ one.tokens x) →
    ((x : T) → one.Good x → two.Good x) → ((x : T) → two.Good x → one.Good x) →
    ((x : T) (k : K) → two.extends x k ≡ false → one.extends x k ≡ false) →
    (before bad : List K) → Refuses one before bad → Refuses two before bad
refuses_same one two tokens there back extends before bad r = record {
  begun = (r.begun.0, r.begun.1, there r.begun.1 r.begun.2, r.begun.3 ∙ sym (tokens r.begun.1));
  never = λ s other after same good quiet e.
      r.never s other after same (back other good)
      (begins_within (two.extends other) (one.extends other) after (extends other) quiet)
      (e ∙ ap (λ l. l ++ after) (tokens other));
}

module _ {K T : Type 0} (a : Trees K T) (limit : Option ℕ) where
  -- behind a token
  pub behind_took : (k : K) (ts next : List K) (x : T) (rest : List K) (m : ℕ) → ts ≡ k ∷ next →
      Took a limit next x rest m → Took (behind_token k a) limit ts x rest m
  behind_took k ts next x rest m at acc = record {
    spelled = at ∙ ap (λ l. k ∷ l) acc.spelled;
    reads = reads_behind k (within a limit) x rest acc.reads;
    measured_is = acc.measured_is;
    room = omega (arith, acc.room, ap length at);
  }

  pub behind_failed : (k : K) (ts next : List K) (e : Fault) → ts ≡ k ∷ next → Failed a limit next e →
      Failed (behind_token k a) limit ts e
  behind_failed k ts next e at r =
      fails_after (within (behind_token k a) limit) (within a limit) (k ∷ []) ts next e at
      (λ before bad split q. refuses_behind k (within a limit) before bad q) r

  -- before a closing token
  module _ (k : K) (ends : (x : T) → a.extends x k ≡ false) where
    pub ended_took : (ts : List K) (x : T) (here rest : List K) (m : ℕ) → Took a limit ts x here m → here ≡ k ∷ rest →
        Took (ended a k) limit ts x rest m
    ended_took ts x here rest m acc at = record {
      spelled = acc.spelled ∙ ap (λ l. a.tokens x ++ l) at ∙ sym (append_assoc (a.tokens x) (k ∷ []) rest);
      reads = reads_closed (within a limit) k ends x rest (subst (Reads (within a limit) x) at acc.reads);
      measured_is = acc.measured_is;
      room = omega (arith, acc.room, ap length at);
    }

    pub ended_failed : (ts : List K) (e : Fault) → Failed a limit ts e → Failed (ended a k) limit ts e
    ended_failed ts e r =
        fails_after (within (ended a k) limit) (within a limit) [] ts ts e refl
        (λ before bad split q. refuses_closed (within a limit) k ends before bad q) r

    pub ended_missed : (test : K → Bool) → test k ≡ true → (ts : List K) (x : T) (here : List K) (m : ℕ) →
        Took a limit ts x here m → begins test here ≡ false → Rejects (within (ended a k) limit) ts (length here)
    ended_missed test is ts x here m acc missed = record {
      before = a.tokens x;
      bad = here;
      split = acc.spelled;
      left_is = refl;
      refuses = closing_missed (within a limit) k ends test is x here acc.reads missed;
    }

module _ {K A B : Type 0} (a : Trees K A) (b : Trees K B) (starter : K → Bool) (f : Follows a b starter)
    (limit : Option ℕ) where
  abbrev both : Form K (A × B)
  both = pair (within a limit) (within b limit) (λ x y. Unit {0})

  there : (p : A × B) → both.Good p → (within (row a b) limit).Good p
  there p g = (
    and_from (a.formed p.0) (b.formed p.1) g.0.0 g.1.0,
    within_less limit _ (max (a.deep p.0) (b.deep p.1) + 0) (omega arith)
        (within_max limit (a.deep p.0) (b.deep p.1) 0 (within_less limit _ _ (omega arith) g.0.1)
        (within_less limit _ _ (omega arith) g.1.1)),
  )

  back : (p : A × B) → (within (row a b) limit).Good p → both.Good p
  back p g = (
    (and_left (a.formed p.0) _ g.0, within_less limit _ _ (omega arith) g.1),
    (and_right (a.formed p.0) _ g.0, within_less limit _ _ (omega arith) g.1),
    tt,
  )

  refused : (before bad : List K) → Refuses both before bad → Refuses (within (row a b) limit) before bad
  refused before bad r = refuses_same both (within (row a b) limit) (λ x. refl) there back (λ x k e. e) before bad r

  -- two trees in a row
  pub row_took : (ts : List K) (x : A) (here : List K) (m : ℕ) (y : B) (rest : List K) (n : ℕ) →
      Took a limit ts x here m → Took b limit here y rest n → Took (row a b) limit ts (x, y) rest (max m n)
  row_took ts x here m y rest n p q = record {
    spelled = p.spelled ∙ ap (λ l. a.tokens x ++ l) q.spelled ∙ sym (append_assoc (a.tokens x) (b.tokens y) rest);
    reads = reads_same both (within (row a b) limit) (λ x. refl) there back (λ x k e. e) (x, y) rest
        (reads_pair (within a limit) (within b limit) (λ x y. Unit {0}) starter f.starts (λ x y t u h. f.apart x t h)
        x here y rest p.reads q.spelled q.reads tt);
    measured_is = ap (λ k. max k n) p.measured_is ∙ ap (λ k. max (a.deep x) k) q.measured_is;
    room = omega (arith, p.room, q.room);
  }

  pub row_first : (ts : List K) (e : Fault) → Failed a limit ts e → Failed (row a b) limit ts e
  row_first ts e r =
      fails_after (within (row a b) limit) (within a limit) [] ts ts e refl
      (λ before bad split q. refused before bad
      (pair_first (within a limit) (within b limit) (λ x y. Unit {0}) starter f.starts (λ x y t u h. f.apart x t h)
      (completes_pair (within a limit) (within b limit) (λ x y. Unit {0}) starter f.starts
      (λ x y t u h. f.apart x t h) f.least (λ x good. (
        (
          f.least_formed,
          subst (Within limit) (sym f.least_deep)
              (within_zero limit),
        ),
        tt,
      ))) before bad q)) r

  pub row_second : (ts : List K) (x : A) (here : List K) (m : ℕ) (e : Fault) → Took a limit ts x here m →
      Failed b limit here e → Failed (row a b) limit ts e
  row_second ts x here m e p r =
      fails_after (within (row a b) limit) (within b limit) (a.tokens x) ts here e p.spelled
      (λ before bad split q. refused (a.tokens x ++ before) bad
      (pair_second (within a limit) (within b limit) (λ x y. Unit {0}) starter f.starts (λ x y t u h. f.apart x t h)
      x here before bad p.reads split q (λ y good. tt))) r

-- a test of the front that stands whatever follows what was refused
abbrev pub Stays : {K : Type 0} → (List K → Bool) → List K → Type 0
Stays {K} test ts = (before bad s : List K) → ts ≡ before ++ bad → SameStart bad s → test (before ++ s) ≡ true

pub stays_first : {K : Type 0} (test : K → Bool) (ts : List K) → begins test ts ≡ true → Stays (begins test) ts
stays_first test ts is before bad s split same =
    begins_same test (before ++ bad) (before ++ s) (same_start_append before bad s same)
    ∙ ap (begins test) (sym split) ∙ is

module _ {K P T : Type 0} (whole : Trees K T) (part : Trees K P) (make : P → T) (used : ℕ) (test : List K → Bool)
    (w : Makes whole part make used test) (limit : Option ℕ) where
  good : Within limit used → (p : P) → (within part (lowered limit used)).Good p → (within whole limit).Good (make p)
  good room p g = (
    w.formed p ∙ g.0,
    subst (Within limit) (sym (w.deep p)) (within_raised limit (part.deep p) used room g.1),
  )

  good_back : (x : T) (p : P) → x ≡ make p → (within whole limit).Good x → (within part (lowered limit used)).Good p
  good_back x p is g = (
    sym (w.formed p) ∙ ap whole.formed (sym is) ∙ g.0,
    within_lowered limit (part.deep p) used (subst (Within limit) (ap whole.deep is ∙ w.deep p) g.1),
  )

  quiet_part : (x : T) (p : P) (after : List K) → x ≡ make p → begins (whole.extends x) after ≡ false →
      begins (part.extends p) after ≡ false
  quiet_part x p after is q =
      begins_within (whole.extends (make p)) (part.extends p) after (w.extends p)
      (subst (λ o. begins (whole.extends o) after ≡ false) is q)

  made_reads : Within limit used → (p : P) (rest : List K) → Reads (within part (lowered limit used)) p rest →
      Reads (within whole limit) (make p) rest
  made_reads room p rest r = record {
    good = good room p r.good;
    only = λ s other after same g quiet e.
        let e' : part.tokens p ++ s ≡ whole.tokens other ++ after = ap (λ l. l ++ s) (sym (w.spelled p)) ∙ e in
        let q = w.only other after g.0 (ap test (sym e') ∙ w.starts p s r.good.0) in
        let found = r.only s q.0 after same (good_back other q.0 q.1 g) (quiet_part other q.0 after q.1 quiet)
        (e' ∙ ap (λ o. whole.tokens o ++ after) q.1 ∙ ap (λ l. l ++ after) (w.spelled q.0)) in
        (q.1 ∙ ap make found.0, found.1);
  }

  -- a tree made of what was read
  pub made_took : Within limit used → (ts : List K) (p : P) (rest : List K) (m : ℕ) →
      Took part (lowered limit used) ts p rest m → m + used + length rest < length ts →
      Took whole limit ts (make p) rest (m + used)
  made_took room ts p rest m acc less = record {
    spelled = acc.spelled ∙ ap (λ l. l ++ rest) (sym (w.spelled p));
    reads = made_reads room p rest acc.reads;
    measured_is = ap (λ n. n + used) acc.measured_is ∙ sym (w.deep p);
    room = less;
  }

  pub made_refuses : Within limit used → (before bad : List K) →
      ((s : List K) → SameStart bad s → test (before ++ s) ≡ true) →
      Refuses (within part (lowered limit used)) before bad → Refuses (within whole limit) before bad
  made_refuses room before bad stays r = record {
    begun = (r.begun.0, make r.begun.1, good room r.begun.1 r.begun.2, r.begun.3 ∙ sym (w.spelled r.begun.1));
    never = λ s other after same g quiet e.
        let q = w.only other after g.0 (ap test (sym e) ∙ stays s same) in
        r.never s q.0 after same (good_back other q.0 q.1 g) (quiet_part other q.0 after q.1 quiet)
        (e ∙ ap (λ o. whole.tokens o ++ after) q.1 ∙ ap (λ l. l ++ after) (w.spelled q.0));
  }

  pub made_failed : Within limit used → (ts : List K) (e : Fault) → Stays test ts →
      Failed part (lowered limit used) ts e → Failed whole limit ts e
  made_failed room ts e stays r =
      fails_after (within whole limit) (within part (lowered limit used)) [] ts ts e refl
      (λ before bad split q. made_refuses room before bad (λ s same. stays before bad s split same) q) r

  -- no depth is left for such a tree
  pub made_over : (Within limit used → ⊥) → (least : T) → (within whole limit).Good least → (ts : List K) →
      ((s : List K) → SameStart ts s → test s ≡ true) → Rejects (within whole limit) ts (length ts)
  made_over over least least_good ts stays = record {
    before = [];
    bad = ts;
    split = refl;
    left_is = refl;
    refuses = record {
      begun = (whole.tokens least, least, least_good, refl);
      never = λ s other after same g quiet e.
          let q = w.only other after g.0 (ap test (sym e) ∙ stays s same) in
          over (within_less limit used _ (omega arith) (subst (Within limit) (ap whole.deep q.1 ∙ w.deep q.0) g.1));
    };
  }

-- a production behind one token, which is at most one deeper than its parts
module _ {K P T : Type 0} (whole : Trees K T) (k : K) (part : Trees K P) (make : P → T) (used : ℕ)
    (test : List K → Bool) (w : Makes whole (behind_token k part) make used test) (limit : Option ℕ)
    (room : Within limit used) where
  pub behind_made : used ≤ 1 → (ts next : List K) (p : P) (rest : List K) (m : ℕ) → ts ≡ k ∷ next →
      Took part (lowered limit used) next p rest m → Took whole limit ts (make p) rest (m + used)
  behind_made le ts next p rest m at acc =
      made_took whole (behind_token k part) make used test w limit room ts p rest m
      (behind_took part (lowered limit used) k ts next p rest m at acc)
      (omega (arith, acc.room, ap length at))

  pub behind_made_failed : (ts next : List K) (e : Fault) → Stays test ts → ts ≡ k ∷ next →
      Failed part (lowered limit used) next e → Failed whole limit ts e
  behind_made_failed ts next e stays at r =
      made_failed whole (behind_token k part) make used test w limit room ts e stays
      (behind_failed part (lowered limit used) k ts next e at r)

-- trees of one kind, read among those of another
module _ {K A B : Type 0} (small : Trees K A) (big : Trees K B) (into : A → B) (m : Embeds small big into)
    (limit : Option ℕ) where
  there_embeds : (x : A) → (within small limit).Good x → (within big limit).Good (into x)
  there_embeds x g = (m.formed x ∙ g.0, subst (Within limit) (sym (m.deep x)) g.1)

  back_embeds : (x : A) → (within big limit).Good (into x) → (within small limit).Good x
  back_embeds x g = (sym (m.formed x) ∙ g.0, subst (Within limit) (m.deep x) g.1)

  pub embeds_took : (ts : List K) (x : A) (rest : List K) (n : ℕ) → Took big limit ts (into x) rest n →
      Took small limit ts x rest n
  embeds_took ts x rest n acc = record {
    spelled = acc.spelled ∙ ap (λ l. l ++ rest) (m.tokens x);
    reads = record {
      good = back_embeds x acc.reads.good;
      only = λ s other after same good quiet e.
          let found = acc.reads.only s (into other) after same (there_embeds other good)
          (begins_within (small.extends other) (big.extends (into other)) after (m.extends other) quiet)
          (ap (λ l. l ++ s) (m.tokens x) ∙ e ∙ ap (λ l. l ++ after) (sym (m.tokens other))) in
          (m.one other x found.0, found.1);
    };
    measured_is = acc.measured_is ∙ m.deep x;
    room = acc.room;
  }

  pub embeds_failed : ((y : B) → big.formed y ≡ true → (x : A) × (y ≡ into x)) → (ts : List K) (e : Fault) →
      Failed big limit ts e → Failed small limit ts e
  embeds_failed back ts e r =
      fails_after (within small limit) (within big limit) [] ts ts e refl
      (λ before bad split q. record {
        begun = (let x = back q.begun.1 q.begun.2.0 in (
          q.begun.0,
          x.0,
          back_embeds x.0 (subst (within big limit).Good x.1 q.begun.2),
          q.begun.3 ∙ ap big.tokens x.1 ∙ m.tokens x.0,
        ));
        never = λ s other after same good quiet e.
            q.never s (into other) after same (there_embeds other good)
            (begins_within (small.extends other) (big.extends (into other)) after (m.extends other) quiet)
            (e ∙ ap (λ l. l ++ after) (sym (m.tokens other)));
      }) r
