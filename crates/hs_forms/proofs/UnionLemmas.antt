-- Two forms that compete for the same tokens, a form before certain tokens, and one form as another.
use Rattle.std.proofs.Common.{◌≡◌, ℕ, zero, suc, ◌≤◌, Bool, true, false, List, [], ◌∷◌, ◌++◌, length, refl, sym, ap}
use Rattle.std.proofs.Common.{◌∙◌, subst, append_assoc, true≢false, arith, inl, inr, ◌⊎◌, length-append}
use Rattle.std.specs.Prelude.{not, min}
use Rattle.std.proofs.lemmas.List.{append-nil, append_cancel_left}
use Rattle.std.proofs.lemmas.Bool.{not-false}
use Rattle.hs_forms.specs.Reading.{Form, SameStart, begins, Reads, Refuses}
use Rattle.hs_forms.specs.Answers.{Rejects}
use Rattle.hs_forms.specs.Forms.{narrow, either}
use Rattle.hs_forms.specs.Productions.{Onto}
use Rattle.hs_forms.proofs.FormLemmas.{same_start_append, begins_within, begins_same}

module _ {K T : Type 0} (form : Form K T) (follow : K → Bool) (ends : (x : T) (t : K) → follow t ≡ true
    → form.extends x t ≡ false) where
  quiet_wide : (x : T) (after : List K) → begins (λ t. not (follow t)) after ≡ false →
      begins (form.extends x) after ≡ false
  quiet_wide x after q = begins_within (λ t. not (follow t)) (form.extends x) after
      (λ t e. ends x t (not-false (follow t) e)) q

  pub reads_narrow : (x : T) (rest : List K) → Reads form x rest → Reads (narrow form follow) x rest
  reads_narrow x rest r = record {
    good = r.good;
    only = λ s other after same good quiet e. r.only s other after same good (quiet_wide other after quiet) e;
  }

  pub refuses_narrow : (before bad : List K) → Refuses form before bad → Refuses (narrow form follow) before bad
  refuses_narrow before bad r = record {
    begun = r.begun;
    never = λ s other after same good quiet e. r.never s other after same good (quiet_wide other after quiet) e;
  }

  -- what was read is followed by another token
  pub narrow_missed : (x : T) (rest : List K) → Reads form x rest → begins (λ t. not (follow t)) rest ≡ true →
      Refuses (narrow form follow) (form.tokens x) rest
  narrow_missed x rest r missed = record {
    begun = ([], x, r.good, append-nil (form.tokens x));
    never = λ s other after same good quiet e.
        let found = r.only s other after same good (quiet_wide other after quiet) e in
        true≢false (sym missed ∙ sym (begins_same (λ t. not (follow t)) rest s same)
        ∙ ap (begins (λ t. not (follow t))) (sym found.1) ∙ quiet);
  }

module _ {K A B : Type 0} (a : Form K A) (b : Form K B) (f : A → B) (o : Onto a b f) where
  pub reads_onto : (x : A) (rest : List K) → Reads a x rest → Reads b (f x) rest
  reads_onto x rest r = record {
    good = o.good x r.good;
    only = λ s other after same good quiet e.
        let y = o.back other in
        let quiet' = begins_within (b.extends (f y.0)) (a.extends y.0) after (o.extends y.0)
        (subst (λ z. begins (b.extends z) after ≡ false) y.1 quiet) in
        let e' : a.tokens x ++ s ≡ a.tokens y.0 ++ after =
        ap (λ l. l ++ s) (sym (o.tokens x)) ∙ e ∙ ap (λ z. b.tokens z ++ after) y.1
        ∙ ap (λ l. l ++ after) (o.tokens y.0) in
        let found = r.only s y.0 after same (o.good_back y.0 (subst b.Good y.1 good)) quiet' e' in
        (y.1 ∙ ap f found.0, found.1);
  }

  pub refuses_onto : (before bad : List K) → Refuses a before bad → Refuses b before bad
  refuses_onto before bad r = record {
    begun = (r.begun.0, f r.begun.1, o.good r.begun.1 r.begun.2, r.begun.3 ∙ sym (o.tokens r.begun.1));
    never = λ s other after same good quiet e.
        let y = o.back other in
        let quiet' = begins_within (b.extends (f y.0)) (a.extends y.0) after (o.extends y.0)
        (subst (λ z. begins (b.extends z) after ≡ false) y.1 quiet) in
        r.never s y.0 after same (o.good_back y.0 (subst b.Good y.1 good)) quiet'
        (e ∙ ap (λ z. b.tokens z ++ after) y.1 ∙ ap (λ l. l ++ after) (o.tokens y.0));
  }

-- of two splits of one list the longer front goes on from the shorter one
pub splits : {K : Type 0} (a b c d : List K) → a ++ b ≡ c ++ d → length c ≤ length a →
    (more : List K) × (a ≡ c ++ more) × (d ≡ more ++ b)
splits a b [] d e le = (a, refl, sym e)
splits [] b (x ∷ c) d e le = absurd (omega arith)
splits (y ∷ a) b (x ∷ c) d e le =
    let tails : a ++ b ≡ c ++ d = cc in
    let found = splits a b c d tails (omega arith) in
    let heads : y ≡ x = cc in
    (found.0, ap (λ l. y ∷ l) found.1 ∙ ap (λ v. v ∷ (c ++ found.0)) heads, found.2)

module _ {K T U : Type 0} (one : Form K T) (two : Form K U) where
  -- a form that failed no later than a place has no tree that goes on there
  dead : (front here before bad s : List K) (u : U) (after : List K) → front ++ here ≡ before ++ bad →
      length before ≤ length front →
      Refuses two before bad → SameStart here s → two.Good u → begins (two.extends u) after ≡ false
      → front ++ s ≡ two.tokens u ++ after → ⊥
  dead front here before bad s u after same_list le r same good quiet e =
      let cut = splits front here before bad same_list le in
      let same' : SameStart bad (cut.0 ++ s) = subst (λ l. SameStart l (cut.0 ++ s)) (sym cut.2)
      (same_start_append cut.0 here s same) in
      r.never (cut.0 ++ s) u after same' good quiet
      (sym (append_assoc before cut.0 s) ∙ ap (λ l. l ++ s) (sym cut.1) ∙ e)

  -- both failed, the first no earlier
  pub refuses_first : (before bad before' bad' : List K) → Refuses one before bad → Refuses two before' bad' →
      before ++ bad ≡ before' ++ bad' →
      length before' ≤ length before → Refuses (either one two) before bad
  refuses_first before bad before' bad' r q same_list le = record {
    begun = (r.begun.0, inl r.begun.1, r.begun.2, r.begun.3);
    never = λ s other after same good quiet e. choose s other after same good quiet e;
  }
    where
      choose : (s : List K) (other : T ⊎ U) (after : List K) → SameStart bad s → (either one two).Good other →
          begins ((either one two).extends other) after ≡ false → before ++ s ≡ (either one two).tokens other ++ after
          → ⊥
      choose s (inl y) after same good quiet e = r.never s y after same good quiet e
      choose s (inr u) after same good quiet e = dead before bad before' bad' s u after same_list le q same good quiet e

-- A choice of which the second was read, and no tree of the first goes on where it ends.
pub reads_second : {K T U : Type 0} (one : Form K T) (two : Form K U) (x : U) (rest : List K) → Reads two x rest →
    ((s : List K) (y : T) (after : List K) → SameStart rest s → one.Good y → begins (one.extends y) after ≡ false →
    two.tokens x ++ s ≡ one.tokens y ++ after → ⊥) → Reads (either one two) (inr x) rest
reads_second {K} {T} {U} one two x rest r none = record {
  good = r.good;
  only = λ s other after same good quiet e. choose s other after same good quiet e;
}
  where
    choose : (s : List K) (other : T ⊎ U) (after : List K) → SameStart rest s → (either one two).Good other →
        begins ((either one two).extends other) after ≡ false
        → two.tokens x ++ s ≡ (either one two).tokens other ++ after →
        (other ≡ inr x) × (after ≡ s)
    choose s (inl y) after same good quiet e = absurd (none s y after same good quiet e)
    choose s (inr u) after same good quiet e = let found = r.only s u after same good quiet e in
        (ap inr found.0, found.1)

-- A choice of which the first was read, and no tree of the second goes on where it ends.
pub reads_one : {K T U : Type 0} (one : Form K T) (two : Form K U) (x : T) (rest : List K) → Reads one x rest →
    ((s : List K) (y : U) (after : List K) → SameStart rest s → two.Good y → begins (two.extends y) after ≡ false →
    one.tokens x ++ s ≡ two.tokens y ++ after → ⊥) → Reads (either one two) (inl x) rest
reads_one {K} {T} {U} one two x rest r none = record {
  good = r.good;
  only = λ s other after same good quiet e. choose s other after same good quiet e;
}
  where
    choose : (s : List K) (other : T ⊎ U) (after : List K) → SameStart rest s → (either one two).Good other →
        begins ((either one two).extends other) after ≡ false
        → one.tokens x ++ s ≡ (either one two).tokens other ++ after →
        (other ≡ inl x) × (after ≡ s)
    choose s (inl y) after same good quiet e = let found = r.only s y after same good quiet e in
        (ap inl found.0, found.1)
    choose s (inr u) after same good quiet e = absurd (none s u after same good quiet e)

pub refuses_one : {K T U : Type 0} (one : Form K T) (two : Form K U) (before bad : List K) → Refuses one before bad →
    ((s : List K) (y : U) (after : List K) → SameStart bad s → two.Good y → begins (two.extends y) after ≡ false →
    before ++ s ≡ two.tokens y ++ after → ⊥) → Refuses (either one two) before bad
refuses_one {K} {T} {U} one two before bad r none = record {
  begun = (r.begun.0, inl r.begun.1, r.begun.2, r.begun.3);
  never = λ s other after same good quiet e. choose s other after same good quiet e;
}
  where
    choose : (s : List K) (other : T ⊎ U) (after : List K) → SameStart bad s → (either one two).Good other →
        begins ((either one two).extends other) after ≡ false → before ++ s ≡ (either one two).tokens other ++ after → ⊥
    choose s (inl y) after same good quiet e = r.never s y after same good quiet e
    choose s (inr u) after same good quiet e = none s u after same good quiet e

abbrev swap : {A B : Type 0} → A ⊎ B → B ⊎ A
swap (inl a) = inr a
swap (inr b) = inl b

swapped : {K T U : Type 0} (one : Form K T) (two : Form K U) → Onto (either two one) (either one two) swap
swapped {K} {T} {U} one two = record {
  back = λ y. back y;
  tokens = λ x. tokens x;
  good = λ x. good x;
  good_back = λ x. good_back x;
  extends = λ x t. extends x t;
}
  where
    back : (y : T ⊎ U) → (x : U ⊎ T) × (y ≡ swap x)
    back (inl a) = (inr a, refl)
    back (inr b) = (inl b, refl)

    tokens : (x : U ⊎ T) → (either one two).tokens (swap x) ≡ (either two one).tokens x
    tokens (inl a) = refl
    tokens (inr b) = refl

    good : (x : U ⊎ T) → (either two one).Good x → (either one two).Good (swap x)
    good (inl a) h = h
    good (inr b) h = h

    good_back : (x : U ⊎ T) → (either one two).Good (swap x) → (either two one).Good x
    good_back (inl a) h = h
    good_back (inr b) h = h

    extends : (x : U ⊎ T) (t : K) → (either one two).extends (swap x) t ≡ false → (either two one).extends x t ≡ false
    extends (inl a) t h = h
    extends (inr b) t h = h

total : (a b : ℕ) → (a ≤ b) ⊎ (b ≤ a)
total zero b = inl (omega arith)
total (suc a) zero = inr (omega arith)
total (suc a) (suc b) = next (total a b)
  where
    next : (a ≤ b) ⊎ (b ≤ a) → (suc a ≤ suc b) ⊎ (suc b ≤ suc a)
    next (inl h) = inl (omega arith)
    next (inr h) = inr (omega arith)

-- Two refusals from one place: the choice is refused at the later.
pub rejects_later : {K T U : Type 0} (one : Form K T) (two : Form K U) (ts : List K) (l m : ℕ) → Rejects one ts l →
    Rejects two ts m →
    Rejects (either one two) ts (min l m)
rejects_later {K} {T} {U} one two ts l m r q = decide (total l m)
  where
    decide : (l ≤ m) ⊎ (m ≤ l) → Rejects (either one two) ts (min l m)
    decide (inl le) = record {
      before = r.before;
      bad = r.bad;
      split = r.split;
      left_is = omega (arith, r.left_is);
      refuses = refuses_first one two r.before r.bad q.before q.bad r.refuses q.refuses (sym r.split ∙ q.split)
          (omega (
            arith,
            r.left_is,
            q.left_is,
            ap length r.split,
            ap length q.split,
            length-append r.before r.bad,
            length-append q.before q.bad,
          ));
    }
    decide (inr le) = record {
      before = q.before;
      bad = q.bad;
      split = q.split;
      left_is = omega (arith, q.left_is);
      refuses = refuses_onto (either two one) (either one two) swap (swapped one two) q.before q.bad
          (refuses_first two one q.before q.bad r.before r.bad q.refuses r.refuses (sym q.split ∙ r.split)
          (omega (
            arith,
            r.left_is,
            q.left_is,
            ap length r.split,
            ap length q.split,
            length-append r.before r.bad,
            length-append q.before q.bad,
          )));
    }

-- A refusal stands behind tokens that begin a tree.
pub refuses_later : {K T : Type 0} (form : Form K T) (before bad front : List K) (k : K) (tail more : List K) (x : T) →
    Refuses form before bad →
    before ++ bad ≡ front ++ (k ∷ tail) → form.Good x → form.tokens x ≡ front ++ (k ∷ more)
    → (rest : List K) × (before ≡ front ++ (k ∷ rest))
refuses_later {K} form before bad front k tail more x r split good spelled =
    decide (total (length before) (length front))
  where
    same_behind : (d bad : List K) → bad ≡ d ++ (k ∷ tail) → SameStart bad (d ++ (k ∷ more))
    same_behind [] bad e = subst (λ l. SameStart l (k ∷ more)) (sym e) (more, refl)
    same_behind (y ∷ d) bad e = subst (λ l. SameStart l (y ∷ (d ++ (k ∷ more)))) (sym e) (d ++ (k ∷ more), refl)

    long : (m : List K) → front ++ (k ∷ tail) ≡ before ++ bad → before ≡ front ++ m → (m ≡ [] → ⊥) →
        (rest : List K) × (before ≡ front ++ (k ∷ rest))
    long [] e is some = absurd (some refl)
    long (y ∷ m) e is some =
        let both : k ∷ tail ≡ y ∷ (m ++ bad) =
        append_cancel_left front (k ∷ tail) (y ∷ (m ++ bad)) (e ∙ ap (λ l. l ++ bad) is
        ∙ append_assoc front (y ∷ m) bad) in
        let first : y ≡ k = cc in
        (m, is ∙ ap (λ z. front ++ (z ∷ m)) first)

    decide : (length before ≤ length front) ⊎ (length front ≤ length before) →
        (rest : List K) × (before ≡ front ++ (k ∷ rest))
    decide (inl le) =
        let cut = splits front (k ∷ tail) before bad (sym split) le in
        absurd (r.never (cut.0 ++ (k ∷ more)) x [] (same_behind cut.0 bad cut.2) good refl
        (sym (append_assoc before cut.0 (k ∷ more)) ∙ ap (λ l. l ++ (k ∷ more)) (sym cut.1) ∙ sym spelled
        ∙ sym (append-nil (form.tokens x))))
    decide (inr le) =
        let cut = splits before bad front (k ∷ tail) split le in
        long cut.0 (sym split) cut.1
        (λ none.
        let e : before ≡ front = cut.1 ∙ ap (λ l. front ++ l) none ∙ append-nil front in
        r.never (k ∷ more) x [] (same_behind [] bad (sym (cut.2 ∙ ap (λ l. l ++ bad) none))) good refl
        (ap (λ l. l ++ (k ∷ more)) e ∙ sym spelled ∙ sym (append-nil (form.tokens x))))

-- unions of forms, for readers of expressions and declarations
pub ruleset union_laws = (
  reads_narrow,
  refuses_narrow,
  narrow_missed,
  reads_second,
  reads_one,
  refuses_one,
  rejects_later,
)
