-- Kinds of trees within another: told by their first tokens, or two that compete for the same tokens.
use Rattle.std.proofs.Common.{◌≡◌, ℕ, Bool, true, false, List, [], ◌∷◌, ◌++◌, length, refl, sym, ap, ◌∙◌, subst}
use Rattle.std.proofs.Common.{true≢false, inl, inr, ◌⊎◌}
use Rattle.std.specs.Prelude.{Option, min}
use Rattle.std.proofs.lemmas.List.{append-nil}
use Rattle.hs_forms.specs.Reading.{Form, SameStart, begins, Reads, Refuses}
use Rattle.hs_forms.specs.Limits.{Within}
use Rattle.hs_forms.specs.Answers.{Rejects}
use Rattle.hs_forms.specs.Forms.{either}
use Rattle.hs_forms.specs.declared.fault.Fault.{Fault}
use Rattle.hs_forms.proofs.FormLemmas.{begins_within, begins_same}
use Rattle.hs_forms.proofs.StateLemmas.{fails_after}
use Rattle.hs_forms.proofs.UnionLemmas.{rejects_later}
use Rattle.hs_expression_forms.specs.Trees.{Trees, within, Took, Failed}
use Rattle.hs_expression_forms.proofs.TreesLemmas.{Stays, reads_same, refuses_same}

-- Of a kind of trees those that begin with certain tokens are made of the well formed trees of another.
pub record Joins {K P T : Type 0} (whole : Trees K T) (part : Trees K P) (make : P → T) (test : List K → Bool) :
    Type 0 where
  pub tokens : (p : P) → whole.tokens (make p) ≡ part.tokens p
  pub formed : (p : P) → part.formed p ≡ true → whole.formed (make p) ≡ true
  pub deep : (p : P) → whole.deep (make p) ≡ part.deep p
  pub extends : (p : P) (k : K) → whole.extends (make p) k ≡ false → part.extends p k ≡ false
  pub starts : (p : P) (after : List K) → part.formed p ≡ true → test (part.tokens p ++ after) ≡ true
  pub only : (x : T) (after : List K) → whole.formed x ≡ true → begins (whole.extends x) after ≡ false →
      test (whole.tokens x ++ after) ≡ true → (p : P) × (x ≡ make p) × (part.formed p ≡ true)

module _ {K P T : Type 0} (whole : Trees K T) (part : Trees K P) (make : P → T) (test : List K → Bool)
    (j : Joins whole part make test) (limit : Option ℕ) where
  there : (p : P) → (within part limit).Good p → (within whole limit).Good (make p)
  there p g = (j.formed p g.0, subst (Within limit) (sym (j.deep p)) g.1)

  back : (x : T) (p : P) → x ≡ make p → part.formed p ≡ true → (within whole limit).Good x →
      (within part limit).Good p
  back x p is h g = (h, subst (Within limit) (ap whole.deep is ∙ j.deep p) g.1)

  quiet_part : (x : T) (p : P) (after : List K) → x ≡ make p → begins (whole.extends x) after ≡ false →
      begins (part.extends p) after ≡ false
  quiet_part x p after is q =
      begins_within (whole.extends (make p)) (part.extends p) after (j.extends p)
      (subst (λ o. begins (whole.extends o) after ≡ false) is q)

  pub joined_took : (ts : List K) (p : P) (rest : List K) (m : ℕ) → Took part limit ts p rest m →
      Took whole limit ts (make p) rest m
  joined_took ts p rest m acc = record {
    spelled = acc.spelled ∙ ap (λ l. l ++ rest) (sym (j.tokens p));
    reads = record {
      good = there p acc.reads.good;
      only = λ s other after same g quiet e.
          let e' : part.tokens p ++ s ≡ whole.tokens other ++ after = ap (λ l. l ++ s) (sym (j.tokens p)) ∙ e in
          let q = j.only other after g.0 quiet (ap test (sym e') ∙ j.starts p s acc.reads.good.0) in
          let found = acc.reads.only s q.0 after same (back other q.0 q.1 q.2 g) (quiet_part other q.0 after q.1 quiet)
          (e' ∙ ap (λ o. whole.tokens o ++ after) q.1 ∙ ap (λ l. l ++ after) (j.tokens q.0)) in
          (q.1 ∙ ap make found.0, found.1);
    };
    measured_is = acc.measured_is ∙ sym (j.deep p);
    room = acc.room;
  }

  pub joined_failed : (ts : List K) (e : Fault) → Stays test ts → Failed part limit ts e → Failed whole limit ts e
  joined_failed ts e stays r =
      fails_after (within whole limit) (within part limit) [] ts ts e refl
      (λ before bad split q. record {
        begun = (q.begun.0, make q.begun.1, there q.begun.1 q.begun.2, q.begun.3 ∙ sym (j.tokens q.begun.1));
        never = λ s other after same g quiet e.
            let o = j.only other after g.0 quiet (ap test (sym e) ∙ stays before bad s split same) in
            q.never s o.0 after same (back other o.0 o.1 o.2 g) (quiet_part other o.0 after o.1 quiet)
            (e ∙ ap (λ y. whole.tokens y ++ after) o.1 ∙ ap (λ l. l ++ after) (j.tokens o.0));
      }) r

pub data Side {K A B T : Type 0} (one : Trees K A) (two : Trees K B) (f : A → T) (g : B → T) (x : T) : Type 0 where
  of_one : (a : A) → x ≡ f a → one.formed a ≡ true → Side one two f g x
  of_two : (b : B) → x ≡ g b → two.formed b ≡ true → Side one two f g x

-- A kind of trees is made of two others.
pub record Merges {K A B T : Type 0} (one : Trees K A) (two : Trees K B) (whole : Trees K T) (f : A → T) (g : B → T) :
    Type 0 where
  pub tokens_one : (a : A) → whole.tokens (f a) ≡ one.tokens a
  pub tokens_two : (b : B) → whole.tokens (g b) ≡ two.tokens b
  pub formed_one : (a : A) → one.formed a ≡ true → whole.formed (f a) ≡ true
  pub formed_two : (b : B) → two.formed b ≡ true → whole.formed (g b) ≡ true
  pub deep_one : (a : A) → whole.deep (f a) ≡ one.deep a
  pub deep_two : (b : B) → whole.deep (g b) ≡ two.deep b
  pub extends_one : (a : A) (k : K) → whole.extends (f a) k ≡ false → one.extends a k ≡ false
  pub extends_two : (b : B) (k : K) → whole.extends (g b) k ≡ false → two.extends b k ≡ false
  pub cases : (x : T) → whole.formed x ≡ true → Side one two f g x

-- what one kind read is no tree of the other
abbrev pub Apart : {K A B : Type 0} → Trees K A → Trees K B → A → List K → Type 0
Apart {K} {A} {B} one two a rest =
    (s : List K) (b : B) (after : List K) → SameStart rest s → two.formed b ≡ true →
    begins (two.extends b) after ≡ false → one.tokens a ++ s ≡ two.tokens b ++ after → ⊥

module _ {K A B T : Type 0} (one : Trees K A) (two : Trees K B) (whole : Trees K T) (f : A → T) (g : B → T)
    (m : Merges one two whole f g) (limit : Option ℕ) where
  there_one : (a : A) → (within one limit).Good a → (within whole limit).Good (f a)
  there_one a h = (m.formed_one a h.0, subst (Within limit) (sym (m.deep_one a)) h.1)

  there_two : (b : B) → (within two limit).Good b → (within whole limit).Good (g b)
  there_two b h = (m.formed_two b h.0, subst (Within limit) (sym (m.deep_two b)) h.1)

  back_one : (x : T) (a : A) → x ≡ f a → one.formed a ≡ true → (within whole limit).Good x →
      (within one limit).Good a
  back_one x a is h good = (h, subst (Within limit) (ap whole.deep is ∙ m.deep_one a) good.1)

  back_two : (x : T) (b : B) → x ≡ g b → two.formed b ≡ true → (within whole limit).Good x →
      (within two limit).Good b
  back_two x b is h good = (h, subst (Within limit) (ap whole.deep is ∙ m.deep_two b) good.1)

  quiet_one : (x : T) (a : A) (after : List K) → x ≡ f a → begins (whole.extends x) after ≡ false →
      begins (one.extends a) after ≡ false
  quiet_one x a after is q =
      begins_within (whole.extends (f a)) (one.extends a) after (m.extends_one a)
      (subst (λ o. begins (whole.extends o) after ≡ false) is q)

  quiet_two : (x : T) (b : B) (after : List K) → x ≡ g b → begins (whole.extends x) after ≡ false →
      begins (two.extends b) after ≡ false
  quiet_two x b after is q =
      begins_within (whole.extends (g b)) (two.extends b) after (m.extends_two b)
      (subst (λ o. begins (whole.extends o) after ≡ false) is q)

  as_one : (l : List K) (x : T) (a : A) (after : List K) → x ≡ f a → l ≡ whole.tokens x ++ after →
      l ≡ one.tokens a ++ after
  as_one l x a after is e =
      e ∙ ap (λ o. whole.tokens o ++ after) is ∙ ap (λ l. l ++ after) (m.tokens_one a)

  as_two : (l : List K) (x : T) (b : B) (after : List K) → x ≡ g b → l ≡ whole.tokens x ++ after →
      l ≡ two.tokens b ++ after
  as_two l x b after is e =
      e ∙ ap (λ o. whole.tokens o ++ after) is ∙ ap (λ l. l ++ after) (m.tokens_two b)

  pub merged_one : (ts : List K) (a : A) (rest : List K) (n : ℕ) → Took one limit ts a rest n →
      Apart one two a rest → Took whole limit ts (f a) rest n
  merged_one ts a rest n acc apart = record {
    spelled = acc.spelled ∙ ap (λ l. l ++ rest) (sym (m.tokens_one a));
    reads = record {
      good = there_one a acc.reads.good;
      only = λ s other after same good quiet e.
          by s other after same good quiet (ap (λ l. l ++ s) (sym (m.tokens_one a)) ∙ e) (m.cases other good.0);
    };
    measured_is = acc.measured_is ∙ sym (m.deep_one a);
    room = acc.room;
  }
    where
      by : (s : List K) (other : T) (after : List K) → SameStart rest s → (within whole limit).Good other →
          begins (whole.extends other) after ≡ false → one.tokens a ++ s ≡ whole.tokens other ++ after →
          Side one two f g other → (other ≡ f a) × (after ≡ s)
      by s other after same good quiet e (of_one a' is h) =
          let found = acc.reads.only s a' after same (back_one other a' is h good) (quiet_one other a' after is quiet)
          (as_one (one.tokens a ++ s) other a' after is e) in
          (is ∙ ap f found.0, found.1)
      by s other after same good quiet e (of_two b is h) =
          absurd (apart s b after same h (quiet_two other b after is quiet)
          (as_two (one.tokens a ++ s) other b after is e))

  pub merged_two : (ts : List K) (b : B) (rest : List K) (n : ℕ) → Took two limit ts b rest n →
      Apart two one b rest → Took whole limit ts (g b) rest n
  merged_two ts b rest n acc apart = record {
    spelled = acc.spelled ∙ ap (λ l. l ++ rest) (sym (m.tokens_two b));
    reads = record {
      good = there_two b acc.reads.good;
      only = λ s other after same good quiet e.
          by s other after same good quiet (ap (λ l. l ++ s) (sym (m.tokens_two b)) ∙ e) (m.cases other good.0);
    };
    measured_is = acc.measured_is ∙ sym (m.deep_two b);
    room = acc.room;
  }
    where
      by : (s : List K) (other : T) (after : List K) → SameStart rest s → (within whole limit).Good other →
          begins (whole.extends other) after ≡ false → two.tokens b ++ s ≡ whole.tokens other ++ after →
          Side one two f g other → (other ≡ g b) × (after ≡ s)
      by s other after same good quiet e (of_one a is h) =
          absurd (apart s a after same h (quiet_one other a after is quiet)
          (as_one (two.tokens b ++ s) other a after is e))
      by s other after same good quiet e (of_two b' is h) =
          let found = acc.reads.only s b' after same (back_two other b' is h good) (quiet_two other b' after is quiet)
          (as_two (two.tokens b ++ s) other b' after is e) in
          (is ∙ ap g found.0, found.1)

  -- both failed: no tree goes past the later place
  pub merged_fails : (ts : List K) (l n : ℕ) → Rejects (within one limit) ts l → Rejects (within two limit) ts n →
      Rejects (within whole limit) ts (min l n)
  merged_fails ts l n r q = from (rejects_later (within one limit) (within two limit) ts l n r q)
    where
      begun_of : (before more : List K) (x : A ⊎ B) → (either (within one limit) (within two limit)).Good x →
          before ++ more ≡ (either (within one limit) (within two limit)).tokens x →
          (more : List K) × (tree : T) × (within whole limit).Good tree × (before ++ more ≡ whole.tokens tree)
      begun_of before more (inl a) h e = (more, f a, there_one a h, e ∙ sym (m.tokens_one a))
      begun_of before more (inr b) h e = (more, g b, there_two b h, e ∙ sym (m.tokens_two b))

      never_of : (before bad : List K) → Refuses (either (within one limit) (within two limit)) before bad →
          (s : List K) (other : T) (after : List K) → SameStart bad s → (within whole limit).Good other →
          begins (whole.extends other) after ≡ false → before ++ s ≡ whole.tokens other ++ after →
          Side one two f g other → ⊥
      never_of before bad x s other after same good quiet e (of_one a is h) =
          x.never s (inl a) after same (back_one other a is h good) (quiet_one other a after is quiet)
          (as_one (before ++ s) other a after is e)
      never_of before bad x s other after same good quiet e (of_two b is h) =
          x.never s (inr b) after same (back_two other b is h good) (quiet_two other b after is quiet)
          (as_two (before ++ s) other b after is e)

      from : Rejects (either (within one limit) (within two limit)) ts (min l n) →
          Rejects (within whole limit) ts (min l n)
      from x = record {
        before = x.before;
        bad = x.bad;
        split = x.split;
        left_is = x.left_is;
        refuses = record {
          begun = begun_of x.before x.refuses.begun.0 x.refuses.begun.1 x.refuses.begun.2 x.refuses.begun.3;
          never = λ s other after same good quiet e.
              never_of x.before x.bad x.refuses s other after same good quiet e (m.cases other good.0);
        };
      }

-- the same trees, of which more tokens are said to go on
module _ {K T : Type 0} (a b : Trees K T) (tokens : (x : T) → b.tokens x ≡ a.tokens x)
    (formed : (x : T) → b.formed x ≡ a.formed x) (deep : (x : T) → b.deep x ≡ a.deep x)
    (extends : (x : T) (k : K) → b.extends x k ≡ false → a.extends x k ≡ false) (limit : Option ℕ) where
  wider_there : (x : T) → (within a limit).Good x → (within b limit).Good x
  wider_there x g = (formed x ∙ g.0, subst (Within limit) (sym (deep x)) g.1)

  wider_back : (x : T) → (within b limit).Good x → (within a limit).Good x
  wider_back x g = (sym (formed x) ∙ g.0, subst (Within limit) (deep x) g.1)

  pub wider_took : (ts : List K) (x : T) (rest : List K) (m : ℕ) → Took a limit ts x rest m →
      Took b limit ts x rest m
  wider_took ts x rest m acc = record {
    spelled = acc.spelled ∙ ap (λ l. l ++ rest) (sym (tokens x));
    reads = reads_same (within a limit) (within b limit) tokens wider_there wider_back extends x rest acc.reads;
    measured_is = acc.measured_is ∙ sym (deep x);
    room = acc.room;
  }

  pub wider_failed : (ts : List K) (e : Fault) → Failed a limit ts e → Failed b limit ts e
  wider_failed ts e r =
      fails_after (within b limit) (within a limit) [] ts ts e refl
      (λ before bad split q. refuses_same (within a limit) (within b limit) tokens wider_there wider_back extends
      before bad q) r

-- A tree was read, and a token stands behind it that can stand behind no such tree.
pub stands_behind : {K T : Type 0} (a : Trees K T) (goes : K → Bool) (all : (x : T) (k : K) → a.extends x k ≡ goes k)
    (limit : Option ℕ) (ts : List K) (x : T) (rest : List K) (m : ℕ) → Took a limit ts x rest m →
    begins goes rest ≡ true → Rejects (within a limit) ts (length rest)
stands_behind {K} {T} a goes all limit ts x rest m acc on = record {
  before = a.tokens x;
  bad = rest;
  split = acc.spelled;
  left_is = refl;
  refuses = record {
    begun = ([], x, acc.reads.good, append-nil (a.tokens x));
    never = λ s other after same good quiet e.
        let found = acc.reads.only s other after same good quiet e in
        true≢false (sym on ∙ sym (begins_same goes rest s same) ∙ ap (begins goes) (sym found.1)
        ∙ off other after quiet);
  };
}
  where
    off : (other : T) (after : List K) → begins (a.extends other) after ≡ false → begins goes after ≡ false
    off other [] q = refl
    off other (k ∷ after) q = sym (all other k) ∙ q
