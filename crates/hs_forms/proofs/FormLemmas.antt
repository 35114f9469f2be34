-- The front of a list of tokens, and forms behind a token, before one, and in a row.
use Rattle.std.proofs.Common.{◌≡◌, Bool, true, false, List, [], ◌∷◌, ◌++◌, refl, sym, ap, ◌∙◌, subst, append_assoc}
use Rattle.std.proofs.Common.{true≢false}
use Rattle.hs_forms.specs.Reading.{Form, SameStart, begins, Reads, Refuses}
use Rattle.hs_forms.specs.Forms.{behind, closed, closed_if, Completes, pair, CompletesPair}

pub same_start_append : {K : Type 0} → (xs ts s : List K) → SameStart ts s → SameStart (xs ++ ts) (xs ++ s)
same_start_append [] ts s h = h
same_start_append (x ∷ xs) ts s h = (xs ++ s, refl)

pub same_start_self : {K : Type 0} → (ts : List K) → SameStart ts ts
same_start_self [] = refl
same_start_self (t ∷ ts) = (ts, refl)

pub begins_append : {K : Type 0} → (f : K → Bool) (xs ys : List K) → begins f xs ≡ true → begins f (xs ++ ys) ≡ true
begins_append f [] ys h = absurd (true≢false (sym h))
begins_append f (x ∷ xs) ys h = h

pub begins_apart : {K : Type 0} → (f e : K → Bool) (xs ys : List K) → ((t : K) → f t ≡ true → e t ≡ false) →
    begins f xs ≡ true →
    begins e (xs ++ ys) ≡ false
begins_apart f e [] ys apart h = absurd (true≢false (sym h))
begins_apart f e (x ∷ xs) ys apart h = apart x h

pub begins_within : {K : Type 0} → (f e : K → Bool) (xs : List K) → ((t : K) → f t ≡ false → e t ≡ false) →
    begins f xs ≡ false →
    begins e xs ≡ false
begins_within f e [] within h = refl
begins_within f e (x ∷ xs) within h = within x h

pub begins_same : {K : Type 0} → (f : K → Bool) (ts s : List K) → SameStart ts s → begins f s ≡ begins f ts
begins_same f [] s h = ap (begins f) h
begins_same f (t ∷ ts) s h = ap (begins f) h.1

-- lists alike behind one token
pub uncons : {K : Type 0} (t : K) (xs ys : List K) → t ∷ xs ≡ t ∷ ys → xs ≡ ys
uncons t xs ys e = cc

pub reads_behind : {K T : Type 0} (t : K) (form : Form K T) (x : T) (rest : List K) → Reads form x rest →
    Reads (behind t form) x rest
reads_behind t form x rest r = record {
  good = r.good;
  only = λ s other after same good quiet e. r.only s other after same good quiet (uncons t _ _ e);
}

pub refuses_behind : {K T : Type 0} (t : K) (form : Form K T) (before bad : List K) → Refuses form before bad →
    Refuses (behind t form) (t ∷ before) bad
refuses_behind t form before bad r = record {
  begun = (r.begun.0, r.begun.1, r.begun.2, ap (λ xs. t ∷ xs) r.begun.3);
  never = λ s other after same good quiet e. r.never s other after same good quiet (uncons t _ _ e);
}

module _ {K T : Type 0} (form : Form K T) (t : K) (ends : (x : T) → form.extends x t ≡ false) where
  regroup_closed : (x : T) (s : List K) → (form.tokens x ++ t ∷ []) ++ s ≡ form.tokens x ++ (t ∷ s)
  regroup_closed x s = append_assoc (form.tokens x) (t ∷ []) s

  pub reads_closed : (x : T) (rest : List K) → Reads form x (t ∷ rest) → Reads (closed form t) x rest
  reads_closed x rest r = record {
    good = r.good;
    only = λ s other after same good quiet e.
        let found = r.only (t ∷ s) other (t ∷ after) (s, refl) good (ends other) (sym (regroup_closed x s) ∙ e
        ∙ regroup_closed other after) in
        (found.0, uncons t _ _ found.1);
  }

  pub refuses_closed : (before bad : List K) → Refuses form before bad → Refuses (closed form t) before bad
  refuses_closed before bad r = record {
    begun = (
      r.begun.0 ++ t ∷ [],
      r.begun.1,
      r.begun.2,
      sym (append_assoc before r.begun.0 (t ∷ []))
          ∙ ap (λ l. l ++ t ∷ []) r.begun.3,
    );
    never = λ s other after same good quiet e. r.never s other (t ∷ after) same good (ends other) (e
        ∙ regroup_closed other after);
  }

-- a tree was read, and its closing token does not follow
pub closing_missed : {K T : Type 0} (form : Form K T) (t : K) (ends : (x : T) → form.extends x t ≡ false) (is_t : K →
    Bool) → is_t t ≡ true →
    (x : T) (rest : List K) → Reads form x rest → begins is_t rest ≡ false
    → Refuses (closed form t) (form.tokens x) rest
closing_missed form t ends is_t is x rest r missed = record {
  begun = (t ∷ [], x, r.good, refl);
  never = λ s other after same good quiet e.
      let found = r.only s other (t ∷ after) same good (ends other) (e
      ∙ append_assoc (form.tokens other) (t ∷ []) after) in
      true≢false (sym is ∙ ap (begins is_t) found.1 ∙ begins_same is_t rest s same ∙ missed);
}

starts_alike : {K : Type 0} (rest s after : List K) (t : K) → SameStart rest s → t ∷ after ≡ s →
    (more : List K) × (rest ≡ t ∷ more)
starts_alike [] s after t same e = absurd cc
starts_alike (k ∷ ks) s after t same e =
    let at : k ∷ same.0 ≡ t ∷ after = sym same.1 ∙ sym e in
    let head : k ≡ t = cc in
    (ks, ap (λ v. v ∷ ks) head)

-- a closing token that extends none of the trees that fit
module _ {K T : Type 0} (form : Form K T) (Fits : T → Type 0) (t : K)
    (ends : (x : T) → Fits x → form.extends x t ≡ false) where
  pub reads_closed_if : (x : T) (rest : List K) → Reads form x (t ∷ rest) → Fits x →
      Reads (closed_if form Fits t) x rest
  reads_closed_if x rest r fits = record {
    good = (r.good, fits);
    only = λ s other after same good quiet e.
        let found = r.only (t ∷ s) other (t ∷ after) (s, refl) good.0 (ends other good.1)
        (sym (append_assoc (form.tokens x) (t ∷ []) s) ∙ e ∙ append_assoc (form.tokens other) (t ∷ []) after) in
        (found.0, uncons t _ _ found.1);
  }

  pub refuses_closed_if : Completes form Fits → (before bad : List K) → Refuses form before bad →
      Refuses (closed_if form Fits t) before bad
  refuses_closed_if completes before bad r =
      let c = completes r.begun.1 r.begun.2 in
      record {
        begun = (
          r.begun.0 ++ (c.0 ++ t ∷ []),
          c.1,
          (c.2, c.3),
          sym (append_assoc before r.begun.0 (c.0 ++ t ∷ [])) ∙ ap (λ l. l ++ (c.0 ++ t ∷ [])) r.begun.3
              ∙ sym (append_assoc (form.tokens r.begun.1) c.0 (t ∷ [])) ∙ ap (λ l. l ++ t ∷ []) c.4,
        );
        never = λ s other after same good quiet e.
            r.never s other (t ∷ after) same good.0 (ends other good.1) (e
            ∙ append_assoc (form.tokens other) (t ∷ []) after);
      }

  -- a tree was read, and the token does not stand there, or may not close it
  pub closed_if_missed : Completes form Fits → (x : T) (rest : List K) → Reads form x rest →
      ((more : List K) → rest ≡ t ∷ more → Fits x → ⊥) → Refuses (closed_if form Fits t) (form.tokens x) rest
  closed_if_missed completes x rest r missed =
      let c = completes x r.good in
      record {
        begun = (
          c.0 ++ t ∷ [],
          c.1,
          (c.2, c.3),
          sym (append_assoc (form.tokens x) c.0 (t ∷ [])) ∙ ap (λ l. l ++ t ∷ []) c.4,
        );
        never = λ s other after same good quiet e.
            let found = r.only s other (t ∷ after) same good.0 (ends other good.1)
            (e ∙ append_assoc (form.tokens other) (t ∷ []) after) in
            let at = starts_alike rest s after t same found.1 in
            missed at.0 at.1 (subst Fits found.0 good.1);
      }

-- two forms in a row, where the tokens that begin the second extend no tree of the first that it fits
module _ {K T U : Type 0} (one : Form K T) (two : Form K U) (Fits : T → U → Type 0) (starter : K → Bool)
    (starts : (u : U) → begins starter (two.tokens u) ≡ true)
    (apart : (x : T) (u : U) (t : K) → Fits x u → starter t ≡ true → one.extends x t ≡ false) where
  quiet_one : (x : T) (u : U) (after : List K) → Fits x u → begins (one.extends x) (two.tokens u ++ after) ≡ false
  quiet_one x u after fits =
      begins_apart starter (one.extends x) (two.tokens u) after (λ t h. apart x u t fits h) (starts u)

  pub reads_pair : (x : T) (here : List K) (u : U) (rest : List K) → Reads one x here → here ≡ two.tokens u ++ rest →
      Reads two u rest → Fits x u → Reads (pair one two Fits) (x, u) rest
  reads_pair x here u rest r at q fits = record {
    good = (r.good, q.good, fits);
    only = λ s other after same good quiet e.
        let same' : SameStart here (two.tokens u ++ s) =
        subst (λ l. SameStart l (two.tokens u ++ s)) (sym at) (same_start_append (two.tokens u) rest s same) in
        let found = r.only (two.tokens u ++ s) other.0 (two.tokens other.1 ++ after) same' good.0
        (quiet_one other.0 other.1 after good.2)
        (sym (append_assoc (one.tokens x) (two.tokens u) s) ∙ e
        ∙ append_assoc (one.tokens other.0) (two.tokens other.1) after) in
        let next = q.only s other.1 after same good.1 quiet (sym found.1) in
        let whole : other ≡ (x, u) = λ i. (found.0 i, next.0 i) in
        (whole, next.1);
  }

  -- each tree of the first fits a least one of the second
  pub completes_pair : (least : U) → ((x : T) → one.Good x → two.Good least × Fits x least) → CompletesPair one two Fits
  completes_pair least fits x good = (two.tokens least, x, least, good, (fits x good).0, (fits x good).1, refl)

  pub pair_first : CompletesPair one two Fits → (before bad : List K) → Refuses one before bad →
      Refuses (pair one two Fits) before bad
  pair_first completes before bad r =
      let c = completes r.begun.1 r.begun.2 in
      record {
        begun = (
          r.begun.0 ++ c.0,
          (c.1, c.2),
          (c.3, c.4, c.5),
          sym (append_assoc before r.begun.0 c.0) ∙ ap (λ l. l ++ c.0) r.begun.3 ∙ c.6,
        );
        never = λ s other after same good quiet e.
            r.never s other.0 (two.tokens other.1 ++ after) same good.0 (quiet_one other.0 other.1 after good.2)
            (e ∙ append_assoc (one.tokens other.0) (two.tokens other.1) after);
      }

  pub pair_second : (x : T) (here before bad : List K) → Reads one x here → here ≡ before ++ bad →
      Refuses two before bad →
      ((u : U) → two.Good u → Fits x u) → Refuses (pair one two Fits) (one.tokens x ++ before) bad
  pair_second x here before bad r at q fits = record {
    begun = (
      q.begun.0,
      (x, q.begun.1),
      (r.good, q.begun.2, fits q.begun.1 q.begun.2),
      append_assoc (one.tokens x) before q.begun.0 ∙ ap (λ l. one.tokens x ++ l) q.begun.3,
    );
    never = λ s other after same good quiet e.
        let same' : SameStart here (before ++ s) =
        subst (λ l. SameStart l (before ++ s)) (sym at) (same_start_append before bad s same) in
        let found = r.only (before ++ s) other.0 (two.tokens other.1 ++ after) same' good.0
        (quiet_one other.0 other.1 after good.2)
        (sym (append_assoc (one.tokens x) before s) ∙ e
        ∙ append_assoc (one.tokens other.0) (two.tokens other.1) after) in
        q.never s other.1 after same good.1 quiet (sym found.1);
  }

  -- the first was read, and no second that fits it stands there
  pub pair_missed : CompletesPair one two Fits → (x : T) (here : List K) → Reads one x here →
      ((s : List K) (u : U) (after : List K) → SameStart here s → two.Good u → Fits x u → s ≡ two.tokens u ++ after
      → ⊥) →
      Refuses (pair one two Fits) (one.tokens x) here
  pair_missed completes x here r missed =
      let c = completes x r.good in
      record {
        begun = (c.0, (c.1, c.2), (c.3, c.4, c.5), c.6);
        never = λ s other after same good quiet e.
            let found = r.only s other.0 (two.tokens other.1 ++ after) same good.0
            (quiet_one other.0 other.1 after good.2)
            (e ∙ append_assoc (one.tokens other.0) (two.tokens other.1) after) in
            missed s other.1 after same good.1 (subst (λ y. Fits y other.1) found.0 good.2) (sym found.1);
      }

-- what is read among many trees is read among fewer
pub reads_fewer : {K T : Type 0} (big small : Form K T) → ((x : T) → small.tokens x ≡ big.tokens x) →
    ((x : T) → small.Good x → big.Good x) →
    ((x : T) (k : K) → small.Good x → small.extends x k ≡ false → big.extends x k ≡ false) →
    (x : T) (rest : List K) → Reads big x rest → small.Good x → Reads small x rest
reads_fewer big small tokens good extends x rest r g = record {
  good = g;
  only = λ s other after same fits quiet e.
      r.only s other after same (good other fits)
      (begins_within (small.extends other) (big.extends other) after (λ k q. extends other k fits q) quiet)
      (ap (λ l. l ++ s) (sym (tokens x)) ∙ e ∙ ap (λ l. l ++ after) (tokens other));
}

-- closing tokens and forms of fewer trees, for readers of expressions and declarations
pub ruleset closing_laws = (reads_closed_if, refuses_closed_if, closed_if_missed, pair_missed, reads_fewer)
