-- The loop of the reader of lists in round brackets: what is known before each part, and what each way out answers.
use Rattle.std.proofs.Common.{◌≡◌, ℕ, Bool, true, false, List, [], ◌∷◌, ◌++◌, length, refl, sym, ap, ◌∙◌, subst}
use Rattle.std.proofs.Common.{append_assoc, arith, length-append, true≢false}
use Rattle.std.specs.Prelude.{flat_map, map}
use Rattle.std.proofs.lemmas.List.{append-nil}
use Rattle.hs_forms.specs.Reading.{SameStart, begins, Reads, Refuses}
use Rattle.hs_forms.specs.Limits.{all_of}
use Rattle.hs_forms.specs.Answers.{Accepts, Rejects, Fails}
use Rattle.hs_forms.specs.declared.fault.Fault.{Fault}
use Rattle.hs_forms.proofs.FormLemmas.{same_start_append, begins_same, begins_append}
use Rattle.hs_forms.proofs.LimitLemmas.{all_here, all_more}
use Rattle.hs_forms.proofs.StateLemmas.{fails_after}
use Rattle.hs_tokens.specs.Terminals.{is_comma, is_right_paren}
use Rattle.hs_tokens.specs.declared.terminal.Terminal.TheVariants as t
use Rattle.hs_headers.specs.Lists.{Ts, Element, element_form, more_tokens, tail_tokens, listed_form}

-- parts with the comma behind each
abbrev pub fronts : {X : Type 0} → Element X → List X → Ts
fronts e xs = flat_map (λ x. e.tokens x ++ t.Comma ∷ []) xs

abbrev pub some : {X : Type 0} → List X → Bool
some [] = false
some (x ∷ xs) = true

some_more : {X : Type 0} (xs : List X) (x : X) → some (xs ++ x ∷ []) ≡ true
some_more [] x = refl
some_more (y ∷ xs) x = refl

-- A list that begins with such parts, and the tokens that stand there.
pub record Goes {X : Type 0} (e : Element X) (xs : List X) (other : List X × Bool) (s after : Ts) : Type 0 where
  pub more : List X
  pub is : other.0 ≡ xs ++ more
  pub at : s ≡ tail_tokens (some xs) e.tokens more other.1 ++ after
  pub ends : some xs ≡ true → more ≡ [] → other.1 ≡ true

-- So many parts were read, each with its comma.
pub record Before {X : Type 0} (e : Element X) (ts : Ts) (xs : List X) (here : Ts) : Type 0 where
  pub split : ts ≡ fronts e xs ++ here
  pub formed : all_of (map e.formed xs) ≡ true
  pub only : (s : Ts) (other : List X × Bool) (after : Ts) → SameStart here s → all_of (map e.formed other.0) ≡ true →
      fronts e xs ++ s ≡ tail_tokens false e.tokens other.0 other.1 ++ after → Goes e xs other s after

module _ {X : Type 0} (e : Element X) where
  pub before_first : (ts : Ts) → Before e ts [] ts
  before_first ts = record {
    split = refl;
    formed = refl;
    only = λ s other after same good is. record {
      more = other.0;
      is = refl;
      at = is;
      ends = λ h m. absurd (true≢false (sym h));
    };
  }

  fronts_more : (xs : List X) (x : X) (s : Ts) → fronts e (xs ++ x ∷ []) ++ s ≡ fronts e xs ++ (e.tokens x ++ t.Comma
      ∷ s)
  fronts_more [] x s =
      ap (λ l. l ++ s) (append-nil (e.tokens x ++ t.Comma ∷ [])) ∙ append_assoc (e.tokens x) (t.Comma ∷ []) s
  fronts_more (y ∷ xs) x s =
      append_assoc (e.tokens y ++ t.Comma ∷ []) (fronts e (xs ++ x ∷ [])) s
      ∙ ap (λ l. (e.tokens y ++ t.Comma ∷ []) ++ l) (fronts_more xs x s)
      ∙ sym (append_assoc (e.tokens y ++ t.Comma ∷ []) (fronts e xs) (e.tokens x ++ t.Comma ∷ s))

  -- a list of parts with one more at its end
  tail_more : (xs : List X) (x : X) (b : Bool) →
      tail_tokens false e.tokens (xs ++ x ∷ []) b ≡ fronts e xs ++ (e.tokens x ++ more_tokens e.tokens [] b)
  tail_more [] x b = refl
  tail_more (y ∷ xs) x b =
      ap (λ l. e.tokens y ++ l) (behind xs)
      ∙ sym (append_assoc (e.tokens y) (t.Comma ∷ fronts e xs) (e.tokens x ++ more_tokens e.tokens [] b))
      ∙ ap (λ l. l ++ (e.tokens x ++ more_tokens e.tokens [] b)) (sym (append_assoc (e.tokens y) (t.Comma ∷ [])
      (fronts e xs)))
    where
      behind : (xs : List X) → more_tokens e.tokens (xs ++ x ∷ []) b
          ≡ t.Comma ∷ (fronts e xs ++ (e.tokens x ++ more_tokens e.tokens [] b))
      behind [] = refl
      behind (z ∷ zs) =
          ap (λ l. t.Comma ∷ (e.tokens z ++ l)) (behind zs)
          ∙ ap (λ l. t.Comma ∷ l) (sym (append_assoc (e.tokens z) (t.Comma ∷ fronts e zs) (e.tokens x
          ++ more_tokens e.tokens [] b))
          ∙ ap (λ l. l ++ (e.tokens x ++ more_tokens e.tokens [] b)) (sym (append_assoc (e.tokens z) (t.Comma ∷ [])
          (fronts e zs))))

  -- all parts with a comma behind each, and the closing bracket
  tail_trailing : (y : X) (ys : List X) → tail_tokens false e.tokens (y ∷ ys) true
      ≡ fronts e (y ∷ ys) ++ t.RightParen ∷ []
  tail_trailing y ys =
      ap (λ l. e.tokens y ++ l) (behind ys)
      ∙ sym (append_assoc (e.tokens y) (t.Comma ∷ fronts e ys) (t.RightParen ∷ []))
      ∙ ap (λ l. l ++ t.RightParen ∷ []) (sym (append_assoc (e.tokens y) (t.Comma ∷ []) (fronts e ys)))
    where
      behind : (xs : List X) → more_tokens e.tokens xs true ≡ t.Comma ∷ (fronts e xs ++ t.RightParen ∷ [])
      behind [] = refl
      behind (z ∷ zs) =
          ap (λ l. t.Comma ∷ (e.tokens z ++ l)) (behind zs)
          ∙ ap (λ l. t.Comma ∷ l) (sym (append_assoc (e.tokens z) (t.Comma ∷ fronts e zs) (t.RightParen ∷ []))
          ∙ ap (λ l. l ++ t.RightParen ∷ []) (sym (append_assoc (e.tokens z) (t.Comma ∷ []) (fronts e zs))))

  quiet_more : (y : X) (ms : List X) (b : Bool) (after : Ts) →
      begins (e.extends y) (more_tokens e.tokens ms b ++ after) ≡ false
  quiet_more y [] true after = e.comma y
  quiet_more y [] false after = e.close y
  quiet_more y (z ∷ zs) b after = e.comma y

  -- where a part begins, the list has one more
  follow : (b : Bool) (m : List X) (c : Bool) (s after : Ts) → s ≡ tail_tokens b e.tokens m c ++ after →
      begins e.starter s ≡ true → (y : X) × (ms : List X) × (m ≡ y ∷ ms)
  follow b (y ∷ ms) c s after at h = (y, ms, refl)
  follow true [] c s after at h = absurd (true≢false (sym h ∙ ap (begins e.starter) at ∙ e.no_close))
  follow false [] true s after at h = absurd (true≢false (sym h ∙ ap (begins e.starter) at ∙ e.no_comma))
  follow false [] false s after at h = absurd (true≢false (sym h ∙ ap (begins e.starter) at ∙ e.no_close))

  -- where none begins, it has none
  ended : (b : Bool) (m : List X) (c : Bool) (s after : Ts) → s ≡ tail_tokens b e.tokens m c ++ after →
      begins e.starter s ≡ false → m ≡ []
  ended b [] c s after at h = refl
  ended b (y ∷ ms) c s after at h =
      absurd (true≢false (sym (begins_append e.starter (e.tokens y) (more_tokens e.tokens ms c ++ after) (e.starts y))
      ∙ ap (begins e.starter) (sym (append_assoc (e.tokens y) (more_tokens e.tokens ms c) after) ∙ sym at) ∙ h))

  -- What stands behind a part that was read, in each list that goes on there.
  pub record Met (xs : List X) (other : List X × Bool) (x : X) (s after : Ts) : Type 0 where
    pub rest : List X
    pub is : other.0 ≡ xs ++ x ∷ rest
    pub behind : more_tokens e.tokens rest other.1 ++ after ≡ s

  meets : (ts : Ts) (xs : List X) (here : Ts) (x : X) (next : Ts) → Before e ts xs here → here ≡ e.tokens x ++ next →
      Reads (element_form e) x next → (s : Ts) (other : List X × Bool) (after : Ts) → SameStart next s →
      all_of (map e.formed other.0) ≡ true →
      fronts e xs ++ (e.tokens x ++ s) ≡ tail_tokens false e.tokens other.0 other.1 ++ after → Met xs other x s after
  meets ts xs here x next b at r s other after same good is =
      let same' : SameStart here (e.tokens x ++ s) =
      subst (λ l. SameStart l (e.tokens x ++ s)) (sym at) (same_start_append (e.tokens x) next s same) in
      let g = b.only (e.tokens x ++ s) other after same' good is in
      let f = follow (some xs) g.more other.1 (e.tokens x ++ s) after g.at
      (begins_append e.starter (e.tokens x) s (e.starts x)) in
      let whole : other.0 ≡ xs ++ f.0 ∷ f.1 = g.is ∙ ap (λ m. xs ++ m) f.2 in
      let at' : e.tokens x ++ s ≡ e.tokens f.0 ++ (more_tokens e.tokens f.1 other.1 ++ after) =
      g.at ∙ ap (λ m. tail_tokens (some xs) e.tokens m other.1 ++ after) f.2
      ∙ append_assoc (e.tokens f.0) (more_tokens e.tokens f.1 other.1) after in
      let found = r.only s f.0 (more_tokens e.tokens f.1 other.1 ++ after) same
      (all_here e.formed xs f.0 f.1 (subst (λ l. all_of (map e.formed l) ≡ true) whole good))
      (quiet_more f.0 f.1 other.1 after) at' in
      record { rest = f.1; is = whole ∙ ap (λ y. xs ++ y ∷ f.1) found.0; behind = found.1 }

  pub before_step : (ts : Ts) (xs : List X) (here : Ts) (x : X) (next rest : Ts) → Before e ts xs here →
      here ≡ e.tokens x ++ next → Reads (element_form e) x next → next ≡ t.Comma ∷ rest →
      Before e ts (xs ++ x ∷ []) rest
  before_step ts xs here x next rest b at r comma = record {
    split = b.split ∙ ap (λ l. fronts e xs ++ l) (at ∙ ap (λ l. e.tokens x ++ l) comma)
        ∙ sym (fronts_more xs x rest);
    formed = all_more e.formed xs x b.formed r.good;
    only = λ s other after same good is.
        let m = meets ts xs here x next b at r (t.Comma ∷ s) other after
        (subst (λ l. SameStart l (t.Comma ∷ s)) (sym comma) (s, refl)) good (sym (fronts_more xs x s) ∙ is) in
        go s other after m.rest m.is m.behind;
  }
    where
      go : (s : Ts) (other : List X × Bool) (after : Ts) (ms : List X) → other.0 ≡ xs ++ x ∷ ms →
          more_tokens e.tokens ms other.1 ++ after ≡ t.Comma ∷ s → Goes e (xs ++ x ∷ []) other s after
      go s (ys, true) after [] is e' = record {
        more = [];
        is = is ∙ sym (append-nil (xs ++ x ∷ []));
        at = rw (some_more xs x) (let tails : s ≡ t.RightParen ∷ after = cc in tails);
        ends = λ h m. refl;
      }
      go s (ys, false) after [] is e' = absurd cc
      go s (ys, c) after (z ∷ zs) is e' = record {
        more = z ∷ zs;
        is = is ∙ sym (append_assoc xs (x ∷ []) (z ∷ zs));
        at = cc;
        ends = λ h m. absurd cc;
      }

  -- a list without parts
  abbrev Ends : List X → Bool → Bool → Type 0
  Ends ys c d = let ends : List X × Bool = (ys, c) in let none : List X × Bool = ([], d) in ends ≡ none

  module _ (may : Bool) where
    -- `)` behind a part
    pub shut_ok : (ts : Ts) (xs : List X) (here : Ts) (x : X) (next rest : Ts) → Before e ts xs here →
        here ≡ e.tokens x ++ next → Reads (element_form e) x next → next ≡ t.RightParen ∷ rest →
        Accepts (listed_form e may) (λ p. 0) ts (xs ++ x ∷ [], false) rest 0
    shut_ok ts xs here x next rest b at r shut = record {
      spelled = spelled;
      reads = record {
        good = (all_more e.formed xs x b.formed r.good, λ h. absurd (true≢false (sym h)));
        only = λ s other after same good quiet is.
            let m = meets ts xs here x next b at r (t.RightParen ∷ s) other after
            (subst (λ l. SameStart l (t.RightParen ∷ s)) (sym shut) (s, refl)) good.0 (sym (regroup s) ∙ is) in
            go s other after m.rest m.is m.behind;
      };
      measured_is = refl;
      room = omega (
        arith,
        ap length spelled,
        length-append (tail_tokens false e.tokens (xs ++ x ∷ []) false) rest,
        ap length (tail_more xs x false),
        length-append (fronts e xs) (e.tokens x ++ t.RightParen ∷ []),
        length-append (e.tokens x) (t.RightParen ∷ []),
      );
    }
      where
        regroup : (s : Ts) → tail_tokens false e.tokens (xs ++ x ∷ []) false ++ s
            ≡ fronts e xs ++ (e.tokens x ++ t.RightParen ∷ s)
        regroup s = ap (λ l. l ++ s) (tail_more xs x false)
            ∙ append_assoc (fronts e xs) (e.tokens x ++ t.RightParen ∷ []) s
            ∙ ap (λ l. fronts e xs ++ l) (append_assoc (e.tokens x) (t.RightParen ∷ []) s)

        spelled : ts ≡ tail_tokens false e.tokens (xs ++ x ∷ []) false ++ rest
        spelled = b.split ∙ ap (λ l. fronts e xs ++ l) (at ∙ ap (λ l. e.tokens x ++ l) shut) ∙ sym (regroup rest)

        go : (s : Ts) (other : List X × Bool) (after : Ts) (ms : List X) → other.0 ≡ xs ++ x ∷ ms →
            more_tokens e.tokens ms other.1 ++ after ≡ t.RightParen ∷ s →
            (other ≡ (xs ++ x ∷ [], false)) × (after ≡ s)
        go s (ys, true) after [] is e' = absurd cc
        go s (ys, false) after [] is e' = (ap (λ l. (l, false)) is, cc)
        go s (ys, c) after (z ∷ zs) is e' = absurd cc

    -- neither `,` nor `)` behind a part
    pub shut_missed : (ts : Ts) (xs : List X) (here : Ts) (x : X) (next : Ts) → Before e ts xs here →
        here ≡ e.tokens x ++ next → Reads (element_form e) x next → begins is_comma next ≡ false →
        begins is_right_paren next ≡ false → Rejects (listed_form e may) ts (length next)
    shut_missed ts xs here x next b at r no_comma no_shut = record {
      before = fronts e xs ++ e.tokens x;
      bad = next;
      split = b.split ∙ ap (λ l. fronts e xs ++ l) at ∙ sym (append_assoc (fronts e xs) (e.tokens x) next);
      left_is = refl;
      refuses = record {
        begun = (
          t.RightParen ∷ [],
          (xs ++ x ∷ [], false),
          (all_more e.formed xs x b.formed r.good, λ h. absurd (true≢false (sym h))),
          append_assoc (fronts e xs) (e.tokens x) (t.RightParen ∷ []) ∙ sym (tail_more xs x false),
        );
        never = λ s other after same good quiet is.
            let m = meets ts xs here x next b at r s other after same good.0
            (sym (append_assoc (fronts e xs) (e.tokens x) s) ∙ is) in
            go s other.1 after m.rest m.behind (begins_same is_comma next s same ∙ no_comma)
            (begins_same is_right_paren next s same ∙ no_shut);
      };
    }
      where
        go : (s : Ts) (c : Bool) (after : Ts) (ms : List X) → more_tokens e.tokens ms c ++ after ≡ s →
            begins is_comma s ≡ false → begins is_right_paren s ≡ false → ⊥
        go s true after [] is p q = true≢false (ap (begins is_comma) is ∙ p)
        go s false after [] is p q = true≢false (ap (begins is_right_paren) is ∙ q)
        go s c after (z ∷ zs) is p q = true≢false (ap (begins is_comma) is ∙ p)

    -- a refusal in a part
    pub item_fails : (ts : Ts) (xs : List X) (here : Ts) (f : Fault) → Before e ts xs here →
        begins e.starter here ≡ true → Fails (element_form e) here f → Fails (listed_form e may) ts f
    item_fails ts xs here f b starts r =
        fails_after (listed_form e may) (element_form e) (fronts e xs) ts here f b.split refused r
      where
        refused : (before bad : Ts) → here ≡ before ++ bad → Refuses (element_form e) before bad →
            Refuses (listed_form e may) (fronts e xs ++ before) bad
        refused before bad at q = record {
          begun = (
            q.begun.0 ++ t.RightParen ∷ [],
            (xs ++ q.begun.1 ∷ [], false),
            (all_more e.formed xs q.begun.1 b.formed q.begun.2, λ h. absurd (true≢false (sym h))),
            append_assoc (fronts e xs) before (q.begun.0 ++ t.RightParen ∷ [])
                ∙ ap (λ l. fronts e xs ++ l) (sym (append_assoc before q.begun.0 (t.RightParen ∷ []))
                ∙ ap (λ l. l ++ t.RightParen ∷ []) q.begun.3)
                ∙ sym (tail_more xs q.begun.1 false),
          );
          never = λ s other after same good quiet is.
              let same' : SameStart here (before ++ s) =
              subst (λ l. SameStart l (before ++ s)) (sym at) (same_start_append before bad s same) in
              let g = b.only (before ++ s) other after same' good.0
              (sym (append_assoc (fronts e xs) before s) ∙ is) in
              let f = follow (some xs) g.more other.1 (before ++ s) after g.at
              (begins_same e.starter here (before ++ s) same' ∙ starts) in
              let whole : other.0 ≡ xs ++ f.0 ∷ f.1 = g.is ∙ ap (λ m. xs ++ m) f.2 in
              q.never s f.0 (more_tokens e.tokens f.1 other.1 ++ after) same
              (all_here e.formed xs f.0 f.1 (subst (λ l. all_of (map e.formed l) ≡ true) whole good.0))
              (quiet_more f.0 f.1 other.1 after)
              (g.at ∙ ap (λ m. tail_tokens (some xs) e.tokens m other.1 ++ after) f.2
              ∙ append_assoc (e.tokens f.0) (more_tokens e.tokens f.1 other.1) after);
        }

    -- `)` behind a comma
    pub trailing_ok : (ts : Ts) (xs : List X) (here rest : Ts) → Before e ts xs here → some xs ≡ true → may ≡ true →
        here ≡ t.RightParen ∷ rest → Accepts (listed_form e may) (λ p. 0) ts (xs, true) rest 0
    trailing_ok ts [] here rest b h m at = absurd (true≢false (sym h))
    trailing_ok ts (y ∷ ys) here rest b h m at = record {
      spelled = spelled;
      reads = record {
        good = (b.formed, λ x. m);
        only = λ s other after same good quiet is.
            let g = b.only (t.RightParen ∷ s) other after
            (subst (λ l. SameStart l (t.RightParen ∷ s)) (sym at) (s, refl)) good.0 (sym (regroup s) ∙ is) in
            let none = ended true g.more other.1 (t.RightParen ∷ s) after g.at e.no_close in
            let tails : t.RightParen ∷ s ≡ t.RightParen ∷ after =
            g.at ∙ ap (λ m. tail_tokens true e.tokens m other.1 ++ after) none in
            let whole : other.0 ≡ y ∷ ys = g.is ∙ ap (λ m. (y ∷ ys) ++ m) none ∙ append-nil (y ∷ ys) in
            let both : other ≡ (y ∷ ys, true) = λ i. (whole i, g.ends refl none i) in
            (both, cc);
      };
      measured_is = refl;
      room = omega (arith, ap length b.split, ap length at, length-append (fronts e (y ∷ ys)) here);
    }
      where
        regroup : (s : Ts) → tail_tokens false e.tokens (y ∷ ys) true ++ s ≡ fronts e (y ∷ ys) ++ t.RightParen ∷ s
        regroup s = ap (λ l. l ++ s) (tail_trailing y ys)
            ∙ append_assoc (fronts e (y ∷ ys)) (t.RightParen ∷ []) s

        spelled : ts ≡ tail_tokens false e.tokens (y ∷ ys) true ++ rest
        spelled = b.split ∙ ap (λ l. fronts e (y ∷ ys) ++ l) at ∙ sym (regroup rest)

    -- neither a part behind a comma, nor a `)` that may stand there
    pub part_missed : (ts : Ts) (xs : List X) (here : Ts) → Before e ts xs here → some xs ≡ true →
        begins e.starter here ≡ false → (may ≡ true → begins is_right_paren here ≡ false) →
        Rejects (listed_form e may) ts (length here)
    part_missed ts xs here b h ends no_shut = record {
      before = fronts e xs;
      bad = here;
      split = b.split;
      left_is = refl;
      refuses = record {
        begun = (
          e.tokens e.least ++ t.RightParen ∷ [],
          (xs ++ e.least ∷ [], false),
          (all_more e.formed xs e.least b.formed e.least_formed, λ h. absurd (true≢false (sym h))),
          sym (tail_more xs e.least false),
        );
        never = λ s other after same good quiet is.
            let g = b.only s other after same good.0 is in
            let none = ended (some xs) g.more other.1 s after g.at (begins_same e.starter here s same ∙ ends) in
            let at : s ≡ t.RightParen ∷ after =
            g.at ∙ ap (λ m. tail_tokens (some xs) e.tokens m other.1 ++ after) none
            ∙ ap (λ c. tail_tokens c e.tokens [] other.1 ++ after) h in
            true≢false (sym (ap (begins is_right_paren) at) ∙ begins_same is_right_paren here s same
            ∙ no_shut (good.1 (g.ends h none)));
      };
    }

    -- neither a part nor `)`, nor a comma that may stand alone
    pub empty_missed : (ts : Ts) → begins e.starter ts ≡ false → begins is_right_paren ts ≡ false →
        (may ≡ true → begins is_comma ts ≡ false) → Rejects (listed_form e may) ts (length ts)
    empty_missed ts ends no_shut no_comma = record {
      before = [];
      bad = ts;
      split = refl;
      left_is = refl;
      refuses = record {
        begun = (t.RightParen ∷ [], ([], false), (refl, λ h. absurd (true≢false (sym h))), refl);
        never = λ s other after same good quiet is.
            go s other.0 other.1 after is
            (ended false other.0 other.1 s after is (begins_same e.starter ts s same ∙ ends)) good.1
            (begins_same is_right_paren ts s same ∙ no_shut)
            (λ m. begins_same is_comma ts s same ∙ no_comma m);
      };
    }
      where
        go : (s : Ts) (ys : List X) (c : Bool) (after : Ts) → s ≡ tail_tokens false e.tokens ys c ++ after → ys ≡ [] →
            (c ≡ true → may ≡ true) → begins is_right_paren s ≡ false → (may ≡ true → begins is_comma s ≡ false) → ⊥
        go s [] true after is none m p q = true≢false (sym (ap (begins is_comma) is) ∙ q (m refl))
        go s [] false after is none m p q = true≢false (sym (ap (begins is_right_paren) is) ∙ p)
        go s (z ∷ zs) c after is none m p q = absurd cc

    -- a comma alone, and no `)` behind it
    pub comma_missed : (ts next : Ts) → may ≡ true → ts ≡ t.Comma ∷ next → begins is_right_paren next ≡ false →
        Rejects (listed_form e may) ts (length next)
    comma_missed ts next m at no_shut = record {
      before = t.Comma ∷ [];
      bad = next;
      split = at;
      left_is = refl;
      refuses = record {
        begun = (t.RightParen ∷ [], ([], true), (refl, λ h. m), refl);
        never = λ s other after same good quiet is.
            go s other.0 other.1 after is (ended false other.0 other.1 (t.Comma ∷ s) after is e.no_comma)
            (begins_same is_right_paren next s same ∙ no_shut);
      };
    }
      where
        go : (s : Ts) (ys : List X) (c : Bool) (after : Ts) →
            t.Comma ∷ s ≡ tail_tokens false e.tokens ys c ++ after → ys ≡ [] → begins is_right_paren s ≡ false → ⊥
        go s [] true after is none p =
            let tails : s ≡ t.RightParen ∷ after = cc in true≢false (sym (ap (begins is_right_paren) tails) ∙ p)
        go s [] false after is none p = absurd cc
        go s (z ∷ zs) c after is none p = absurd cc

-- Where the loop stands: before a part, or behind a comma that follows one.
pub record Reading {X : Type 0} (e : Element X) (ts : Ts) (xs : List X) (here : Ts) : Type 0 where
  pub before : Before e ts xs here
  pub starts : some xs ≡ false → begins e.starter here ≡ true

module _ {X : Type 0} (e : Element X) where
  pub reading_first : (ts : Ts) → begins e.starter ts ≡ true → Reading e ts [] ts
  reading_first ts h = record { before = before_first e ts; starts = λ none. h }

  pub reading_step : (ts : Ts) (xs : List X) (here : Ts) (x : X) (next rest : Ts) (d : ℕ) → Reading e ts xs here →
      Accepts (element_form e) (λ x. 0) here x next d → next ≡ t.Comma ∷ rest → Reading e ts (xs ++ x ∷ []) rest
  reading_step ts xs here x next rest d r a comma = record {
    before = before_step e ts xs here x next rest r.before a.spelled a.reads comma;
    starts = λ none. absurd (true≢false (sym (some_more xs x) ∙ none));
  }

  pub reading_some : (ts : Ts) (xs : List X) (here : Ts) → Reading e ts xs here → begins e.starter here ≡ false →
      some xs ≡ true
  reading_some ts [] here r ends = absurd (true≢false (sym (r.starts refl) ∙ ends))
  reading_some ts (x ∷ xs) here r ends = refl
