-- Guards: a pattern before `<-` and an expression compete (Haskell 2010 Report, section 3.13).
use Rattle.std.proofs.Common.{◌≡◌, ℕ, Bool, true, false, List, [], ◌∷◌, ◌++◌, length, refl, sym, ap, ◌∙◌}
use Rattle.std.proofs.Common.{subst, true≢false, arith, append_assoc, inl, inr, ◌⊎◌}
use Rattle.std.specs.Prelude.{max, min, map, not, flat_map, ◌&&◌, ◌||◌, Option, Some, None}
use Rattle.std.proofs.lemmas.List.{append-nil}
use Rattle.std.proofs.lemmas.Grind.{flat_map-append}
use Rattle.hs_forms.specs.Reading.{begins}
use Rattle.hs_forms.specs.Limits.{Within}
use Rattle.hs_forms.specs.Answers.{Rejects}
use Rattle.hs_forms.specs.Forms.{Completes, either}
use Rattle.hs_forms.specs.Productions.{Chain, Onto}
use Rattle.hs_forms.specs.declared.fault.Fault.{Fault}
use Rattle.hs_forms.specs.declared.fault.Fault.TheVariants.{At}
use Rattle.hs_forms.proofs.FormLemmas.{begins_within, begins_same}
use Rattle.hs_forms.proofs.LimitLemmas.{or_left}
use Rattle.hs_forms.proofs.StateLemmas.{fails_after}
use Rattle.hs_forms.proofs.UnionLemmas.{reads_one, reads_second, reads_onto, refuses_onto, rejects_later}
use Rattle.hs_tokens.specs.Terminals.{is_arrow, is_comma}
use Rattle.hs_tokens.specs.declared.terminal.Terminal.{Terminal}
use Rattle.hs_tokens.specs.declared.terminal.Terminal.TheVariants as t
use Rattle.hs_trees.specs.Hits.{follows_guard}
use Rattle.hs_trees.specs.Patterns.{Ts, spelling_pat}
use Rattle.hs_trees.specs.declared.patterns.GConTree.TheVariants as g
use Rattle.hs_trees.specs.declared.patterns.PatTree.{PatTree}
use Rattle.hs_trees.proofs.PatternHitLemmas.{follow_misses}
use Rattle.hs_modules.specs.Tokens.{spelling_guard, spelling_infix}
use Rattle.hs_modules.specs.Formed.{Facts, good_of, last_of, facts_of_guard, facts_of_infix, facts_of_link}
use Rattle.hs_modules.specs.Formed.{facts_of_operand, facts_of_signed}
use Rattle.hs_modules.specs.declared.expressions.AExpTree.TheVariants as a
use Rattle.hs_modules.specs.declared.expressions.GuardTree.{GuardTree}
use Rattle.hs_modules.specs.declared.expressions.GuardTree.TheVariants as gt
use Rattle.hs_modules.specs.declared.expressions.InfixTree.{InfixTree, out-roll-InfixTree}
use Rattle.hs_modules.specs.declared.expressions.SignedOperand.{SignedOperand}
use Rattle.hs_expression_forms.specs.Trees.{within, Took, Failed, ended, Follows}
use Rattle.hs_expression_forms.specs.Expressions.{depth_of_infix, infixes, pats, infix_goes_on, goes_on, starts_exp}
use Rattle.hs_expression_forms.specs.Expressions.{last_part}
use Rattle.hs_expression_forms.proofs.TreesLemmas.{reads_same, refuses_same, ended_took, ended_failed, ended_missed}
use Rattle.hs_expression_forms.proofs.TreesLemmas.{row_took, row_first, row_second}
use Rattle.hs_expression_forms.proofs.ListedLemmas.{Lists, list_chain, list_more, last_more}
use Rattle.hs_expression_forms.proofs.StarterLemmas.{closes}
use Rattle.hs_expression_forms.proofs.RowLemmas.{infix_starts}
use Rattle.hs_expression_forms.proofs.LinkLayerLemmas.{operand_of, infix_facts, signed_facts}
use Rattle.hs_expression_forms.proofs.LinkLemmas.{make_infix, make_signed}
use Rattle.hs_expression_forms.proofs.LinkAnswerLemmas.{least_operand}
use Rattle.hs_expression_forms.proofs.LinkFirstLemmas.{least_infix, least_links_good}
use Rattle.hs_expression_forms.proofs.OperandLayerLemmas.{apply_facts}
use Rattle.hs_expression_forms.proofs.OpenLemmas.{made_operand}
use Rattle.hs_block_forms.specs.Blocks.{guard_goes_on, tests, binds, guards, guard_lists, GuardList, guards_fit}
use Rattle.hs_block_forms.proofs.HitLemmas.{apart}
use Rattle.hs_block_forms.proofs.BlockLayerLemmas.{bind_spelled, bind_facts, bind_deep, test_spelled, test_facts}
use Rattle.hs_block_forms.proofs.BlockLayerLemmas.{test_deep, GuardCase, is_bind, is_test, guard_case}

-- what doesn't follow guards
abbrev pub past : Terminal → Bool
past k = not (follows_guard k)

arrow_quiet : (o r : Bool) → r && true ≡ false → goes_on true o r t.Arrow ≡ false
arrow_quiet o true h = absurd (true≢false h)
arrow_quiet true false h = refl
arrow_quiet false false h = refl

test_ends : (f : Facts) (k : Terminal) → guard_goes_on f k ≡ false → infix_goes_on f k ≡ false
test_ends f t.Comma h = closes t.Comma refl true f.is_open f.ends_in_type
test_ends f t.Equals h = closes t.Equals refl true f.is_open f.ends_in_type
test_ends f t.Arrow h = arrow_quiet f.is_open f.ends_in_type h
test_ends f _ h = absurd (true≢false h)

past_quiet : (f : Facts) (after : Ts) → begins (guard_goes_on f) after ≡ false → begins past after ≡ false
past_quiet f after q = begins_within (guard_goes_on f) past after (λ k e. or_left (past k) _ e) q

module _ (limit : Option ℕ) where
  pub test_took : (ts : Ts) (e : InfixTree) (rest : Ts) (m : ℕ) → Took infixes limit ts e rest m →
      Took tests limit ts e rest m
  test_took ts e rest m acc = record {
    spelled = acc.spelled;
    reads = reads_same (within infixes limit) (within tests limit) (λ x. refl) (λ x g. g) (λ x g. g)
        (λ x k h. test_ends (facts_of_infix x) k h) e rest acc.reads;
    measured_is = acc.measured_is;
    room = acc.room;
  }

  pub test_failed : (ts : Ts) (e : Fault) → Failed infixes limit ts e → Failed tests limit ts e
  test_failed ts e r =
      fails_after (within tests limit) (within infixes limit) [] ts ts e refl
      (λ before bad split q. refuses_same (within infixes limit) (within tests limit) (λ x. refl) (λ x g. g) (λ x g. g)
      (λ x k h. test_ends (facts_of_infix x) k h) before bad q) r

  pub test_missed : (ts : Ts) (e : InfixTree) (rest : Ts) (m : ℕ) → Took infixes limit ts e rest m →
      begins past rest ≡ true → Rejects (within tests limit) ts (length rest)
  test_missed ts e rest m acc missed = record {
    before = spelling_infix e;
    bad = rest;
    split = acc.spelled;
    left_is = refl;
    refuses = record {
      begun = ([], e, acc.reads.good, append-nil (spelling_infix e));
      never = λ s other after same good quiet q.
          let found = acc.reads.only s other after same good
          (begins_within (guard_goes_on (facts_of_infix other)) (infix_goes_on (facts_of_infix other)) after
          (test_ends (facts_of_infix other)) quiet) q in
          true≢false (sym (ap (begins past) found.1 ∙ begins_same past rest s same ∙ missed)
          ∙ past_quiet (facts_of_infix other) after quiet);
    };
  }

  bind_follows : Follows (ended pats t.LeftArrow) tests starts_exp
  bind_follows = record {
    starts = infix_starts;
    apart = λ x k h. refl;
    least = least_infix;
    least_formed = (least_links_good false None).0;
    least_deep = shallow (depth_of_infix least_infix) (least_links_good false (Some 0)).1;
  }
    where
      shallow : (n : ℕ) → Within (Some 0) n → n ≡ 0
      shallow n h = omega (arith, h)

  pub bind_took : (ts : Ts) (p : PatTree) (mid next : Ts) (d : ℕ) → Took pats limit ts p mid d →
      mid ≡ t.LeftArrow ∷ next → (e : InfixTree) (rest : Ts) (m : ℕ) → Took infixes limit next e rest m →
      Took binds limit ts (p, e) rest (max d m)
  bind_took ts p mid next d acc at e rest m q =
      row_took (ended pats t.LeftArrow) tests starts_exp bind_follows limit ts p next d e rest m
      (ended_took pats limit t.LeftArrow (λ x. refl) ts p mid next d acc at) (test_took next e rest m q)

  pub bind_failed : (ts : Ts) (p : PatTree) (mid next : Ts) (d : ℕ) → Took pats limit ts p mid d →
      mid ≡ t.LeftArrow ∷ next → (e : Fault) → Failed infixes limit next e → Failed binds limit ts e
  bind_failed ts p mid next d acc at e r =
      row_second (ended pats t.LeftArrow) tests starts_exp bind_follows limit ts p next d e
      (ended_took pats limit t.LeftArrow (λ x. refl) ts p mid next d acc at) (test_failed next e r)

  pub pat_failed : (ts : Ts) (e : Fault) → Failed pats limit ts e → Failed binds limit ts e
  pat_failed ts e r =
      row_first (ended pats t.LeftArrow) tests starts_exp bind_follows limit ts e
      (ended_failed pats limit t.LeftArrow (λ x. refl) ts e r)

  pub pat_missed : (is_left_arrow : Terminal → Bool) → is_left_arrow t.LeftArrow ≡ true → (ts : Ts) (p : PatTree)
      (mid : Ts) (d : ℕ) → Took pats limit ts p mid d → begins is_left_arrow mid ≡ false →
      Rejects (within binds limit) ts (length mid)
  pat_missed is_left_arrow is ts p mid d acc missed =
      row_first (ended pats t.LeftArrow) tests starts_exp bind_follows limit ts (At (length mid))
      (ended_missed pats limit t.LeftArrow (λ x. refl) is_left_arrow is ts p mid d acc missed)

  -- both as guards
  abbrev pub guard_of : (PatTree × InfixTree) ⊎ InfixTree → GuardTree
  guard_of (inl p) = gt.Bind p.0 p.1
  guard_of (inr e) = gt.Test e

  guard_onto : Onto (either (within binds limit) (within tests limit)) (within guards limit) guard_of
  guard_onto = record {
    back = λ y. back y (guard_case y);
    tokens = tokens;
    good = good;
    good_back = good_back;
    extends = extends;
  }
    where
      back : (y : GuardTree) → GuardCase y → (x : (PatTree × InfixTree) ⊎ InfixTree) × (y ≡ guard_of x)
      back y (is_bind p e is) = (inl (p, e), is)
      back y (is_test e is) = (inr e, is)

      tokens : (x : (PatTree × InfixTree) ⊎ InfixTree) → (within guards limit).tokens (guard_of x)
          ≡ (either (within binds limit) (within tests limit)).tokens x
      tokens (inl p) = bind_spelled p.0 p.1
      tokens (inr e) = test_spelled e

      good : (x : (PatTree × InfixTree) ⊎ InfixTree) → (either (within binds limit) (within tests limit)).Good x →
          (within guards limit).Good (guard_of x)
      good (inl p) h = (
        ap good_of (bind_facts p.0 p.1) ∙ h.0,
        subst (Within limit) (sym (bind_deep p.0 p.1)) h.1,
      )
      good (inr e) h = (ap good_of (test_facts e) ∙ h.0, subst (Within limit) (sym (test_deep e)) h.1)

      good_back : (x : (PatTree × InfixTree) ⊎ InfixTree) → (within guards limit).Good (guard_of x) →
          (either (within binds limit) (within tests limit)).Good x
      good_back (inl p) h = (
        sym (ap good_of (bind_facts p.0 p.1)) ∙ h.0,
        subst (Within limit) (bind_deep p.0 p.1) h.1,
      )
      good_back (inr e) h = (sym (ap good_of (test_facts e)) ∙ h.0, subst (Within limit) (test_deep e) h.1)

      extends : (x : (PatTree × InfixTree) ⊎ InfixTree) (k : Terminal) →
          (within guards limit).extends (guard_of x) k ≡ false →
          (either (within binds limit) (within tests limit)).extends x k ≡ false
      extends (inl p) k h = sym (ap (λ (f : Facts). past k || (f.ends_in_type && is_arrow k)) (bind_facts p.0 p.1)) ∙ h
      extends (inr e) k h = sym (ap (λ f. guard_goes_on f k) (test_facts e)) ∙ h

  -- behind a pattern and `<-` no expression ends where a guard ends
  bound : (x : PatTree × InfixTree) (more : Ts) (e : InfixTree) (after : Ts) → begins past after ≡ false →
      binds.tokens x ++ more ≡ spelling_infix e ++ after → ⊥
  bound x more e after q same =
      apart e after x.0 (spelling_infix x.1 ++ more) (follow_misses after q)
      (sym same ∙ append_assoc (spelling_pat x.0 ++ t.LeftArrow ∷ []) (spelling_infix x.1) more
      ∙ append_assoc (spelling_pat x.0) (t.LeftArrow ∷ []) (spelling_infix x.1 ++ more))

  pub guard_bind : (ts : Ts) (p : PatTree) (e : InfixTree) (rest : Ts) (m : ℕ) → Took binds limit ts (p, e) rest m →
      Took guards limit ts (gt.Bind p e) rest m
  guard_bind ts p e rest m acc = record {
    spelled = acc.spelled ∙ ap (λ l. l ++ rest) (sym (bind_spelled p e));
    reads = reads_onto (either (within binds limit) (within tests limit)) (within guards limit) guard_of guard_onto
        (inl (p, e)) rest
        (reads_one (within binds limit) (within tests limit) (p, e) rest acc.reads
        (λ s u after same good quiet q. bound (p, e) s u after (past_quiet (facts_of_infix u) after quiet) q));
    measured_is = acc.measured_is ∙ sym (bind_deep p e);
    room = acc.room;
  }

  pub guard_test : (ts : Ts) (e : InfixTree) (rest : Ts) (m : ℕ) → Took tests limit ts e rest m →
      begins past rest ≡ false → Took guards limit ts (gt.Test e) rest m
  guard_test ts e rest m acc quiet = record {
    spelled = acc.spelled ∙ ap (λ l. l ++ rest) (sym (test_spelled e));
    reads = reads_onto (either (within binds limit) (within tests limit)) (within guards limit) guard_of guard_onto
        (inr e) rest
        (reads_second (within binds limit) (within tests limit) e rest acc.reads
        (λ s y after same good q h. bound y after e s (begins_same past rest s same ∙ quiet) (sym h)));
    measured_is = acc.measured_is ∙ sym (test_deep e);
    room = acc.room;
  }

  pub both_fail : (ts : Ts) (left right : ℕ) → Rejects (within binds limit) ts left →
      Rejects (within tests limit) ts right → Rejects (within guards limit) ts (min left right)
  both_fail ts left right r q =
      let both = rejects_later (within binds limit) (within tests limit) ts left right r q in
      record {
        before = both.before;
        bad = both.bad;
        split = both.split;
        left_is = both.left_is;
        refuses = refuses_onto (either (within binds limit) (within tests limit)) (within guards limit) guard_of
            guard_onto both.before both.bad both.refuses;
      }

-- guards between commas
guard_comma : (f : Facts) (k : Terminal) → is_comma k ≡ true → guard_goes_on f k ≡ false
guard_comma f t.Comma h = off f.ends_in_type
  where
    off : (b : Bool) → b && false ≡ false
    off true = refl
    off false = refl
guard_comma f _ h = absurd (true≢false (sym h))

pub guard_lists_are : Lists guards (t.Comma ∷ []) is_comma
guard_lists_are = record { starts = λ x. refl; apart = λ x k e. guard_comma (facts_of_guard x) k e }

abbrev pub guards_chain : Option ℕ → Chain Terminal GuardList GuardTree GuardTree
guards_chain limit = list_chain guards (t.Comma ∷ []) is_comma guard_lists_are None limit

pub equals_end : (p : GuardList) → guard_lists.extends p t.Equals ≡ false
equals_end p = off (facts_of_guard (last_part p.0 p.1)).ends_in_type
  where
    off : (b : Bool) → b && false ≡ false
    off true = refl
    off false = refl

last_facts : (x : GuardTree) (xs : List GuardTree) →
    last_of (facts_of_guard x) (map facts_of_guard xs) ≡ facts_of_guard (last_part x xs)
last_facts x [] = refl
last_facts x (y ∷ xs) = last_facts y xs

pub arrow_ends : (p : GuardList) → guards_fit p ≡ true → guard_lists.extends p t.Arrow ≡ false
arrow_ends p fit =
    off (facts_of_guard (last_part p.0 p.1)).ends_in_type
    (ap (λ (f : Facts). not f.ends_in_type) (sym (last_facts p.0 p.1)) ∙ fit)
  where
    off : (b : Bool) → not b ≡ true → b && true ≡ false
    off true h = absurd (true≢false (sym h))
    off false h = refl

first_type : (s : SignedOperand) →
    (facts_of_infix (make_infix s [])).ends_in_type ≡ (facts_of_operand (operand_of s)).ends_in_type
first_type s =
    ap (λ (f : Facts). f.ends_in_type) (infix_facts (make_infix s []))
    ∙ ap (λ o. (last_of (facts_of_signed o.first) (map facts_of_link o.rest)).ends_in_type)
    (out-roll-InfixTree (record { first = s; rest = [] }))
    ∙ ap (λ (f : Facts). f.ends_in_type) (signed_facts s)

least_type : (facts_of_infix least_infix).ends_in_type ≡ false
least_type =
    first_type (make_signed false least_operand)
    ∙ ap (λ e. (facts_of_operand e).ends_in_type) (made_operand false least_operand)
    ∙ ap (λ (f : Facts). f.ends_in_type) (apply_facts (a.Con g.Unit, []))

-- each list of guards goes on to one that doesn't end in a type
pub guards_complete : (limit : Option ℕ) → Completes (within guard_lists limit) (λ p. guards_fit p ≡ true)
guards_complete limit p good =
    let least = gt.Test least_infix in
    let chain = least_links_good false limit in
    let item : (within guards limit).Good least = (
      ap good_of (test_facts least_infix) ∙ chain.0,
      subst (Within limit) (sym (test_deep least_infix)) chain.1,
    ) in (
      t.Comma ∷ spelling_guard least,
      (p.0, p.1 ++ least ∷ []),
      list_more guards (t.Comma ∷ []) is_comma guard_lists_are None limit p.0 p.1 least good tt item,
      ap (λ (f : Facts). not f.ends_in_type) (last_facts p.0 (p.1 ++ least ∷ [])
          ∙ ap facts_of_guard (last_more p.0 p.1 least) ∙ test_facts least_infix)
          ∙ ap not least_type,
      append_assoc (spelling_guard p.0) (flat_map (λ x. t.Comma ∷ spelling_guard x) p.1) (t.Comma ∷ spelling_guard
          least)
          ∙ ap (λ l. spelling_guard p.0 ++ (flat_map (λ x. t.Comma ∷ spelling_guard x) p.1 ++ l))
          (sym (append-nil (t.Comma ∷ spelling_guard least)))
          ∙ ap (λ l. spelling_guard p.0 ++ l)
          (sym (flat_map-append (λ x. t.Comma ∷ spelling_guard x) p.1 (least ∷ []))),
    )
