-- What the readers of brackets answer.
use Rattle.std.proofs.Common.{◌≡◌, ℕ, ◌+◌, ◌<◌, true, false, List, [], ◌∷◌, ◌++◌, length, refl, sym, ap, ◌∙◌}
use Rattle.std.proofs.Common.{subst, true≢false, arith, inl, inr}
use Rattle.std.specs.Prelude.{max, not, Option, None}
use Rattle.std.proofs.lemmas.Bool.{and_from}
use Rattle.std.proofs.lemmas.Bool.Decides.{nat_tests}
use Rattle.std.proofs.lemmas.List.{append-nil}
use Rattle.hs_forms.specs.Reading.{begins, SameStart, Refuses}
use Rattle.hs_forms.specs.Limits.{Within, lowered}
use Rattle.hs_forms.specs.Answers.{Accepts, Rejects, Fails}
use Rattle.hs_forms.specs.declared.fault.Fault.{Fault}
use Rattle.hs_forms.specs.declared.fault.Fault.TheVariants.{At}
use Rattle.hs_forms.proofs.FormLemmas.{begins_same, reads_fewer, uncons}
use Rattle.hs_forms.proofs.LimitLemmas.{within_less, within_lowered, within_zero}
use Rattle.hs_forms.proofs.StateLemmas.{fails_after}
use Rattle.hs_tokens.specs.Terminals.{minus, is_minus, is_right_paren, is_right_bracket, is_backquote}
use Rattle.hs_tokens.specs.declared.terminal.Terminal.{Terminal}
use Rattle.hs_tokens.specs.declared.terminal.Terminal.TheVariants as t
use Rattle.hs_trees.specs.Types.{starts_tuple_name, tuple_name_form}
use Rattle.hs_trees.specs.Patterns.{Ts, named_con}
use Rattle.hs_trees.specs.declared.patterns.GConTree.TheVariants as g
use Rattle.hs_trees.specs.declared.patterns.QConOpTree.TheVariants as o
use Rattle.hs_modules.specs.Words.{qop_tokens, is_bare_minus}
use Rattle.hs_modules.specs.Tokens.{spelling_aexp, spelling_operand}
use Rattle.hs_modules.specs.Formed.{good_of}
use Rattle.hs_modules.specs.ExpressionExtents.{sign}
use Rattle.hs_modules.specs.declared.names.QOpTree.{QOpTree}
use Rattle.hs_modules.specs.declared.names.QOpTree.TheVariants as q
use Rattle.hs_modules.specs.declared.expressions.AExpTree.TheVariants as a
use Rattle.hs_modules.specs.declared.expressions.ExpTree.{ExpTree}
use Rattle.hs_modules.specs.declared.expressions.ExpTree.TheVariants as v
use Rattle.hs_modules.specs.declared.expressions.InfixTree.{InfixTree}
use Rattle.hs_expression_forms.specs.declared.front.Front.TheVariants as fr
use Rattle.hs_expression_forms.specs.Trees.{within, Took, Failed, ended}
use Rattle.hs_expression_forms.specs.Expressions.{aexps, infixes, qops, exp_parts, is_exp, last_part}
use Rattle.hs_expression_forms.specs.Expressions.{depth_of_infix, starts_exp}
use Rattle.hs_expression_forms.specs.Fronts.{Bunch, bunches, Inside, insides, bunch_of, section_ops, right_sections}
use Rattle.hs_expression_forms.specs.Fronts.{tuple_names}
use Rattle.hs_expression_forms.proofs.TreesLemmas.{ended_took, ended_failed, ended_missed, row_took, row_first}
use Rattle.hs_expression_forms.proofs.TreesLemmas.{row_second, embeds_took, embeds_failed, reads_same, refuses_same}
use Rattle.hs_expression_forms.proofs.AExpLayerLemmas.{Parts, con_spelled}
use Rattle.hs_expression_forms.proofs.AExpLemmas.{aexp_class, paren_class, make_inside, make_right, tuple_makes}
use Rattle.hs_expression_forms.proofs.AExpLemmas.{inside_makes, right_makes, list_makes, inside_embeds, inside_back}
use Rattle.hs_expression_forms.proofs.FrontLemmas.{plain_spelled, plain_facts, plain_deep}
use Rattle.hs_expression_forms.proofs.LinkLemmas.{make_infix, make_signed}
use Rattle.hs_expression_forms.proofs.LinkAnswerLemmas.{least_operand, least_operand_good}
use Rattle.hs_expression_forms.proofs.LinkFirstLemmas.{least_infix, least_links_good, signed_good, signed_spelled}
use Rattle.hs_expression_forms.proofs.RowLemmas.{exp_ends, infix_ends, section_follows}
use Rattle.hs_operand_forms.specs.Brackets.{is_symbol, is_special, named_symbol, OpensInside, plain, signed}
use Rattle.hs_operand_forms.specs.Brackets.{OpensSection, quoted, symbol}
use Rattle.hs_operand_forms.proofs.WordLemmas.{symbol_took, unit_good, nil_good}
use Rattle.hs_operand_forms.proofs.OpeningLemmas.{same_front, opened_took, opened_failed, opened_over, plain_class}
use Rattle.hs_operand_forms.proofs.OpeningLemmas.{minus_paren, symbol_paren, quote_paren, name_paren, list_bracket}
use Rattle.hs_operand_forms.proofs.OpeningLemmas.{inside_minus}

bunch_ends : (b : Bunch) → bunches.extends b t.RightParen ≡ false
bunch_ends (fr.Exp e, []) = exp_ends t.RightParen refl e
bunch_ends (fr.Section x op, []) = refl
bunch_ends (h, x ∷ xs) = exp_ends t.RightParen refl (last_part x xs)

parts_end : (p : Parts) → (exp_parts None).extends p t.RightBracket ≡ false
parts_end (e, xs) = exp_ends t.RightBracket refl (last_part e xs)

-- a chain of one negated operand
abbrev negated : InfixTree
negated = make_infix (make_signed true least_operand) []

signed_begins : (limit : Option ℕ) (next bad : Ts) → Within limit 2 → bad ≡ t.VarSym minus ∷ next →
    Refuses (within insides (lowered limit 1)) [] bad → ⊥
signed_begins limit next bad room at r =
    let low = lowered limit 1 in
    let i : Inside = inl (v.Infix negated, []) in
    let more = (spelling_operand least_operand ++ []) ++ t.RightParen ∷ [] in
    let good = signed_good false low true least_operand (within_lowered limit 1 1 room)
    (least_operand_good (lowered low (0 + sign true))) in
    let spelled : insides.tokens i ≡ t.VarSym minus ∷ more =
    ap (λ l. (l ++ []) ++ t.RightParen ∷ []) (plain_spelled negated ∙ signed_spelled true least_operand) in
    r.never (t.VarSym minus ∷ more) i []
    (subst (λ l. SameStart l (t.VarSym minus ∷ more)) (sym at) (more, refl)) (
      and_from _ _ refl (and_from (is_exp (v.Infix negated)) true (ap good_of (plain_facts negated) ∙ good.0) refl),
      within_less low _ (depth_of_infix negated) (omega (arith, plain_deep negated)) good.1,
    )
    refl (sym spelled ∙ sym (append-nil (insides.tokens i)))

module _ (limit : Option ℕ) (ts : Ts) where
  inside_room : OpensInside limit ts → Within limit 1
  inside_room (plain special room) = room
  inside_room (signed next at ends room) = within_less limit 1 2 (omega arith) room

  inside_stays : OpensInside limit ts → (before bad s : Ts) → ts ≡ before ++ bad → SameStart bad s →
      Refuses (within insides (lowered limit 1)) before bad → aexp_class (t.LeftParen ∷ (before ++ s)) ≡ 12
  inside_stays (plain special room) before bad s split same r =
      plain_class (before ++ s) (same_front is_special ts before bad s false split same special)
  inside_stays (signed next at ends room) [] bad s split same r =
      absurd (signed_begins limit next bad room (sym split ∙ at) r)
  inside_stays (signed next at ends room) (k ∷ before) bad s split same r =
      let cut : k ∷ (before ++ bad) ≡ t.VarSym minus ∷ next = sym split ∙ at in
      let head : k ≡ t.VarSym minus = cc in
      let tail : next ≡ before ++ bad = cc in
      ap (λ j. paren_class (j ∷ (before ++ s))) head
      ∙ minus_paren (before ++ s) (same_front is_right_paren next before bad s false tail same ends)

  closed_failed : OpensInside limit ts → (e : Fault) →
      Failed (ended bunches t.RightParen) (lowered limit 1) ts e → Failed aexps limit (t.LeftParen ∷ ts) e
  closed_failed opens e r =
      opened_failed t.LeftParen insides make_inside 1 12 inside_makes (omega arith) limit (inside_room opens) ts
      (inside_stays opens) e
      (embeds_failed insides (ended bunches t.RightParen) bunch_of inside_embeds (lowered limit 1) inside_back ts e r)

  pub inside_failed : OpensInside limit ts → (l : Option ℕ) → l ≡ lowered limit 1 → (e : Fault) →
      Failed bunches l ts e → Failed aexps limit (t.LeftParen ∷ ts) e
  inside_failed opens l low e r =
      closed_failed opens e (ended_failed bunches (lowered limit 1) t.RightParen bunch_ends ts e
      (subst (λ o. Failed bunches o ts e) low r))

  pub inside_missed : OpensInside limit ts → (l : Option ℕ) → l ≡ lowered limit 1 → (b : Bunch) (here : Ts) (m : ℕ) →
      Took bunches l ts b here m → begins is_right_paren here ≡ false →
      Rejects (within aexps limit) (t.LeftParen ∷ ts) (length here)
  inside_missed opens l low b here m acc missed =
      closed_failed opens (At (length here)) (ended_missed bunches (lowered limit 1) t.RightParen bunch_ends
      is_right_paren refl ts b here m (subst (λ o. Took bunches o ts b here m) low acc) missed)

  pub inside_took : OpensInside limit ts → (l : Option ℕ) → l ≡ lowered limit 1 → (b : Bunch) (here rest : Ts)
      (m : ℕ) → Took bunches l ts b here m → here ≡ t.RightParen ∷ rest →
      (i : Inside) × (bunch_of i ≡ b) × Took aexps limit (t.LeftParen ∷ ts) (make_inside i) rest (m + 1)
  inside_took opens l low b here rest m acc at =
      let i = inside_back b acc.reads.good.0 in
      let part = ended_took bunches (lowered limit 1) t.RightParen bunch_ends ts b here rest m
      (subst (λ o. Took bunches o ts b here m) low acc) at in (
        i.0,
        sym i.1,
        opened_took t.LeftParen insides make_inside 1 12 inside_makes (omega arith) limit (inside_room opens) ts i.0
            rest m
            (embeds_took insides (ended bunches t.RightParen) bunch_of inside_embeds (lowered limit 1) ts i.0 rest m
            (subst (λ c. Took (ended bunches t.RightParen) (lowered limit 1) ts c rest m) i.1 part)),
      )

  -- want of depth behind a `(`
  pub plain_over : begins is_special ts ≡ false → (Within limit 1 → ⊥) →
      Rejects (within aexps limit) (t.LeftParen ∷ ts) (length ts)
  plain_over special over =
      opened_over t.LeftParen insides make_inside 1 12 inside_makes (omega arith) limit (t.LeftParen ∷ []) ts
      (t.RightParen ∷ []) (a.Con g.Unit) (unit_good limit) (sym (con_spelled g.Unit))
      (λ s same. plain_class s (begins_same is_special ts s same ∙ special))
      (λ p s after same e room. over (within_less limit 1 _ (omega arith) room)) (t.LeftParen ∷ ts) refl

  pub quote_over : begins is_backquote ts ≡ true → (Within limit 1 → ⊥) →
      Rejects (within aexps limit) (t.LeftParen ∷ ts) (length ts)
  quote_over quote over =
      opened_over t.LeftParen right_sections make_right 1 13 right_makes (omega arith) limit (t.LeftParen ∷ []) ts
      (t.RightParen ∷ []) (a.Con g.Unit) (unit_good limit) (sym (con_spelled g.Unit))
      (λ s same. quote_paren s (begins_same is_backquote ts s same ∙ quote))
      (λ p s after same e room. over (within_less limit 1 _ (omega arith) room)) (t.LeftParen ∷ ts) refl

  module _ (k : Terminal) (next : Ts) (at : ts ≡ k ∷ next) (is : is_symbol k ≡ true)
      (ends : begins is_right_paren next ≡ false) where
    name : Took aexps limit (t.LeftParen ∷ k ∷ t.RightParen ∷ []) (named_symbol k) [] 0
    name = symbol_took limit (t.LeftParen ∷ k ∷ t.RightParen ∷ []) k [] is refl

    spelled : t.LeftParen ∷ k ∷ t.RightParen ∷ [] ≡ spelling_aexp (named_symbol k)
    spelled = name.spelled ∙ append-nil (spelling_aexp (named_symbol k))

    pub symbol_over : is_minus k ≡ false → (Within limit 1 → ⊥) →
        Rejects (within aexps limit) (t.LeftParen ∷ ts) (length next)
    symbol_over plus over =
        opened_over t.LeftParen right_sections make_right 1 13 right_makes (omega arith) limit
        (t.LeftParen ∷ k ∷ []) next (t.RightParen ∷ []) (named_symbol k) name.reads.good spelled
        (λ s same. symbol_paren k s is plus (begins_same is_right_paren next s same ∙ ends))
        (λ p s after same e room. over (within_less limit 1 _ (omega arith) room))
        (t.LeftParen ∷ ts) (ap (λ l. t.LeftParen ∷ l) at)

    pub minus_over : k ≡ t.VarSym minus → (Within limit 2 → ⊥) →
        Rejects (within aexps limit) (t.LeftParen ∷ ts) (length next)
    minus_over dash over =
        opened_over t.LeftParen insides make_inside 1 12 inside_makes (omega arith) limit
        (t.LeftParen ∷ k ∷ []) next (t.RightParen ∷ []) (named_symbol k) name.reads.good spelled
        (λ s same. ap (λ j. paren_class (j ∷ s)) dash
        ∙ minus_paren s (begins_same is_right_paren next s same ∙ ends))
        (λ p s after same e room. over (deeper p s after e room))
        (t.LeftParen ∷ ts) (ap (λ l. t.LeftParen ∷ l) at)
      where
        deeper : (p : Inside) (s after : Ts) → t.LeftParen ∷ k ∷ s ≡ spelling_aexp (make_inside p) ++ after →
            Within limit (insides.deep p + 1) → Within limit 2
        deeper p s after e room =
            let behind : k ∷ s ≡ insides.tokens p ++ after =
            uncons t.LeftParen _ _ (e ∙ ap (λ l. l ++ after) (inside_makes.spelled p)) in
            let deep = inside_minus p after (sym (ap (begins is_minus) behind) ∙ ap is_minus dash) in
            within_less limit 2 _ (omega (arith, deep)) room

-- right sections
op_front : (op : QOpTree) → (k : Terminal) × (l : Ts) × (qop_tokens op ≡ k ∷ l)
op_front (q.Sym n) = (_, _, refl)
op_front (q.Quoted n) = (_, _, refl)
op_front (q.QualifiedSym n) = (_, _, refl)
op_front (q.QualifiedQuoted n) = (_, _, refl)
op_front (q.Con (o.Sym n)) = (_, _, refl)
op_front (q.Con o.Colon) = (_, _, refl)
op_front (q.Con (o.Quoted n)) = (_, _, refl)

op_of : (k : Terminal) → is_symbol k ≡ true → (op : QOpTree) × (qop_tokens op ≡ k ∷ [])
op_of (t.VarSym n) h = (q.Sym n, refl)
op_of (t.QVarSym n) h = (q.QualifiedSym n, refl)
op_of (t.ConSym n) h = (q.Con (o.Sym n), refl)
op_of t.Colon h = (q.Con o.Colon, refl)
op_of _ h = absurd (true≢false (sym h))

module _ (limit : Option ℕ) (ts : Ts) (opens : OpensSection ts) where
  -- no operator that begins so is a bare `-`
  not_minus : OpensSection ts → (op : QOpTree) (k : Terminal) (l l' : Ts) → ts ≡ k ∷ l → qop_tokens op ≡ k ∷ l' →
      not (is_bare_minus op) ≡ true
  not_minus (quoted h) (q.Sym n) k l l' at is =
      let first : k ≡ t.VarSym n = cc in
      absurd (true≢false (sym h ∙ ap (begins is_backquote) at ∙ ap is_backquote first))
  not_minus (symbol j next at' h m e) (q.Sym n) k l l' at is =
      let first : k ≡ t.VarSym n = cc in
      let same : j ∷ next ≡ k ∷ l = sym at' ∙ at in
      let second : j ≡ k = cc in
      ap not (sym (ap is_minus (second ∙ first)) ∙ m)
  not_minus opens (q.Quoted n) k l l' at is = refl
  not_minus opens (q.QualifiedSym n) k l l' at is = refl
  not_minus opens (q.QualifiedQuoted n) k l l' at is = refl
  not_minus opens (q.Con op) k l l' at is = refl

  op_took : (l : Option ℕ) (op : QOpTree) (rest : Ts) (m : ℕ) → Took qops l ts op rest m →
      Took section_ops l ts op rest m
  op_took l op rest m acc =
      let f = op_front op in
      record {
        spelled = acc.spelled;
        reads = reads_fewer (within qops l) (within section_ops l) (λ x. refl) (λ x good. (refl, good.1))
            (λ x k good e. e) op rest acc.reads (
              not_minus opens op f.0 (f.1 ++ rest) f.1 (acc.spelled ∙ ap (λ l. l ++ rest) f.2) f.2,
              acc.reads.good.1,
            );
        measured_is = acc.measured_is;
        room = acc.room;
      }

  op_failed : (l : Option ℕ) (e : Fault) → Failed qops l ts e → Failed section_ops l ts e
  op_failed l e r =
      fails_after (within section_ops l) (within qops l) [] ts ts e refl
      (λ before bad split r'. record {
        begun = begun before bad split r'.begun.0 r'.begun.1 r'.begun.3;
        never = λ s other after same good quiet e. r'.never s other after same (refl, good.1) quiet e;
      }) r
    where
      begun : (before bad : Ts) → ts ≡ before ++ bad → (more : Ts) (op : QOpTree) → before ++ more ≡ qop_tokens op →
          (more : Ts) × (op : QOpTree) × (within section_ops l).Good op × (before ++ more ≡ qop_tokens op)
      begun [] bad split more op is = (_, q.Con o.Colon, (refl, within_zero l), refl)
      begun (k ∷ before) bad split more op is = (
        more,
        op,
        (not_minus opens op k (before ++ bad) (before ++ more) split (sym is), within_zero l),
        is,
      )

  symbol_begins : (k : Terminal) (next bad : Ts) → ts ≡ k ∷ next → is_symbol k ≡ true → bad ≡ k ∷ next →
      Refuses (within right_sections (lowered limit 1)) [] bad → ⊥
  symbol_begins k next bad at h is r =
      let low = lowered limit 1 in
      let op = op_of k h in
      let p : QOpTree × InfixTree = (op.0, least_infix) in
      let more = (ended infixes t.RightParen).tokens least_infix in
      let good = least_links_good false low in
      let spelled : right_sections.tokens p ≡ k ∷ more = ap (λ l. l ++ more) op.1 in
      r.never (k ∷ more) p [] (subst (λ l. SameStart l (k ∷ more)) (sym is) (more, refl)) (
        and_from _ _ (not_minus opens op.0 k next [] at op.1) good.0,
        within_less low _ (depth_of_infix least_infix) (omega arith) good.1,
      )
      refl (sym spelled ∙ sym (append-nil (right_sections.tokens p)))

  section_stays : OpensSection ts → (before bad s : Ts) → ts ≡ before ++ bad → SameStart bad s →
      Refuses (within right_sections (lowered limit 1)) before bad → aexp_class (t.LeftParen ∷ (before ++ s)) ≡ 13
  section_stays (quoted h) before bad s split same r =
      quote_paren (before ++ s) (same_front is_backquote ts before bad s true split same h)
  section_stays (symbol k next at h m ends) [] bad s split same r =
      absurd (symbol_begins k next bad at h (sym split ∙ at) r)
  section_stays (symbol k next at h m ends) (j ∷ before) bad s split same r =
      let cut : j ∷ (before ++ bad) ≡ k ∷ next = sym split ∙ at in
      let head : j ≡ k = cc in
      let tail : next ≡ before ++ bad = cc in
      ap (λ i. paren_class (i ∷ (before ++ s))) head
      ∙ symbol_paren k (before ++ s) h m (same_front is_right_paren next before bad s false tail same ends)

  section_failed : Within limit 1 → (e : Fault) → Failed right_sections (lowered limit 1) ts e →
      Failed aexps limit (t.LeftParen ∷ ts) e
  section_failed room e r =
      opened_failed t.LeftParen right_sections make_right 1 13 right_makes (omega arith) limit room ts
      (section_stays opens) e r

  pub section_op_failed : Within limit 1 → (e : Fault) → Failed qops (lowered limit 1) ts e →
      Failed aexps limit (t.LeftParen ∷ ts) e
  section_op_failed room e r =
      section_failed room e (row_first section_ops (ended infixes t.RightParen) starts_exp section_follows
      (lowered limit 1) ts e (op_failed (lowered limit 1) e r))

  module _ (room : Within limit 1) (op : QOpTree) (here : Ts) (m : ℕ)
      (acc : Took qops (lowered limit 1) ts op here m) (l : Option ℕ) (low : l ≡ lowered limit 1) where
    chain_failed : (e : Fault) → Failed (ended infixes t.RightParen) (lowered limit 1) here e →
        Failed aexps limit (t.LeftParen ∷ ts) e
    chain_failed e r =
        section_failed room e (row_second section_ops (ended infixes t.RightParen) starts_exp section_follows
        (lowered limit 1) ts op here m e (op_took (lowered limit 1) op here m acc) r)

    pub section_chain_failed : (e : Fault) → Failed infixes l here e → Failed aexps limit (t.LeftParen ∷ ts) e
    section_chain_failed e r =
        chain_failed e (ended_failed infixes (lowered limit 1) t.RightParen (infix_ends t.RightParen refl) here e
        (subst (λ o. Failed infixes o here e) low r))

    pub section_missed : (x : InfixTree) (behind : Ts) (n : ℕ) → Took infixes l here x behind n →
        begins is_right_paren behind ≡ false → Rejects (within aexps limit) (t.LeftParen ∷ ts) (length behind)
    section_missed x behind n part missed =
        chain_failed (At (length behind)) (ended_missed infixes (lowered limit 1) t.RightParen
        (infix_ends t.RightParen refl) is_right_paren refl here x behind n
        (subst (λ o. Took infixes o here x behind n) low part) missed)

    pub section_took : (x : InfixTree) (behind rest : Ts) (n : ℕ) → Took infixes l here x behind n →
        behind ≡ t.RightParen ∷ rest → Took aexps limit (t.LeftParen ∷ ts) (a.RightSection op x) rest (n + 1)
    section_took x behind rest n part at =
        let deep : max m n ≡ n = omega (arith, acc.measured_is) in
        subst (λ d. Took aexps limit (t.LeftParen ∷ ts) (a.RightSection op x) rest (d + 1)) deep
        (opened_took t.LeftParen right_sections make_right 1 13 right_makes (omega arith) limit room ts (op, x) rest
        (max m n)
        (row_took section_ops (ended infixes t.RightParen) starts_exp section_follows (lowered limit 1) ts op here m x
        rest n (op_took (lowered limit 1) op here m acc)
        (ended_took infixes (lowered limit 1) t.RightParen (infix_ends t.RightParen refl) here x behind rest n
        (subst (λ o. Took infixes o here x behind n) low part) at)))

-- lists
module _ (limit : Option ℕ) (ts : Ts) (some : begins is_right_bracket ts ≡ false) where
  list_failed : Within limit 1 → (e : Fault) → Failed (ended (exp_parts None) t.RightBracket) (lowered limit 1) ts e →
      Failed aexps limit (t.LeftBracket ∷ ts) e
  list_failed room e r =
      opened_failed t.LeftBracket (ended (exp_parts None) t.RightBracket) (λ p. a.List p.0 p.1) 1 6 list_makes
      (omega arith) limit room ts
      (λ before bad s split same q. list_bracket (before ++ s)
      (same_front is_right_bracket ts before bad s false split same some)) e r

  pub list_over : (Within limit 1 → ⊥) → Rejects (within aexps limit) (t.LeftBracket ∷ ts) (length ts)
  list_over over =
      opened_over t.LeftBracket (ended (exp_parts None) t.RightBracket) (λ p. a.List p.0 p.1) 1 6 list_makes
      (omega arith) limit (t.LeftBracket ∷ []) ts (t.RightBracket ∷ []) (a.Con g.List) (nil_good limit)
      (sym (con_spelled g.List)) (λ s same. list_bracket s (begins_same is_right_bracket ts s same ∙ some))
      (λ p s after same e room. over (within_less limit 1 _ (omega arith) room)) (t.LeftBracket ∷ ts) refl

  pub parts_failed : Within limit 1 → (l : Option ℕ) → l ≡ lowered limit 1 → (e : Fault) →
      Failed (exp_parts None) l ts e → Failed aexps limit (t.LeftBracket ∷ ts) e
  parts_failed room l low e r =
      list_failed room e (ended_failed (exp_parts None) (lowered limit 1) t.RightBracket parts_end ts e
      (subst (λ o. Failed (exp_parts None) o ts e) low r))

  pub parts_missed : Within limit 1 → (l : Option ℕ) → l ≡ lowered limit 1 → (p : Parts) (here : Ts) (m : ℕ) →
      Took (exp_parts None) l ts p here m → begins is_right_bracket here ≡ false →
      Rejects (within aexps limit) (t.LeftBracket ∷ ts) (length here)
  parts_missed room l low p here m acc missed =
      list_failed room (At (length here)) (ended_missed (exp_parts None) (lowered limit 1) t.RightBracket parts_end
      is_right_bracket refl ts p here m (subst (λ o. Took (exp_parts None) o ts p here m) low acc) missed)

  pub parts_took : Within limit 1 → (l : Option ℕ) → l ≡ lowered limit 1 → (p : Parts) (here rest : Ts) (m : ℕ) →
      Took (exp_parts None) l ts p here m → here ≡ t.RightBracket ∷ rest →
      Took aexps limit (t.LeftBracket ∷ ts) (a.List p.0 p.1) rest (m + 1)
  parts_took room l low p here rest m acc at =
      opened_took t.LeftBracket (ended (exp_parts None) t.RightBracket) (λ p. a.List p.0 p.1) 1 6 list_makes
      (omega arith) limit room ts p rest m
      (ended_took (exp_parts None) (lowered limit 1) t.RightBracket parts_end ts p here rest m
      (subst (λ o. Took (exp_parts None) o ts p here m) low acc) at)

-- the name of the unit or of a tuple
module _ (limit : Option ℕ) (ts : Ts) where
  fewer : (l : Option ℕ) (n : ℕ) → n < 15 → (within tuple_names l).Good n
  fewer l n lt = (grind (arith, nat_tests), within_zero l)

  fewer_back : (l : Option ℕ) (n : ℕ) → (within tuple_names l).Good n → n < 15
  fewer_back l n good = let is = good.0 in grind (arith, nat_tests)

  pub tuple_took : (n : ℕ) (rest : Ts) (m : ℕ) → Accepts tuple_name_form (λ n. 0) ts n rest m →
      Took aexps limit (t.LeftParen ∷ ts) (a.Con (named_con n)) rest m
  tuple_took n rest m acc =
      let l = lowered limit 0 in
      let same : m + 0 ≡ m = omega arith in
      subst (Took aexps limit (t.LeftParen ∷ ts) (a.Con (named_con n)) rest) same
      (opened_took t.LeftParen tuple_names (λ n. a.Con (named_con n)) 0 7 tuple_makes (omega arith) limit
      (within_zero limit) ts n rest m (record {
        spelled = acc.spelled;
        reads = reads_same tuple_name_form (within tuple_names l) (λ n. refl) (fewer l) (fewer_back l) (λ n k e. e) n
            rest acc.reads;
        measured_is = acc.measured_is;
        room = acc.room;
      }))

  pub tuple_failed : begins starts_tuple_name ts ≡ true → (e : Fault) → Fails tuple_name_form ts e →
      Failed aexps limit (t.LeftParen ∷ ts) e
  tuple_failed name e r =
      let l = lowered limit 0 in
      opened_failed t.LeftParen tuple_names (λ n. a.Con (named_con n)) 0 7 tuple_makes (omega arith) limit
      (within_zero limit) ts
      (λ before bad s split same q. name_paren (before ++ s)
      (same_front starts_tuple_name ts before bad s true split same name)) e
      (fails_after (within tuple_names l) tuple_name_form [] ts ts e refl
      (λ before bad split q. refuses_same tuple_name_form (within tuple_names l) (λ n. refl) (fewer l) (fewer_back l)
      (λ n k e. e) before bad q) r)

-- what is in brackets, by what was read
pub bracketed_exp : (i : Inside) (e : ExpTree) (more : List ExpTree) → bunch_of i ≡ (fr.Exp e, more) →
    a.Parts e more ≡ make_inside i
bracketed_exp (inl p) e more is =
    let head : fr.Exp p.0 ≡ fr.Exp e = ap (λ (b : Bunch). b.0) is in
    let tail : p.1 ≡ more = ap (λ (b : Bunch). b.1) is in
    let first : p.0 ≡ e = cc in
    sym (ap (λ x. a.Parts x p.1) first ∙ ap (a.Parts e) tail)
bracketed_exp (inr p) e more is =
    let head : fr.Section p.0 p.1 ≡ fr.Exp e = ap (λ (b : Bunch). b.0) is in
    absurd cc

pub bracketed_section : (i : Inside) (x : InfixTree) (op : QOpTree) (more : List ExpTree) →
    bunch_of i ≡ (fr.Section x op, more) → a.LeftSection x op ≡ make_inside i
bracketed_section (inl p) x op more is =
    let head : fr.Exp p.0 ≡ fr.Section x op = ap (λ (b : Bunch). b.0) is in
    absurd cc
bracketed_section (inr p) x op more is =
    let head : fr.Section p.0 p.1 ≡ fr.Section x op = ap (λ (b : Bunch). b.0) is in
    let first : p.0 ≡ x = cc in
    let second : p.1 ≡ op = cc in
    sym (ap (λ y. a.LeftSection y p.1) first ∙ ap (a.LeftSection x) second)
