-- The first operand of a chain, and one more.
use Rattle.std.proofs.Common.{◌≡◌, ℕ, ◌+◌, ◌≤◌, Bool, true, false, List, [], ◌∷◌, ◌++◌, length, refl}
use Rattle.std.proofs.Common.{sym, ap, ◌∙◌, subst, true≢false, arith, length-append, append_assoc}
use Rattle.std.specs.Prelude.{map, max, flat_map, ◌-◌, Option, Some, None}
use Rattle.std.proofs.lemmas.Bool.{and_from}
use Rattle.std.proofs.lemmas.List.{append-nil}
use Rattle.hs_forms.specs.Reading.{SameStart, begins, Reads, Refuses}
use Rattle.hs_forms.specs.Limits.{Within, lowered, deepest}
use Rattle.hs_forms.specs.Answers.{Rejects, Fails}
use Rattle.hs_forms.specs.Forms.{item_form}
use Rattle.hs_forms.specs.declared.fault.Fault.{Fault}
use Rattle.hs_forms.specs.declared.fault.Fault.TheVariants as f
use Rattle.hs_forms.proofs.FormLemmas.{begins_within, begins_same, begins_append, same_start_append, uncons}
use Rattle.hs_forms.proofs.LimitLemmas.{within_less, within_raised, within_max, within_zero}
use Rattle.hs_forms.proofs.StateLemmas.{State, state_first, state_step}
use Rattle.hs_forms.proofs.ChainLemmas.{chain_first, chain_step, quiet_inner, quiet_head}
use Rattle.hs_tokens.specs.Terminals.{minus, is_minus}
use Rattle.hs_tokens.specs.declared.terminal.Terminal.TheVariants as t
use Rattle.hs_trees.specs.Patterns.{Ts}
use Rattle.hs_modules.specs.Words.{qop_tokens}
use Rattle.hs_modules.specs.ExpressionExtents.{sign}
use Rattle.hs_modules.specs.Tokens.{sign_tokens, spelling_infix, spelling_operand}
use Rattle.hs_modules.specs.Formed.{facts_of_infix}
use Rattle.hs_modules.specs.declared.names.QOpTree.{QOpTree}
use Rattle.hs_modules.specs.declared.names.QOpTree.TheVariants as q_of
use Rattle.hs_modules.specs.declared.expressions.OperandTree.{OperandTree}
use Rattle.hs_modules.specs.declared.expressions.InfixTree.{InfixTree, out-InfixTree}
use Rattle.hs_modules.specs.declared.expressions.SignedOperand.{SignedOperand}
use Rattle.hs_modules.specs.declared.expressions.SignedOperand.{out-roll-SignedOperand}
use Rattle.hs_expression_forms.specs.Trees.{within, Took}
use Rattle.hs_expression_forms.specs.Expressions.{is_operand, depth_of_operand, starts_operand}
use Rattle.hs_expression_forms.specs.Expressions.{depth_of_infix, operands}
use Rattle.hs_expression_forms.specs.Links.{Maybe, maybe_tokens, maybe_open, maybe_deep, maybe_goes_on, maybes, Piece}
use Rattle.hs_expression_forms.specs.Links.{piece_tokens, piece_deep, last_maybe, pieces_form, pieces_formed}
use Rattle.hs_expression_forms.specs.Links.{Links, links_head, links_pieces, links, link_of, sign_of, head_of}
use Rattle.hs_expression_forms.specs.Links.{pieces_of_link, tail_pieces}
use Rattle.hs_expression_forms.proofs.PieceLemmas.{pieces_chain, piece_item, last_more}
use Rattle.hs_expression_forms.proofs.LinkLayerLemmas.{links_good, links_quiet, links_spelled, infix_deep, infix_formed}
use Rattle.hs_expression_forms.proofs.LinkLayerLemmas.{infix_last, negated_of, operand_of}
use Rattle.hs_expression_forms.proofs.LinkLemmas.{LinkState, make_infix}
use Rattle.hs_expression_forms.proofs.LinkLemmas.{make_signed, make_link}
use Rattle.hs_expression_forms.proofs.OperandLemmas.{operand_starts}
use Rattle.hs_expression_forms.proofs.QOpLemmas.{qop_unique, qop_long}
use Rattle.hs_expression_forms.proofs.LinkReturnLemmas.{chain_pieces, add, add_pieces, add_head, made_pieces, made_head}
use Rattle.hs_expression_forms.proofs.LinkReturnLemmas.{SignedTook, over, part, SignedFails}
use Rattle.hs_expression_forms.proofs.LinkReturnLemmas.{operand_not_minus}
use Rattle.hs_expression_forms.proofs.LinkReturnLemmas.{add_good}
use Rattle.hs_expression_forms.proofs.LinkAnswerLemmas.{least_operand, least_operand_good}
use Rattle.hs_modules.specs.declared.expressions.SignedOperand.{roll-out-SignedOperand}

maybe_reads : (limit : Option ℕ) (e : OperandTree) (rest : Ts) → Reads (within operands limit) e rest →
    Reads (within maybes limit) (Some e) rest
maybe_reads limit e rest r = record {
  good = r.good;
  only = λ s other after same good quiet q. choose s other after same good quiet q;
}
  where
    choose : (s : Ts) (other : Maybe) (after : Ts) → SameStart rest s → (within maybes limit).Good other →
        begins (maybe_goes_on other) after ≡ false → spelling_operand e ++ s ≡ maybe_tokens other ++ after →
        (other ≡ Some e) × (after ≡ s)
    choose s None after same good quiet q =
        absurd (true≢false (sym (begins_append starts_operand (spelling_operand e) s (operand_starts e))
        ∙ ap (begins starts_operand) q ∙ quiet))
    choose s (Some x) after same good quiet q = let found = r.only s x after same good quiet q in
        (ap Some found.0, found.1)

-- no operand before a sign
none_reads : (limit : Option ℕ) (ts : Ts) → begins is_minus ts ≡ true → Reads (within maybes limit) None ts
none_reads limit ts h = record {
  good = (refl, within_zero limit);
  only = λ s other after same good quiet q. choose s other after same q;
}
  where
    choose : (s : Ts) (other : Maybe) (after : Ts) → SameStart ts s → s ≡ maybe_tokens other ++ after →
        (other ≡ None) × (after ≡ s)
    choose s None after same q = (refl, sym q)
    choose s (Some x) after same q =
        absurd (operand_not_minus x after s q (begins_same is_minus ts s same ∙ h))

-- an operator and what stands behind it
piece_reads : (limit : Option ℕ) (n : ℕ) (op : QOpTree) (v : Maybe) (rest : Ts) →
    Reads (within maybes (lowered limit (n + 1))) v rest →
    Reads (item_form piece_tokens (piece_item limit) (λ p. maybe_goes_on p.1) n) (op, v) rest
piece_reads limit n op v rest r = record {
  good = r.good;
  only = λ s other after same good quiet q.
      let cut = qop_unique op other.0 (maybe_tokens v ++ s) (maybe_tokens other.1 ++ after)
      (sym (append_assoc (qop_tokens op) (maybe_tokens v) s) ∙ q
      ∙ append_assoc (qop_tokens other.0) (maybe_tokens other.1) after) in
      let found = r.only s other.1 after same good quiet (sym cut.1) in
      (λ i. (cut.0 i, found.0 i), found.1);
}

pub lowered_none : (limit : Option ℕ) → lowered limit 0 ≡ limit
lowered_none None = refl
lowered_none (Some m) = let e : m - 0 ≡ m = omega arith in ap Some e

module _ (limit : Option ℕ) (ts : Ts) (x : InfixTree) (here : Ts) (deep ops : ℕ)
    (st : LinkState limit ts x here deep ops) where
  last_shut : (facts_of_infix x).is_open ≡ false → maybe_open (last_maybe (links_head (x, None))
      (chain_pieces x)) ≡ false
  last_shut shut = let last = infix_last x in ap maybe_open last.1 ∙ last.2 ∙ shut

  -- the state of the pieces behind one more operand
  step_state : (facts_of_infix x).is_open ≡ false →
      (op : QOpTree) (rest : Ts) → here ≡ qop_tokens op ++ rest →
      (b : Bool) (e : OperandTree) (next rest' : Ts) (m : ℕ) → rest ≡ sign_tokens b ++ next →
      Took operands (lowered limit ((ops + 1) + sign b)) next e rest' m →
      State (pieces_chain limit) ts (links_head (x, None)) (chain_pieces x ++ link_of op b e) rest' (max deep m)
  step_state shut op rest at false e next rest' m split took =
      let n : (ops + 1) + 0 ≡ length (chain_pieces x) + 1 = omega (arith, st.ops_is) in
      let took' = subst (λ k. Took operands (lowered limit k) next e rest' m) n took in
      let whole = at ∙ ap (λ l. qop_tokens op ++ l) split in
      state_step (pieces_chain limit) ts (links_head (x, None)) (chain_pieces x) here deep (op, Some e) rest' m st.state
      (last_shut shut) (record {
        spelled = whole ∙ ap (λ l. qop_tokens op ++ l) took'.spelled
            ∙ sym (append_assoc (qop_tokens op) (spelling_operand e) rest');
        reads = piece_reads limit (length (chain_pieces x)) op (Some e) rest'
            (maybe_reads (lowered limit (length (chain_pieces x) + 1)) e rest' took'.reads);
        measured_is = took'.measured_is;
        room = omega (arith, took'.room, ap length whole, length-append (qop_tokens op) next);
      })
  step_state shut op rest at true e next rest' m split took =
      let c = pieces_chain limit in
      let k = length (chain_pieces x) in
      let long = length-append (chain_pieces x) ((op, None) ∷ []) in
      let n : (ops + 1) + 1 ≡ length (chain_pieces x ++ (op, None) ∷ []) + 1 = omega (arith, st.ops_is, long) in
      let took' = subst (λ k. Took operands (lowered limit k) next e rest' m) n took in
      let one : State c ts (links_head (x, None)) (chain_pieces x ++ (op, None) ∷ []) rest (max deep 0) =
      state_step c ts (links_head (x, None)) (chain_pieces x) here deep (op, None) rest 0 st.state (last_shut shut)
      (record {
        spelled = at ∙ ap (λ l. l ++ rest) (sym (append-nil (qop_tokens op)));
        reads = piece_reads limit k op None rest
            (none_reads (lowered limit (k + 1)) rest (ap (begins is_minus) split));
        measured_is = refl;
        room = omega (arith, ap length at, length-append (qop_tokens op) rest, qop_long op);
      }) in
      let two = state_step c ts (links_head (x, None)) (chain_pieces x ++ (op, None) ∷ []) rest (max deep 0)
      (q_of.Sym minus, Some e) rest' m one
      (ap maybe_open (last_more (links_head (x, None)) (chain_pieces x) (op, None)))
      (record {
        spelled = split ∙ ap (λ l. t.VarSym minus ∷ l) took'.spelled;
        reads = piece_reads limit (length (chain_pieces x ++ (op, None) ∷ [])) (q_of.Sym minus) (Some e) rest'
            (maybe_reads (lowered limit (length (chain_pieces x ++ (op, None) ∷ []) + 1)) e rest' took'.reads);
        measured_is = took'.measured_is;
        room = omega (arith, took'.room, ap length split);
      }) in
      let deeper : max (max deep 0) m ≡ max deep m = omega arith in
      subst (λ d. State c ts (links_head (x, None)) (chain_pieces x ++ link_of op true e) rest' d) deeper
      (subst (λ l. State c ts (links_head (x, None)) l rest' (max (max deep 0) m))
      (append_assoc (chain_pieces x) ((op, None) ∷ []) ((q_of.Sym minus, Some e) ∷ [])) two)

  link_long : (op : QOpTree) (b : Bool) (e : OperandTree) → length (link_of op b e) ≡ 1 + sign b
  link_long op true e = omega arith
  link_long op false e = omega arith

  pub link_step : (facts_of_infix x).is_open ≡ false →
      (op : QOpTree) (rest : Ts) → here ≡ qop_tokens op ++ rest →
      (s : SignedOperand) (rest' : Ts) (m : ℕ) → SignedTook limit deep (ops + 1) rest s rest' m →
      LinkState limit ts (make_infix (out-InfixTree x).first ((out-InfixTree x).rest ++ make_link op s ∷ [])) rest'
      (max deep m) ((ops + 1) + sign (negated_of s))
  link_step shut op rest at s rest' m k =
      let b = negated_of s in
      let e = operand_of s in
      let same : make_signed b e ≡ s = roll-out-SignedOperand s in
      subst (λ s'. LinkState limit ts (make_infix (out-InfixTree x).first
      ((out-InfixTree x).rest ++ make_link op s' ∷ []))
      rest' (max deep m) ((ops + 1) + sign b)) same
      (record {
        state = subst (λ h. State (pieces_chain limit) ts h (chain_pieces (add x op b e)) rest' (max deep m))
            (sym (add_head x op b e))
            (subst (λ l. State (pieces_chain limit) ts (links_head (x, None)) l rest' (max deep m))
            (sym (add_pieces x op b e)) (step_state shut op rest at b e k.next rest' m k.at k.took));
        good = (add_good limit ts x here deep ops st op b e shut k.took.reads.good k.room false).0;
        room = subst (λ d. Within limit (max deep d + ((ops + 1) + sign b))) (sym k.took.measured_is)
            (within_max limit deep (depth_of_operand e) ((ops + 1) + sign b) k.room
            (within_raised limit (depth_of_operand e) ((ops + 1) + sign b) (within_less limit _ _ (omega arith) k.room)
            k.took.reads.good.1));
        ops_is = omega (
          arith,
          ap length (add_pieces x op b e),
          length-append (chain_pieces x) (link_of op b e),
          link_long op b e,
          st.ops_is,
        );
      })

-- the first operand
first_chain : (limit : Option ℕ) (ts : Ts) (b : Bool) (e : OperandTree) (next rest : Ts) (m : ℕ) →
    ts ≡ sign_tokens b ++ next → Took operands (lowered limit (0 + sign b)) next e rest m →
    Within limit (0 + (0 + sign b)) →
    State (pieces_chain limit) ts (head_of b e) (sign_of b e) rest m
first_chain limit ts false e next rest m at took room =
    let took' = subst (λ l. Took operands l next e rest m) (lowered_none limit) took in
    subst (λ l. State (pieces_chain limit) l (Some e) [] rest m) (sym at)
    (state_first (pieces_chain limit) next (Some e) rest m (record {
      spelled = took'.spelled;
      reads = maybe_reads limit e rest took'.reads;
      measured_is = took'.measured_is;
      room = took'.room;
    }))
first_chain limit ts true e next rest m at took room =
    let c = pieces_chain limit in
    let head : Reads c.head None ts = none_reads limit ts (ap (begins is_minus) at) in
    let so = chain_first c.form c.head c.items c.item c.inner c.starter c.make c.laws None ts head
    (c.first None head.good) in
    let item = piece_reads limit 0 (q_of.Sym minus) (Some e) rest (maybe_reads (lowered limit 1) e rest took.reads) in
    record {
      so = chain_step c.form c.head c.items c.item c.inner c.starter c.make c.laws None []
          (q_of.Sym minus, Some e) ts rest so
          (at ∙ ap (λ l. t.VarSym minus ∷ l) took.spelled) item (c.more None []
          (q_of.Sym minus, Some e) so.good refl item.good);
      split = at ∙ ap (λ l. t.VarSym minus ∷ l) took.spelled
          ∙ ap (λ l. (t.VarSym minus ∷ l) ++ rest) (sym (append-nil (spelling_operand e)));
      deep_is = omega (arith, took.measured_is);
      room = omega (arith, took.room, ap length at);
    }

pub first_state : (limit : Option ℕ) (ts : Ts) (s : SignedOperand) (rest : Ts) (m : ℕ) →
    SignedTook limit 0 0 ts s rest m →
    LinkState limit ts (make_infix s []) rest m (0 + sign (negated_of s))
first_state limit ts s rest m k =
    let b = negated_of s in
    let e = operand_of s in
    let st = first_chain limit ts b e k.next rest m k.at k.took k.room in
    let pieces : chain_pieces (make_infix s []) ≡ sign_of b e = made_pieces s [] ∙ append-nil (sign_of b e) in
    let state = subst (λ h. State (pieces_chain limit) ts h (chain_pieces (make_infix s [])) rest m) (sym
    (made_head s []))
    (subst (λ l. State (pieces_chain limit) ts (head_of b e) l rest m) (sym pieces) st) in
    record {
      state = state;
      good = infix_formed (make_infix s []) ∙ state.so.good.0;
      room = subst (λ d. Within limit (d + (0 + sign b))) (sym k.took.measured_is)
          (within_raised limit (depth_of_operand e) (0 + sign b) (within_less limit _ _ (omega arith) k.room)
          k.took.reads.good.1);
      ops_is = omega (arith, ap length pieces, sign_long b e);
    }
  where
    sign_long : (b : Bool) (e : OperandTree) → length (sign_of b e) ≡ sign b
    sign_long true e = omega arith
    sign_long false e = omega arith

-- how a tree begins
pub first_is : (lone : Bool) (limit : Option ℕ) (other : Links) (s after : Ts) → (within (links lone) limit).Good other →
    begins ((links lone).extends other) after ≡ false → s ≡ (links lone).tokens other ++ after →
    (b : Bool) × (e : OperandTree) × (tail : Ts) × (s ≡ sign_tokens b ++ (spelling_operand e ++ tail))
    × (within operands (lowered limit (0 + sign b))).Good e × (begins (operands.extends e) tail ≡ false)
    × (sign b ≤ depth_of_infix other.0)
first_is lone limit other s after good quiet e =
    let o = (out-InfixTree other.0) in
    let more = flat_map pieces_of_link o.rest ++ tail_pieces other.1 in
    let b = negated_of o.first in
    let x = operand_of o.first in
    let pieces : links_pieces other ≡ sign_of b x ++ more =
    append_assoc (sign_of b x) (flat_map pieces_of_link o.rest) (tail_pieces other.1) in
    by b x more pieces refl (subst (λ l. (pieces_form limit).Good (links_head other, l)) pieces
    (links_good limit lone other good))
    (subst (λ l. begins ((pieces_form limit).extends (links_head other, l)) after ≡ false) pieces
    (begins_within ((links lone).extends other) ((pieces_form limit).extends
    (links_head other, links_pieces other)) after
    (links_quiet lone limit other) quiet))
    (e ∙ ap (λ l. l ++ after) (sym (links_spelled other) ∙ ap (λ l. maybe_tokens
    (links_head other) ++ flat_map piece_tokens l) pieces))
    (omega (arith, infix_deep other.0, length-append (sign_of b x) (flat_map pieces_of_link o.rest), sign_long b x))
  where
    sign_long : (b : Bool) (e : OperandTree) → length (sign_of b e) ≡ sign b
    sign_long true e = omega arith
    sign_long false e = omega arith

    by : (b : Bool) (x : OperandTree) (more : List Piece) → links_pieces other ≡ sign_of b x ++ more →
        links_head other ≡ head_of b x →
        (pieces_form limit).Good (links_head other, sign_of b x ++ more) →
        begins ((pieces_form limit).extends (links_head other, sign_of b x ++ more)) after ≡ false →
        s ≡ (maybe_tokens (links_head other) ++ flat_map piece_tokens (sign_of b x ++ more)) ++ after →
        sign b ≤ depth_of_infix other.0 →
        (b : Bool) × (e : OperandTree) × (tail : Ts) × (s ≡ sign_tokens b ++ (spelling_operand e ++ tail))
        × (within operands (lowered limit (0 + sign b))).Good e × (begins (operands.extends e) tail ≡ false)
        × (sign b ≤ depth_of_infix other.0)
    by false x more at head good quiet e le =
        let c = pieces_chain limit in
        let good' = subst (λ h. (pieces_form limit).Good (h, more)) head good in
        let quiet' = subst (λ h. begins ((pieces_form limit).extends (h, more)) after ≡ false) head quiet in
        let g = c.laws.good_head (Some x) more good' in (
          false,
          x,
          flat_map piece_tokens more ++ after,
          e ∙ ap (λ h. (maybe_tokens h ++ flat_map piece_tokens more) ++ after) head
              ∙ append_assoc (spelling_operand x) (flat_map piece_tokens more) after,
          subst (λ l. (within operands l).Good x) (sym (lowered_none limit)) g,
          quiet_head c.form c.head c.items c.item c.inner c.starter c.make c.laws (Some x) more after good' quiet',
          le,
        )
    by true x more at head good quiet e le =
        let c = pieces_chain limit in
        let g = c.laws.good_item (links_head other) [] (q_of.Sym minus, Some x) more good in (
          true,
          x,
          flat_map piece_tokens more ++ after,
          e ∙ ap (λ h. (maybe_tokens h ++ flat_map piece_tokens ((q_of.Sym minus, Some x) ∷ more)) ++ after) head
              ∙ append_assoc (t.VarSym minus ∷ spelling_operand x) (flat_map piece_tokens more) after,
          g,
          quiet_inner c.form c.head c.items c.item c.inner c.starter c.make c.laws (links_head other) []
              (q_of.Sym minus, Some x) more after good quiet,
          le,
        )

-- a signed operand alone
pub signed_good : (lone : Bool) (limit : Option ℕ) (b : Bool) (e : OperandTree) → Within limit (sign b) →
    (within operands (lowered limit (0 + sign b))).Good e →
    (within (links lone) limit).Good (make_infix (make_signed b e) [], None)
signed_good lone limit b e room good =
    let s = make_signed b e in
    let x = make_infix s [] in
    let pieces : chain_pieces x ≡ sign_of b e = made_pieces s [] ∙ append-nil (sign_of (negated_of s) (operand_of s))
    ∙ ap (λ o. sign_of o.negated o.operand) (out-roll-SignedOperand (record { negated = b; operand = e })) in
    let head : links_head (x, None) ≡ head_of b e = made_head s []
    ∙ ap (λ o. head_of o.negated o.operand) (out-roll-SignedOperand (record { negated = b; operand = e })) in (
      infix_formed x ∙ ap (λ h. pieces_formed h (chain_pieces x)) head ∙ ap (pieces_formed (head_of b e)) pieces
          ∙ formed b good,
      subst (Within limit) (sym (infix_deep x ∙ ap (λ h. max (maybe_deep h) (deepest (map piece_deep
          (chain_pieces x))) + length (chain_pieces x)) head
          ∙ ap (λ l. max (maybe_deep (head_of b e)) (deepest (map piece_deep l)) + length l) pieces ∙ deeper b))
          (within_raised limit (depth_of_operand e) (0 + sign b) (within_less limit _ _ (omega arith) room) good.1),
    )
  where
    formed : (b : Bool) → (within operands (lowered limit (0 + sign b))).Good e →
        pieces_formed (head_of b e) (sign_of b e) ≡ true
    formed true good = and_from _ _ (and_from (is_operand e) true good.0 refl) refl
    formed false good = and_from _ _ (and_from (is_operand e) true good.0 refl) refl

    deeper : (b : Bool) → max (maybe_deep (head_of b e)) (deepest (map piece_deep (sign_of b e))) + length (sign_of b e)
        ≡ depth_of_operand e + (0 + sign b)
    deeper true = omega arith
    deeper false = omega arith

pub signed_spelled : (b : Bool) (e : OperandTree) →
    spelling_infix (make_infix (make_signed b e) []) ≡ sign_tokens b ++ spelling_operand e
signed_spelled b e =
    let s = make_signed b e in
    let x = make_infix s [] in
    let pieces : chain_pieces x ≡ sign_of b e = made_pieces s [] ∙ append-nil (sign_of (negated_of s) (operand_of s))
    ∙ ap (λ o. sign_of o.negated o.operand) (out-roll-SignedOperand (record { negated = b; operand = e })) in
    let head : links_head (x, None) ≡ head_of b e = made_head s []
    ∙ ap (λ o. head_of o.negated o.operand) (out-roll-SignedOperand (record { negated = b; operand = e })) in
    sym (append-nil (spelling_infix x)) ∙ sym (links_spelled (x, None))
    ∙ ap (λ h. maybe_tokens h ++ flat_map piece_tokens (links_pieces (x, None))) head
    ∙ ap (λ l. maybe_tokens (head_of b e) ++ flat_map piece_tokens l) (append-nil (chain_pieces x) ∙ pieces) ∙ one b
  where
    one : (b : Bool) → maybe_tokens (head_of b e) ++ flat_map piece_tokens
        (sign_of b e) ≡ sign_tokens b ++ spelling_operand e
    one true = ap (λ l. t.VarSym minus ∷ l) (append-nil (spelling_operand e))
    one false = append-nil (spelling_operand e)

abbrev pub least_infix : InfixTree
least_infix = make_infix (make_signed false least_operand) []

pub least_links_good : (lone : Bool) (limit : Option ℕ) → (within (links lone) limit).Good (
  make_infix
      (make_signed false least_operand) [],
  None,
)
least_links_good lone limit = signed_good lone limit false least_operand (within_zero limit) (least_operand_good
    (lowered limit 0))

-- no first operand
pub first_fails : (lone : Bool) (limit : Option ℕ) (ts : Ts) (e : Fault) → SignedFails limit 0 0 ts e →
    Fails (within (links lone) limit) ts e
first_fails lone limit ts f.NoMemory r = tt
first_fails lone limit ts (f.At left) (over is full) =
    subst (Rejects (within (links lone) limit) ts) (sym is) (record {
      before = [];
      bad = ts;
      split = refl;
      left_is = refl;
      refuses = record {
        begun = (_, (make_infix (make_signed false least_operand) [], None), least_links_good lone limit, refl);
        never = λ s other after same good quiet e.
            let found = first_is lone limit other s after good quiet e in
            go s same found.0 found.1 found.2 found.3 (within_less limit _ _ found.6 good.1);
      };
    })
  where
    go : (s : Ts) → SameStart ts s → (b : Bool) (x : OperandTree) (tail : Ts) →
        s ≡ sign_tokens b ++ (spelling_operand x ++ tail) → Within limit (sign b) → ⊥
    go s same true x tail is w =
        full (subst (λ c. Within limit (0 + (0 + sign c)))
        (sym (sym (begins_same is_minus ts s same) ∙ ap (begins is_minus) is)) (within_less limit _ _ (omega arith) w))
    go s same false x tail is w = full (subst (λ c. Within limit (0 + (0 + sign c))) (sym (none
        (begins is_minus ts) refl))
        (within_less limit _ _ (omega arith) w))
      where
        none : (c : Bool) → begins is_minus ts ≡ c → begins is_minus ts ≡ false
        none true h = absurd (operand_not_minus x tail s is (begins_same is_minus ts s same ∙ h))
        none false h = h
first_fails lone limit ts (f.At left) (part next split room r) = parts (begins is_minus ts) refl split room r
  where
    parts : (b : Bool) → begins is_minus ts ≡ b → ts ≡ sign_tokens b ++ next → Within limit (0 + (0 + sign b)) →
        Rejects (within operands (lowered limit (0 + sign b))) next left → Rejects (within (links lone) limit) ts left
    parts b is_b split room r = record {
      before = sign_tokens b ++ r.before;
      bad = r.bad;
      split = split ∙ ap (λ l. sign_tokens b ++ l) r.split ∙ sym (append_assoc (sign_tokens b) r.before r.bad);
      left_is = r.left_is;
      refuses = record {
        begun = (
          r.refuses.begun.0,
          (make_infix (make_signed b r.refuses.begun.1) [], None),
          signed_good lone limit b r.refuses.begun.1 (within_less limit _ _ (omega arith) room) r.refuses.begun.2,
          append_assoc (sign_tokens b) r.before r.refuses.begun.0 ∙ ap (λ l. sign_tokens b ++ l) r.refuses.begun.3
              ∙ sym (signed_spelled b r.refuses.begun.1)
              ∙ sym (append-nil (spelling_infix (make_infix (make_signed b r.refuses.begun.1) []))),
        );
        never = λ s other after same good quiet e.
            let s' = sign_tokens b ++ (r.before ++ s) in
            let found = first_is lone limit other s' after good quiet (sym (append_assoc
            (sign_tokens b) r.before s) ∙ e) in
            let same' : SameStart ts s' =
            subst (λ l. SameStart l s') (sym (split ∙ ap (λ l. sign_tokens b ++ l) r.split))
            (same_start_append (sign_tokens b) (r.before ++ r.bad) (r.before ++ s)
            (same_start_append r.before r.bad s same)) in
            go b is_b s same same' found.0 found.1 found.2 found.3 found.4 found.5 r.refuses;
      };
    }
      where
        go : (b : Bool) → begins is_minus ts ≡ b → (s : Ts) → {before bad : Ts} → SameStart bad s →
            SameStart ts (sign_tokens b ++ (before ++ s)) → (c : Bool) (x : OperandTree) (tail : Ts) →
            sign_tokens b ++ (before ++ s) ≡ sign_tokens c ++ (spelling_operand x ++ tail) →
            (within operands (lowered limit (0 + sign c))).Good x → begins (operands.extends x) tail ≡ false →
            Refuses (within operands (lowered limit (0 + sign b))) before bad → ⊥
        go true is_b s same same' true x tail is good quiet r = r.never s x tail same good quiet (uncons _ _ _ is)
        go false is_b s same same' false x tail is good quiet r = r.never s x tail same good quiet is
        go true is_b s same same' false x tail is good quiet r = operand_not_minus x tail _ is refl
        go false is_b s same same' true x tail is good quiet r =
            true≢false (sym (ap (begins is_minus) is) ∙ begins_same is_minus ts _ same' ∙ is_b)
