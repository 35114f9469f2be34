-- The returns of the reader of a chain of operators.
use Rattle.std.proofs.Common.{◌≡◌, ℕ, ◌+◌, ◌≤◌, Bool, true, false, List, [], ◌∷◌, ◌++◌, length, refl}
use Rattle.std.proofs.Common.{sym, ap, ◌∙◌, subst, true≢false, arith, length-append, append_assoc, inl, inr, ◌⊎◌}
use Rattle.std.specs.Prelude.{max, not, flat_map, ◌&&◌, Option, Some, None}
use Rattle.std.proofs.lemmas.Bool.{and_from}
use Rattle.std.proofs.lemmas.List.{append-nil}
use Rattle.std.proofs.lemmas.Grind.{flat_map-append}
use Rattle.hs_forms.specs.Reading.{SameStart, begins, Refuses}
use Rattle.hs_forms.specs.Limits.{Within, lowered}
use Rattle.hs_forms.specs.Answers.{Rejects, Fails}
use Rattle.hs_forms.specs.declared.fault.Fault.{Fault}
use Rattle.hs_forms.specs.declared.fault.Fault.TheVariants as f
use Rattle.hs_forms.proofs.FormLemmas.{begins_same, begins_append, same_start_append, uncons}
use Rattle.hs_forms.proofs.LimitLemmas.{within_less, within_zero}
use Rattle.hs_forms.proofs.StateLemmas.{fails_after}
use Rattle.hs_tokens.specs.Terminals.{minus, is_minus}
use Rattle.hs_trees.specs.Patterns.{Ts}
use Rattle.hs_modules.specs.Words.{qop_tokens}
use Rattle.hs_modules.specs.ExpressionExtents.{sign}
use Rattle.hs_modules.specs.Tokens.{sign_tokens, spelling_infix, spelling_operand}
use Rattle.hs_modules.specs.Formed.{facts_of_infix}
use Rattle.hs_modules.specs.declared.names.QOpTree.{QOpTree}
use Rattle.hs_modules.specs.declared.names.QOpTree.TheVariants as q_of
use Rattle.hs_modules.specs.declared.expressions.OperandTree.{OperandTree}
use Rattle.hs_modules.specs.declared.expressions.InfixTree.{InfixTree}
use Rattle.hs_expression_forms.specs.Trees.{within, Took}
use Rattle.hs_expression_forms.specs.Expressions.{is_operand, depth_of_operand, starts_exp, starts_qop}
use Rattle.hs_expression_forms.specs.Expressions.{is_infix, depth_of_infix, operands, qops}
use Rattle.hs_expression_forms.specs.Links.{Maybe, maybe_tokens, maybe_open, Piece}
use Rattle.hs_expression_forms.specs.Links.{piece_tokens, last_maybe, pieces_form}
use Rattle.hs_expression_forms.specs.Links.{Links, links_head, links_pieces, links, link_of}
use Rattle.hs_expression_forms.proofs.PieceLemmas.{pieces_chain, piece_starts}
use Rattle.hs_expression_forms.proofs.LinkLayerLemmas.{links_good, links_spelled}
use Rattle.hs_expression_forms.proofs.LinkLayerLemmas.{infix_last}
use Rattle.hs_expression_forms.proofs.LinkLemmas.{LinkState, Meeting, Next, ends, alone, plain, signed, meet}
use Rattle.hs_expression_forms.proofs.LinkLemmas.{links_same}
use Rattle.hs_expression_forms.proofs.LinkStepLemmas.{Behind, lone_at, plain_at, signed_at, behind, infix_takes_qop}
use Rattle.hs_expression_forms.proofs.LinkStepLemmas.{begins_none}
use Rattle.hs_expression_forms.proofs.LinkReturnLemmas.{chain_pieces, add, add_pieces, add_head}
use Rattle.hs_expression_forms.proofs.LinkReturnLemmas.{over, part, SignedFails}
use Rattle.hs_expression_forms.proofs.LinkReturnLemmas.{no_lone, alone_quiet, operand_not_minus}
use Rattle.hs_expression_forms.proofs.LinkReturnLemmas.{operand_exp, split_is, depth_is, none_good, add_good}
use Rattle.hs_expression_forms.proofs.LinkReturnLemmas.{front_is}
use Rattle.hs_modules.specs.declared.expressions.OperandTree.TheVariants as d
use Rattle.hs_modules.specs.declared.expressions.AExpTree.TheVariants as a
use Rattle.hs_trees.specs.declared.patterns.GConTree.TheVariants as g
use Rattle.hs_expression_forms.proofs.AExpLayerLemmas.{con_is, con_deep}
use Rattle.hs_expression_forms.proofs.OperandLayerLemmas.{apply_facts, apply_deep}
use Rattle.hs_expression_forms.specs.Expressions.{depth_of_aexp}
use Rattle.hs_modules.specs.Formed.{good_of}

-- a least operand
abbrev pub least_operand : OperandTree
least_operand = d.Apply (a.Con g.Unit) []

pub least_operand_good : (limit : Option ℕ) → (within operands limit).Good least_operand
least_operand_good limit =
    let is : is_operand least_operand ≡ true =
    ap good_of (apply_facts (a.Con g.Unit, [])) ∙ ap (λ b. b && true) (con_is g.Unit) in
    let deep : depth_of_operand least_operand ≡ max (depth_of_aexp (a.Con g.Unit)) 0 = apply_deep (a.Con g.Unit, []) in
    (is, subst (Within limit) (sym (omega (arith, deep, con_deep g.Unit))) (within_zero limit))

none_begins : (l : Ts) → begins (λ k. false) l ≡ false
none_begins [] = refl
none_begins (k ∷ l) = refl

lowest : (l : Option ℕ) → Within l 0
lowest None = tt
lowest (Some n) = omega arith

at_op : (limit : Option ℕ) (before bad : Ts) → Refuses (within qops limit) before bad → (s after : Ts) →
    SameStart bad s → (op : QOpTree) (v : Maybe) (rest : List Piece) →
    before ++ s ≡ flat_map piece_tokens ((op, v) ∷ rest) ++ after → ⊥
at_op limit before bad r s after same op v rest e =
    r.never s op (maybe_tokens v ++ (flat_map piece_tokens rest ++ after)) same (refl, lowest limit)
    (none_begins (maybe_tokens v ++ (flat_map piece_tokens rest ++ after)))
    (e ∙ append_assoc (qop_tokens op ++ maybe_tokens v) (flat_map piece_tokens rest) after
    ∙ append_assoc (qop_tokens op) (maybe_tokens v) (flat_map piece_tokens rest ++ after))

-- whether a minus stands here
sign_split : (ts : Ts) → (next : Ts) → ts ≡ sign_tokens (begins is_minus ts) ++ next → (b : Bool) →
    begins is_minus ts ≡ b → ts ≡ sign_tokens b ++ next
sign_split ts next at b is = at ∙ ap (λ c. sign_tokens c ++ next) is

module _ (limit : Option ℕ) (ts : Ts) (x : InfixTree) (here : Ts) (deep ops : ℕ)
    (st : LinkState limit ts x here deep ops) where
  into : (s : Ts) (op : QOpTree) (rest : Ts) → here ≡ qop_tokens op ++ rest → SameStart rest s →
      SameStart here (qop_tokens op ++ s)
  into s op rest at same =
      subst (λ l. SameStart l (qop_tokens op ++ s)) (sym at) (same_start_append (qop_tokens op) rest s same)

  deeper_than : (lone : Bool) (other : Links) (n : ℕ) → (within (links lone) limit).Good other →
      deep + (ops + n) ≤ depth_of_infix other.0 → Within limit (deep + (ops + n))
  deeper_than lone other n good le = within_less limit _ _ le good.1

  -- an operator, and no room for it
  pub op_over : begins starts_qop here ≡ true → (Within limit (deep + (ops + 1)) → ⊥) →
      Rejects (within (links false) limit) ts (length here)
  op_over starts full = record {
    before = spelling_infix x;
    bad = here;
    split = split_is limit ts x here deep ops st;
    left_is = refl;
    refuses = record {
      begun = ([], (x, None), none_good limit ts x here deep ops st false, refl);
      never = λ s other after same good quiet e.
          let m = meet false limit ts x here deep ops st s other after same good quiet e in
          go s other after same good quiet m m.next;
    };
  }
    where
      go : (s : Ts) (other : Links) (after : Ts) → SameStart here s → (within (links false) limit).Good other →
          begins ((links false).extends other) after ≡ false → (m : Meeting limit x deep ops other s after) →
          Next other m.more m.beyond → ⊥
      go s other after same good quiet m (ends is none) =
          begins_none ((links false).extends other) starts_qop after (λ k h. infix_takes_qop false other k none h) quiet
          (ap (begins starts_qop) (sym (m.spelled ∙ ap (λ l. flat_map piece_tokens l ++ after) is))
          ∙ begins_same starts_qop here s same ∙ starts)
      go s other after same good quiet m (alone op is o) = no_lone limit other op o good
      go s other after same good quiet m (plain op e ps is le) =
          full (within_less limit _ _ (omega (arith, m.total, le)) good.1)
      go s other after same good quiet m (signed op e ps is le) =
          full (within_less limit _ _ (omega (arith, m.total, le)) good.1)

  -- how an operator is followed by a tree
  abbrev pub Completes : Bool → Type 0
  Completes lone = (op : QOpTree) → (more : Ts) × (l : Links) × (within (links lone) limit).Good l
      × (spelling_infix x ++ (qop_tokens op ++ more) ≡ (links lone).tokens l)

  pub completes_lone : (facts_of_infix x).is_open ≡ false → Completes true
  completes_lone shut op =
      let good = none_good limit ts x here deep ops st true in (
        [],
        (x, Some op),
        (and_from (is_infix x) _ good.0 (ap not shut), good.1),
        ap (λ l. spelling_infix x ++ l) (append-nil (qop_tokens op)),
      )

  add_spelled : (op : QOpTree) (b : Bool) (e : OperandTree) →
      spelling_infix (add x op b e) ≡ spelling_infix x ++ (qop_tokens op ++ (sign_tokens b ++ spelling_operand e))
  add_spelled op b e =
      let y = add x op b e in
      sym (append-nil (spelling_infix y)) ∙ sym (links_spelled (y, None))
      ∙ ap (λ h. maybe_tokens h ++ flat_map piece_tokens (links_pieces (y, None))) (add_head x op b e)
      ∙ ap (λ l. maybe_tokens (links_head (x, None)) ++ flat_map piece_tokens l)
      (append-nil (chain_pieces y) ∙ add_pieces x op b e)
      ∙ ap (λ l. maybe_tokens (links_head (x, None)) ++ l) (flat_map-append piece_tokens (chain_pieces x)
      (link_of op b e))
      ∙ sym (append_assoc (maybe_tokens (links_head (x, None))) (flat_map piece_tokens (chain_pieces x))
      (flat_map piece_tokens (link_of op b e)))
      ∙ ap (λ l. l ++ flat_map piece_tokens (link_of op b e)) (front_is limit ts x here deep ops st)
      ∙ ap (λ l. spelling_infix x ++ l) (one b)
    where
      one : (b : Bool) → flat_map piece_tokens (link_of op b e) ≡ qop_tokens op ++ (sign_tokens b ++ spelling_operand e)
      one true = simp (append-nil)
      one false = simp (append-nil)

  pub completes_room : (facts_of_infix x).is_open ≡ false → Within limit (deep + (ops + 1)) → (lone : Bool) →
      Completes lone
  completes_room shut room lone op =
      let more : deep + ((ops + 1) + 0) ≡ deep + (ops + 1) = omega arith in
      let good = add_good limit ts x here deep ops st op false least_operand shut
      (least_operand_good (lowered limit ((ops + 1) + 0))) (subst (Within limit) (sym more) room) lone in (
        spelling_operand least_operand,
        (add x op false least_operand, None),
        good,
        sym (add_spelled op false least_operand) ∙ sym (append-nil (spelling_infix (add x op false least_operand))),
      )

  module _ (lone : Bool) where
    -- no operator
    pub op_fails : begins starts_qop here ≡ true → Completes lone → (e : Fault) → Fails (within qops limit) here e →
        Fails (within (links lone) limit) ts e
    op_fails starts done e r =
        fails_after (within (links lone) limit) (within qops limit) (spelling_infix x) ts here e
        (split_is limit ts x here deep ops st) (λ before bad split q. refused before bad split q) r
      where
        refused : (before bad : Ts) → here ≡ before ++ bad → Refuses (within qops limit) before bad →
            Refuses (within (links lone) limit) (spelling_infix x ++ before) bad
        refused before bad split q = record {
          begun = (let c = done q.begun.1 in (
            q.begun.0 ++ c.0,
            c.1,
            c.2,
            append_assoc (spelling_infix x) before (q.begun.0 ++ c.0)
                ∙ ap (λ l. spelling_infix x ++ l) (sym (append_assoc before q.begun.0 c.0)
                ∙ ap (λ l. l ++ c.0) q.begun.3)
                ∙ c.3,
          ));
          never = λ s other after same good quiet e.
              let same' : SameStart here (before ++ s) =
              subst (λ l. SameStart l (before ++ s)) (sym split) (same_start_append before bad s same) in
              let m = meet lone limit ts x here deep ops st (before ++ s) other after same' good quiet
              (sym (append_assoc (spelling_infix x) before s) ∙ e) in
              go before bad split q s other after same same' good quiet m m.next;
        }
          where
            go : (before bad : Ts) → here ≡ before ++ bad → Refuses (within qops limit) before bad →
                (s : Ts) (other : Links) (after : Ts) → SameStart bad s → SameStart here (before ++ s) →
                (within (links lone) limit).Good other →
                begins ((links lone).extends other) after ≡ false →
                (m : Meeting limit x deep ops other (before ++ s) after) → Next other m.more m.beyond → ⊥
            go before bad split q s other after same same' good quiet m (ends is none) =
                begins_none ((links lone).extends other) starts_qop after
                (λ k h. infix_takes_qop lone other k none h) quiet
                (ap (begins starts_qop) (sym (m.spelled ∙ ap (λ l. flat_map piece_tokens l ++ after) is))
                ∙ begins_same starts_qop here (before ++ s) same' ∙ starts)
            go before bad split q s other after same same' good quiet m (alone op is o) =
                at_op limit before bad q s after same op None [] (m.spelled
                ∙ ap (λ l. flat_map piece_tokens l ++ after) is)
            go before bad split q s other after same same' good quiet m (plain op e ps is le) =
                at_op limit before bad q s after same op (Some e) ps
                (m.spelled ∙ ap (λ l. flat_map piece_tokens l ++ after) is)
            go before bad split q s other after same same' good quiet m (signed op e ps is le) =
                at_op limit before bad q s after same op None ((q_of.Sym minus, Some e) ∷ ps)
                (m.spelled ∙ ap (λ l. flat_map piece_tokens l ++ after) is)

  -- the operator of a section
  pub lone_stop : (facts_of_infix x).is_open ≡ false → (op : QOpTree) (rest : Ts) → here ≡ qop_tokens op ++ rest →
      begins starts_exp rest ≡ false → Took (links true) limit ts (x, Some op) rest (deep + ops)
  lone_stop shut op rest at ends_here = record {
    spelled = split_is limit ts x here deep ops st ∙ ap (λ l. spelling_infix x ++ l) at
        ∙ sym (append_assoc (spelling_infix x) (qop_tokens op) rest);
    reads = record {
      good = (let good = none_good limit ts x here deep ops st true in
          (and_from (is_infix x) _ good.0 (ap not shut), good.1));
      only = λ s other after same good quiet e.
          let m = meet true limit ts x here deep ops st (qop_tokens op ++ s) other after
          (into s op rest at same) good quiet
          (sym (append_assoc (spelling_infix x) (qop_tokens op) s) ∙ e) in
          go s other after same m (behind true limit x deep ops op other s after (sym st.ops_is) good quiet m);
    };
    measured_is = sym (depth_is limit ts x here deep ops st);
    room = omega (
      arith,
      st.state.room,
      st.ops_is,
      ap length at,
      length-append (qop_tokens op) rest,
    );
  }
    where
      go : (s : Ts) (other : Links) (after : Ts) → SameStart rest s →
          (m : Meeting limit x deep ops other (qop_tokens op ++ s) after) →
          Behind limit other op m.more ops m.beyond s after → (other ≡ (x, Some op)) × (after ≡ s)
      go s other after same m (lone_at o is e) = (
        links_same other (x, Some op) m.head (m.pieces ∙ ap (λ l. chain_pieces x ++ l) is),
        sym e,
      )
      go s other after same m (plain_at e tail is good quiet le) =
          absurd (true≢false (sym (operand_exp e tail s is) ∙ begins_same starts_exp rest s same ∙ ends_here))
      go s other after same m (signed_at e tail is good quiet le) =
          absurd (true≢false (sym (ap (begins starts_exp) is) ∙ begins_same starts_exp rest s same ∙ ends_here))

  -- the whole chain
  pub chain_stop : (lone : Bool) → ((facts_of_infix x).is_open ≡ true) ⊎ (begins starts_qop here ≡ false) →
      Took (links lone) limit ts (x, None) here (deep + ops)
  chain_stop lone done = record {
    spelled = split_is limit ts x here deep ops st ∙ ap (λ l. l ++ here) (sym (append-nil (spelling_infix x)));
    reads = record {
      good = none_good limit ts x here deep ops st lone;
      only = λ s other after same good quiet e.
          let m = meet lone limit ts x here deep ops st s other after same good quiet
          (ap (λ l. l ++ s) (sym (append-nil (spelling_infix x))) ∙ e) in
          go s other after same good m m.next;
    };
    measured_is = sym (depth_is limit ts x here deep ops st);
    room = omega (arith, st.state.room, st.ops_is);
  }
    where
      none_more : (s : Ts) (other : Links) (after : Ts) → SameStart here s → (within (links lone) limit).Good other →
          (m : Meeting limit x deep ops other s after) → (p : Piece) (rest : List Piece) → m.more ≡ p ∷ rest →
          ((facts_of_infix x).is_open ≡ true) ⊎ (begins starts_qop here ≡ false) → ⊥
      none_more s other after same good m p rest is (inl opened) =
          let c = pieces_chain limit in
          let last = infix_last x in
          let whole = subst (λ l. (pieces_form limit).Good (links_head other, l))
          (m.pieces ∙ ap (λ l. chain_pieces x ++ l) is) (links_good limit lone other good) in
          true≢false (sym (ap maybe_open last.1 ∙ last.2 ∙ opened)
          ∙ ap (λ h. maybe_open (last_maybe h (chain_pieces x))) (sym m.head)
          ∙ c.full (links_head other) (chain_pieces x) p rest whole)
      none_more s other after same good m p rest is (inr quiet) =
          true≢false (sym (ap (begins starts_qop) (m.spelled ∙ ap (λ l. flat_map piece_tokens l ++ after) is)
          ∙ ap (begins starts_qop) (append_assoc (piece_tokens p) (flat_map piece_tokens rest) after)
          ∙ begins_append starts_qop (piece_tokens p) _ (piece_starts p))
          ∙ begins_same starts_qop here s same ∙ quiet)

      go : (s : Ts) (other : Links) (after : Ts) → SameStart here s → (within (links lone) limit).Good other →
          (m : Meeting limit x deep ops other s after) → Next other m.more m.beyond →
          (other ≡ (x, None)) × (after ≡ s)
      go s other after same good m (ends is none) = (
        links_same other (x, None) m.head (m.pieces ∙ ap (λ l. chain_pieces x ++ l) is),
        sym (m.spelled ∙ ap (λ l. flat_map piece_tokens l ++ after) is),
      )
      go s other after same good m (alone op is o) = absurd (none_more s other after same good m _ _ is done)
      go s other after same good m (plain op e ps is le) = absurd (none_more s other after same good m _ _ is done)
      go s other after same good m (signed op e ps is le) = absurd (none_more s other after same good m _ _ is done)

  -- an operator, and no operand behind it
  module _ (lone : Bool) (op : QOpTree) (rest : Ts) (at : here ≡ qop_tokens op ++ rest)
      (starts : lone ≡ true → begins starts_exp rest ≡ true) where
    no_alone : (other : Links) (s after : Ts) → SameStart rest s → (within (links lone) limit).Good other →
        begins ((links lone).extends other) after ≡ false → other.1 ≡ Some op → s ≡ after → ⊥
    no_alone other s after same good quiet o e = by lone starts good quiet
      where
        by : (b : Bool) → (b ≡ true → begins starts_exp rest ≡ true) → (within (links b) limit).Good other →
            begins ((links b).extends other) after ≡ false → ⊥
        by false w good quiet = no_lone limit other op o good
        by true w good quiet =
            begins_none ((links true).extends other) starts_exp after (λ k h. alone_quiet true other op k o h) quiet
            (ap (begins starts_exp) (sym e) ∙ begins_same starts_exp rest s same ∙ w refl)

    next_over : Completes lone → (Within limit (deep + ((ops + 1) + sign (begins is_minus rest))) → ⊥) →
        Rejects (within (links lone) limit) ts (length rest)
    next_over done full = record {
      before = spelling_infix x ++ qop_tokens op;
      bad = rest;
      split = split_is limit ts x here deep ops st ∙ ap (λ l. spelling_infix x ++ l) at
          ∙ sym (append_assoc (spelling_infix x) (qop_tokens op) rest);
      left_is = refl;
      refuses = record {
        begun = (let c = done op in (c.0, c.1, c.2, append_assoc (spelling_infix x) (qop_tokens op) c.0 ∙ c.3));
        never = λ s other after same good quiet e.
            let m = meet lone limit ts x here deep ops st (qop_tokens op ++ s) other after
            (into s op rest at same) good quiet
            (sym (append_assoc (spelling_infix x) (qop_tokens op) s) ∙ e) in
            go s other after same good quiet m (behind lone limit x deep ops op other s after
            (sym st.ops_is) good quiet m)
            (begins is_minus rest) refl full;
      };
    }
      where
        go : (s : Ts) (other : Links) (after : Ts) → SameStart rest s → (within (links lone) limit).Good other →
            begins ((links lone).extends other) after ≡ false →
            (m : Meeting limit x deep ops other (qop_tokens op ++ s) after) →
            Behind limit other op m.more ops m.beyond s after →
            (b : Bool) → begins is_minus rest ≡ b → (Within limit (deep + ((ops + 1) + sign b)) → ⊥) → ⊥
        go s other after same good quiet m (lone_at o is e) b is_b full = no_alone other s after same good quiet o e
        go s other after same good quiet m (plain_at e tail is g q le) true is_b full =
            operand_not_minus e tail s is (begins_same is_minus rest s same ∙ is_b)
        go s other after same good quiet m (plain_at e tail is g q le) false is_b full =
            full (within_less limit _ _ (omega (arith, m.total, le)) good.1)
        go s other after same good quiet m (signed_at e tail is g q le) true is_b full =
            full (within_less limit _ _ (omega (arith, m.total, le)) good.1)
        go s other after same good quiet m (signed_at e tail is g q le) false is_b full =
            full (within_less limit _ _ (omega (arith, m.total, le)) good.1)

    next_part : (facts_of_infix x).is_open ≡ false → (next : Ts) (b : Bool) → begins is_minus rest ≡ b →
        rest ≡ sign_tokens b ++ next → Within limit (deep + ((ops + 1) + sign b)) → (left : ℕ) →
        Rejects (within operands (lowered limit ((ops + 1) + sign b))) next left →
        Rejects (within (links lone) limit) ts left
    next_part shut next b is_b split room left r = record {
      before = (spelling_infix x ++ qop_tokens op) ++ (sign_tokens b ++ r.before);
      bad = r.bad;
      split = split_is limit ts x here deep ops st ∙ ap (λ l. spelling_infix x ++ l) (at ∙ ap (λ l. qop_tokens op ++ l)
          (split ∙ ap (λ l. sign_tokens b ++ l) r.split ∙ sym (append_assoc (sign_tokens b) r.before r.bad)))
          ∙ sym (append_assoc (spelling_infix x) (qop_tokens op) ((sign_tokens b ++ r.before) ++ r.bad))
          ∙ sym (append_assoc (spelling_infix x ++ qop_tokens op) (sign_tokens b ++ r.before) r.bad);
      left_is = r.left_is;
      refuses = record {
        begun = (
          r.refuses.begun.0,
          (add x op b r.refuses.begun.1, None),
          add_good limit ts x here deep ops st op b r.refuses.begun.1 shut r.refuses.begun.2 room lone,
          append_assoc (spelling_infix x ++ qop_tokens op) (sign_tokens b ++ r.before) r.refuses.begun.0
              ∙ append_assoc (spelling_infix x) (qop_tokens op) ((sign_tokens b ++ r.before) ++ r.refuses.begun.0)
              ∙ ap (λ l. spelling_infix x ++ (qop_tokens op ++ l)) (append_assoc
              (sign_tokens b) r.before r.refuses.begun.0
              ∙ ap (λ l. sign_tokens b ++ l) r.refuses.begun.3)
              ∙ sym (add_spelled op b r.refuses.begun.1) ∙ sym (append-nil (spelling_infix
              (add x op b r.refuses.begun.1))),
        );
        never = λ s other after same good quiet e.
            let s' = sign_tokens b ++ (r.before ++ s) in
            let same' : SameStart rest s' =
            subst (λ l. SameStart l s') (sym (split ∙ ap (λ l. sign_tokens b ++ l) r.split))
            (same_start_append (sign_tokens b) (r.before ++ r.bad) (r.before ++ s)
            (same_start_append r.before r.bad s same)) in
            let m = meet lone limit ts x here deep ops st (qop_tokens op ++ s') other after
            (into s' op rest at same') good quiet
            (ap (λ l. spelling_infix x ++ (qop_tokens op ++ l)) (sym (append_assoc (sign_tokens b) r.before s))
            ∙ sym (append_assoc (spelling_infix x) (qop_tokens op) ((sign_tokens b ++ r.before) ++ s))
            ∙ sym (append_assoc (spelling_infix x ++ qop_tokens op) (sign_tokens b ++ r.before) s) ∙ e) in
            go b is_b s other after same same' good quiet m
            (behind lone limit x deep ops op other s' after (sym st.ops_is) good quiet m) r.refuses;
      };
    }
      where
        go : (b : Bool) → begins is_minus rest ≡ b → (s : Ts) (other : Links) (after : Ts) →
            {before bad : Ts} → SameStart bad s → SameStart rest (sign_tokens b ++ (before ++ s)) →
            (within (links lone) limit).Good other →
            begins ((links lone).extends other) after ≡ false →
            (m : Meeting limit x deep ops other (qop_tokens op ++ (sign_tokens b ++ (before ++ s))) after) →
            Behind limit other op m.more ops m.beyond (sign_tokens b ++ (before ++ s)) after →
            Refuses (within operands (lowered limit ((ops + 1) + sign b))) before bad → ⊥
        go b is_b s other after same same' good quiet m (lone_at o is e) r =
            no_alone other _ after same' good quiet o e
        go true is_b s other after same same' good quiet m (plain_at e tail is g q le) r =
            operand_not_minus e tail _ is refl
        go false is_b s other after same same' good quiet m (plain_at e tail is g q le) r =
            let n : ops + 1 ≡ (ops + 1) + 0 = omega arith in
            r.never s e tail same (subst (λ k. (within operands (lowered limit k)).Good e) n g) q is
        go true is_b s other after same same' good quiet m (signed_at e tail is g q le) r =
            let n : ops + 2 ≡ (ops + 1) + 1 = omega arith in
            r.never s e tail same (subst (λ k. (within operands (lowered limit k)).Good e) n g) q (uncons _ _ _ is)
        go false is_b s other after same same' good quiet m (signed_at e tail is g q le) r =
            true≢false (sym (ap (begins is_minus) is) ∙ begins_same is_minus rest _ same' ∙ is_b)

    pub next_fails : Completes lone → (facts_of_infix x).is_open ≡ false → (e : Fault) →
        SignedFails limit deep (ops + 1) rest e → Fails (within (links lone) limit) ts e
    next_fails done shut (f.At left) (over is full) =
        subst (Rejects (within (links lone) limit) ts) (sym is) (next_over done full)
    next_fails done shut (f.At left) (part next split room r) =
        next_part shut next (begins is_minus rest) refl split room left r
    next_fails done shut f.NoMemory r = tt
