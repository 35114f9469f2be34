-- Chains of operators, expressions and what stands in brackets are found again if their operands are.
use Rattle.std.proofs.Common.{◌≡◌, ℕ, ◌+◌, ◌≤◌, Bool, true, false, List, [], ◌∷◌, ◌++◌, length, refl, sym, ap, ◌∙◌}
use Rattle.std.proofs.Common.{subst, true≢false, arith, length-append, append_assoc}
use Rattle.std.specs.Prelude.{max, map, not, flat_map, ◌&&◌, ◌||◌, Some, None}
use Rattle.std.proofs.lemmas.Bool.{not-true}
use Rattle.std.proofs.lemmas.List.{append-nil}
use Rattle.hs_forms.specs.Reading.{SameStart, begins, Reads}
use Rattle.hs_forms.specs.Limits.{deepest}
use Rattle.hs_forms.specs.Forms.{item_form}
use Rattle.hs_forms.proofs.FormLemmas.{begins_within, begins_same, begins_append}
use Rattle.hs_forms.proofs.LimitLemmas.{and_left, and_right, or_left, or_right, deep_front}
use Rattle.hs_forms.proofs.ChainLemmas.{quiet_inner, quiet_head}
use Rattle.hs_forms.proofs.StateLemmas.{State, state_stop}
use Rattle.hs_tokens.specs.Terminals.{minus}
use Rattle.hs_tokens.specs.declared.terminal.Terminal.TheVariants as t
use Rattle.hs_trees.specs.Types.{spelling_type, depth_of_type}
use Rattle.hs_trees.specs.Patterns.{Ts}
use Rattle.hs_modules.specs.Words.{qop_tokens}
use Rattle.hs_modules.specs.Tokens.{spelling_exp, spelling_infix, spelling_operand, sign_tokens}
use Rattle.hs_modules.specs.Formed.{Facts, good_of, facts_of_exp, facts_of_infix}
use Rattle.hs_modules.specs.declared.names.QOpTree.{QOpTree}
use Rattle.hs_modules.specs.declared.names.QOpTree.TheVariants as q_of
use Rattle.hs_modules.specs.declared.expressions.ExpTree.TheVariants as v
use Rattle.hs_modules.specs.declared.expressions.InfixTree.{out-InfixTree}
use Rattle.hs_modules.specs.declared.expressions.OperandTree.{OperandTree}
use Rattle.hs_modules.specs.declared.expressions.SignedOperand.{SignedOperand}
use Rattle.hs_expression_forms.specs.declared.front.Front.{Front}
use Rattle.hs_expression_forms.specs.declared.front.Front.TheVariants as fr
use Rattle.hs_expression_forms.specs.Trees.{within, Took}
use Rattle.hs_expression_forms.specs.Expressions.{is_operand, depth_of_operand, is_infix, depth_of_infix, operands}
use Rattle.hs_expression_forms.specs.Expressions.{exps, infixes, types, starts_operand, starts_qop, starts_aexp}
use Rattle.hs_expression_forms.specs.Expressions.{goes_on}
use Rattle.hs_expression_forms.specs.Expressions.{exp_goes_on, infix_goes_on, is_double_colon, few}
use Rattle.hs_expression_forms.specs.Fronts.{front_formed, front_tokens, fronts, bunches, is_section}
use Rattle.hs_expression_forms.specs.Fronts.{is_empty}
use Rattle.hs_expression_forms.specs.Links.{Maybe, maybe_tokens, maybe_deep, maybe_goes_on, maybe_formed, Piece}
use Rattle.hs_expression_forms.specs.Links.{piece_tokens, piece_deep, pieces_form, head_of, sign_of}
use Rattle.hs_expression_forms.specs.Links.{pieces_of_link, tail_pieces, first_pieces, Links, links_head, links_pieces}
use Rattle.hs_expression_forms.specs.Links.{links}
use Rattle.hs_expression_forms.proofs.StarterLemmas.{goes_on_fewer, type_quiet}
use Rattle.hs_expression_forms.proofs.OperandLemmas.{operand_starts}
use Rattle.hs_expression_forms.proofs.QOpLemmas.{qop_unique, qop_long}
use Rattle.hs_expression_forms.proofs.PieceLemmas.{pieces_chain, piece_item}
use Rattle.hs_expression_forms.proofs.LinkLayerLemmas.{negated_of, operand_of, links_good, links_quiet, links_spelled}
use Rattle.hs_expression_forms.proofs.LinkLayerLemmas.{infix_deep}
use Rattle.hs_expression_forms.proofs.LinkLemmas.{links_same, make_infix}
use Rattle.hs_expression_forms.proofs.LinkReturnLemmas.{SignedTook, made_pieces, made_head}
use Rattle.hs_expression_forms.proofs.LinkFirstLemmas.{first_state}
use Rattle.hs_expression_forms.proofs.FrontLemmas.{ExpCase, is_plain, is_typed, exp_case, plain_facts, typed_facts}
use Rattle.hs_expression_forms.proofs.FrontLemmas.{plain_spelled, typed_spelled, front_of, front_stop, typed_took}
use Rattle.hs_expression_forms.proofs.FrontLemmas.{infix_embeds, exp_embeds}
use Rattle.hs_expression_forms.proofs.BunchLemmas.{bunch_chain}
use Rattle.hs_one_tree.specs.Found.{Found, Upto}
use Rattle.hs_one_tree.proofs.WholeLemmas.{each_upto, chain_found, state_on, ItemFound}
use Rattle.hs_one_tree.proofs.FoundLemmas.{found, behind_found, embedded_found}
use Rattle.hs_one_tree.proofs.TypeFoundLemmas.{types_found}

-- where no operand begins none stands, and an operand is no lack of one
maybe_one : (v other : Maybe) (s rest after : Ts) → SameStart rest s → begins (maybe_goes_on v) rest ≡ false →
    maybe_formed other ≡ true → begins (maybe_goes_on other) after ≡ false →
    ((e : OperandTree) → v ≡ Some e → Reads (within operands None) e rest) →
    maybe_tokens v ++ s ≡ maybe_tokens other ++ after → (other ≡ v) × (after ≡ s)
maybe_one None None s rest after same still good quiet r e = (refl, sym e)
maybe_one None (Some y) s rest after same still good quiet r e =
    absurd (true≢false (sym (begins_append starts_operand (spelling_operand y) after (operand_starts y))
    ∙ ap (begins starts_operand) (sym e) ∙ begins_same starts_operand rest s same ∙ still))
maybe_one (Some x) None s rest after same still good quiet r e =
    absurd (true≢false (sym (begins_append starts_operand (spelling_operand x) s (operand_starts x))
    ∙ ap (begins starts_operand) e ∙ quiet))
maybe_one (Some x) (Some y) s rest after same still good quiet r e =
    let one = (r x refl).only s y after same (good, tt) quiet e in (ap Some one.0, one.1)

-- an operator and what stands behind it
piece_reads : (n : ℕ) (op : QOpTree) (v : Maybe) (rest : Ts) → piece_item None n (op, v) →
    begins (maybe_goes_on v) rest ≡ false → ((e : OperandTree) → v ≡ Some e → Reads (within operands None) e rest) →
    Reads (item_form piece_tokens (piece_item None) (λ p. maybe_goes_on p.1) n) (op, v) rest
piece_reads n op v rest good still r = record {
  good = good;
  only = λ s other after same it quiet e.
      let cut = qop_unique op other.0 (maybe_tokens v ++ s) (maybe_tokens other.1 ++ after)
      (sym (append_assoc (qop_tokens op) (maybe_tokens v) s) ∙ e
      ∙ append_assoc (qop_tokens other.0) (maybe_tokens other.1) after) in
      let one = maybe_one v other.1 s rest after same still it.0 quiet r (sym cut.1) in
      (λ i. (cut.0 i, one.0 i), one.1);
}

module _ (n : ℕ) (below : Upto operands n) where
  piece_found : (p : Piece) → length (piece_tokens p) ≤ n → ItemFound (pieces_chain None) p
  piece_found (op, None) short k good here quiet =
      let long = length-append (qop_tokens op) [] in
      let whole = length-append (qop_tokens op ++ []) here in
      let some = qop_long op in
      record {
        spelled = refl;
        reads = piece_reads k op None here good quiet (λ e is. absurd cc);
        measured_is = refl;
        room = omega arith;
      }
  piece_found (op, Some x) short k good here quiet =
      let long = length-append (qop_tokens op) (spelling_operand x) in
      let acc = below x (omega (arith, short)) good.0 here quiet in
      let whole = length-append (qop_tokens op ++ spelling_operand x) here in
      let part = length-append (spelling_operand x) here in
      let room = acc.room in
      record {
        spelled = refl;
        reads = piece_reads k op (Some x) here good quiet
            (λ e is. let same : x ≡ e = cc in subst (λ y. Reads (within operands None) y here) same acc.reads);
        measured_is = refl;
        room = omega arith;
      }

  -- the first operand of a chain
  first_part : (b : Bool) (x : OperandTree) (ps : List Piece) (rest : Ts) →
      (pieces_form None).Good (head_of b x, sign_of b x ++ ps) →
      begins ((pieces_form None).extends (head_of b x, sign_of b x ++ ps)) rest ≡ false →
      (is_operand x ≡ true) × (begins (operands.extends x) (flat_map piece_tokens ps ++ rest) ≡ false)
  first_part true x ps rest good quiet =
      let c = pieces_chain None in (
        (c.laws.good_item None [] (q_of.Sym minus, Some x) ps good).0,
        quiet_inner c.form c.head c.items c.item c.inner c.starter c.make c.laws None [] (q_of.Sym minus, Some x) ps
            rest good quiet,
      )
  first_part false x ps rest good quiet =
      let c = pieces_chain None in (
        (c.laws.good_head (Some x) ps good).0,
        quiet_head c.form c.head c.items c.item c.inner c.starter c.make c.laws (Some x) ps rest good quiet,
      )

  first_length : (b : Bool) (x : OperandTree) (ps : List Piece) →
      length (spelling_operand x) + length (flat_map piece_tokens ps)
      ≤ length (maybe_tokens (head_of b x) ++ flat_map piece_tokens (sign_of b x ++ ps))
  first_length true x ps =
      let long = length-append (t.VarSym minus ∷ spelling_operand x) (flat_map piece_tokens ps) in omega arith
  first_length false x ps =
      let long = length-append (spelling_operand x) (flat_map piece_tokens ps) in omega arith

  -- the state behind the first operand
  start : (s : SignedOperand) (here : Ts) →
      Took operands None (spelling_operand (operand_of s) ++ here) (operand_of s) here (depth_of_operand (operand_of
      s)) →
      State (pieces_chain None) (sign_tokens (negated_of s) ++ (spelling_operand (operand_of s) ++ here))
      (head_of (negated_of s) (operand_of s)) (sign_of (negated_of s) (operand_of s)) here
      (depth_of_operand (operand_of s))
  start s here acc =
      let b = negated_of s in
      let x = operand_of s in
      let ts = sign_tokens b ++ (spelling_operand x ++ here) in
      let d = depth_of_operand x in
      let k : SignedTook None 0 0 ts s here d =
      record { next = spelling_operand x ++ here; at = refl; took = acc; room = tt } in
      let st = (first_state None ts s here d k).state in
      subst (λ h. State (pieces_chain None) ts h (sign_of b x) here d) (made_head s [])
      (subst (λ l. State (pieces_chain None) ts (links_head (make_infix s [], None)) l here d)
      (made_pieces s [] ∙ append-nil (sign_of b x)) st)

  -- a chain, with an operator of a section behind it or without one
  pub links_found : (lone : Bool) (l : Links) → length ((links lone).tokens l) ≤ n → Found (links lone) l
  links_found lone l short good rest quiet =
      let o = out-InfixTree l.0 in
      let s = o.first in
      let b = negated_of s in
      let x = operand_of s in
      let ps = flat_map pieces_of_link o.rest ++ tail_pieces l.1 in
      let head = head_of b x in
      let pieces : links_pieces l ≡ sign_of b x ++ ps =
      append_assoc (sign_of b x) (flat_map pieces_of_link o.rest) (tail_pieces l.1) in
      let whole = subst (λ ys. (pieces_form None).Good (head, ys)) pieces (links_good None lone l (good, tt)) in
      let silent = subst (λ ys. begins ((pieces_form None).extends (head, ys)) rest ≡ false) pieces
      (begins_within ((links lone).extends l) ((pieces_form None).extends (links_head l, links_pieces l)) rest
      (links_quiet lone None l) quiet) in
      let spelled = links_spelled l in
      let cut : maybe_tokens head ++ flat_map piece_tokens (sign_of b x ++ ps) ≡ (links lone).tokens l =
      ap (λ ys. maybe_tokens head ++ flat_map piece_tokens ys) (sym pieces) ∙ spelled in
      let parts = first_length b x ps in
      let len : length (spelling_operand x) + length (flat_map piece_tokens ps) ≤ n =
      omega (arith, ap length cut, short) in
      let first = first_part b x ps rest whole silent in
      let here = flat_map piece_tokens ps ++ rest in
      let ts = sign_tokens b ++ (spelling_operand x ++ here) in
      let d = depth_of_operand x in
      let st = start s here (below x (omega arith) first.0 here first.1) in
      let end = state_on (pieces_chain None) ts head (sign_of b x) ps rest d st whole silent
      (each_upto piece_tokens (ItemFound (pieces_chain None)) n piece_found ps (omega arith)) in
      let last = subst (λ ys. State (pieces_chain None) ts head ys rest end.0) (sym pieces) end.1 in
      read l rest good quiet ts end.0 last
    where
      read : (l : Links) (rest : Ts) → (links lone).formed l ≡ true → begins ((links lone).extends l) rest ≡ false →
          (ts : Ts) (d : ℕ) → State (pieces_chain None) ts (links_head l) (links_pieces l) rest d →
          Took (links lone) None ((links lone).tokens l ++ rest) l rest ((links lone).deep l)
      read l rest good quiet ts d st =
          let o = out-InfixTree l.0 in
          let ps = links_pieces l in
          let deep : Maybe × List Piece → ℕ = λ p. max (maybe_deep p.0) (deepest (map piece_deep p.1)) in
          let room = st.room in
          let is = st.deep_is in
          let silent = begins_within ((links lone).extends l) ((pieces_form None).extends (links_head l, ps)) rest
          (links_quiet lone None l) quiet in
          let c = pieces_chain None in
          let acc = state_stop c deep ts (links_head l) ps rest d d st
          (begins_within (c.form.extends (links_head l, ps)) c.starter rest (c.laws.ends (links_head l) ps) silent) is
          (omega arith) in
          let front = deep_front piece_deep (first_pieces o.first o.rest) (tail_pieces l.1) in
          let long = length-append (first_pieces o.first o.rest) (tail_pieces l.1) in
          let total = infix_deep l.0 in
          found (links lone) ts l rest (depth_of_infix l.0) (record {
            spelled = st.split ∙ ap (λ y. y ++ rest) (links_spelled l);
            reads = record {
              good = (good, tt);
              only = λ s other after same it still e.
                  let one = acc.reads.only s (links_head other, links_pieces other) after same
                  (links_good None lone other it)
                  (begins_within ((links lone).extends other)
                  ((pieces_form None).extends (links_head other, links_pieces other)) after
                  (links_quiet lone None other) still)
                  (ap (λ y. y ++ s) (links_spelled l) ∙ e ∙ ap (λ y. y ++ after) (sym (links_spelled other))) in
                  (links_same other l (ap (λ p. p.0) one.0) (ap (λ p. p.1) one.0), one.1);
            };
            measured_is = refl;
            room = omega arith;
          })

  pub infixes_found : Upto infixes n
  infixes_found x short =
      embedded_found infixes (links false) (λ x. (x, None)) (infix_embeds false) x (λ rest q. q)
      (links_found false (x, None) (omega (arith, ap length (append-nil (spelling_infix x)))))

  -- no annotation goes on a closed chain
  colon_quiet : (b r : Bool) → b ≡ false → goes_on true b r t.DoubleColon ≡ false
  colon_quiet true r h = absurd (true≢false h)
  colon_quiet false true h = refl
  colon_quiet false false h = refl

  -- expressions, and the fronts of sections
  pub fronts_found : (lone : Bool) (x : Front) → length (front_tokens x) ≤ n → Found (fronts lone) x
  fronts_found lone (fr.Section x op) short =
      λ good rest quiet.
      front_stop lone None _ (x, Some op) rest _ (links_found lone (x, Some op) short good rest quiet)
      (λ y is. absurd (none (ap (λ (l : Links). l.1) is)))
    where
      none : Some op ≡ None → ⊥
      none h = cc
  fronts_found lone (fr.Exp e) short =
      by (exp_case e)
    where
      by : ExpCase e → Found (fronts lone) (fr.Exp e)
      by (is_plain x is) =
          subst (λ y. Found (fronts lone) (fr.Exp y)) (sym is) (λ good rest quiet.
          let f = facts_of_exp (v.Infix x) in
          let g = facts_of_infix x in
          let acc = links_found lone (x, None) (omega (
            arith,
            ap (λ y. length (spelling_exp y)) is,
            ap length (plain_spelled x),
            ap length (append-nil (spelling_infix x)),
          ))
          (sym (ap good_of (plain_facts x)) ∙ good) rest
          (begins_within (exp_goes_on f) (infix_goes_on g) rest
          (λ k h. goes_on_fewer true true f.ends_in_type true g.is_open g.ends_in_type k (λ h. refl) (λ h. refl)
          (λ h. ap (λ (y : Facts). y.ends_in_type) (plain_facts x) ∙ h) h) quiet) in
          found (fronts lone) _ (front_of (x, None)) rest _ (front_stop lone None _ (x, None) rest _ acc
          (λ y same shut. begins_within (exp_goes_on f) is_double_colon rest
          (λ k h. or_left (is_double_colon k) _ (or_right (starts_qop k) _ (or_right (starts_aexp k) _ h))) quiet)))
      by (is_typed x ty is) =
          subst (λ y. Found (fronts lone) (fr.Exp y)) (sym is) (λ good rest quiet.
          let f = facts_of_exp (v.Annotated x ty) in
          let g = facts_of_infix x in
          let fine = sym (ap good_of (typed_facts x ty)) ∙ good in
          let both = and_left (is_infix x && not g.is_open) _ fine in
          let shut = not-true g.is_open (and_right (is_infix x) _ both) in
          let here = t.DoubleColon ∷ (spelling_type ty ++ rest) in
          let long = length-append (spelling_infix x) (t.DoubleColon ∷ spelling_type ty) in
          let acc = links_found lone (x, None) (omega (
            arith,
            ap (λ y. length (spelling_exp y)) is,
            ap length (typed_spelled x ty),
            ap length (append-nil (spelling_infix x)),
          ))
          (and_left (is_infix x) _ both) here (colon_quiet g.is_open g.ends_in_type shut) in
          let type = types_found ty (and_right (is_infix x && not g.is_open) _ fine) rest
          (begins_within (exp_goes_on f) (types.extends ty) rest
          (λ k h. type_quiet true true k (ap (λ b. goes_on true true b k)
          (sym (ap (λ (y : Facts). y.ends_in_type) (typed_facts x ty))) ∙ h)) quiet) in
          found (fronts lone) _ (fr.Exp (v.Annotated x ty)) rest _
          (typed_took lone None _ x here (spelling_type ty ++ rest) _ acc shut refl tt ty rest (depth_of_type ty) type))

  pub exps_found : Upto exps n
  exps_found e short =
      embedded_found exps (fronts true) (λ x. fr.Exp x) (exp_embeds true) e (λ rest q. q)
      (fronts_found true (fr.Exp e) short)

  -- what stands between round brackets
  pub bunches_found : Upto bunches n
  bunches_found p short good rest quiet =
      let long = length-append (front_tokens p.0) (flat_map (λ x. t.Comma ∷ spelling_exp x) p.1) in
      let parts = and_right (few (Some 14) (length p.1) && (not (is_section p.0) || is_empty p.1)) _ good in
      chain_found (bunch_chain None) bunches.deep p.0 p.1 rest (good, tt) quiet
      (λ here q. fronts_found true p.0 (omega arith) (and_left (front_formed true p.0) _ parts) here q)
      (each_upto (λ x. t.Comma ∷ spelling_exp x) (ItemFound (bunch_chain None)) n
      (λ x short k good here q. behind_found exps t.Comma x (exps_found x (omega (arith, short))) good.0 here q) p.1
      (omega arith)) (omega arith)
