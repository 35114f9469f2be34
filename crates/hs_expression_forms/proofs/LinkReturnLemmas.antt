-- What the reader of a chain of operators answers, return by return.
use Rattle.std.proofs.Common.{◌≡◌, ℕ, ◌+◌, Bool, true, false, List, [], ◌∷◌, ◌++◌, length, refl}
use Rattle.std.proofs.Common.{sym, ap, ◌∙◌, subst, true≢false, arith, length-append, append_assoc}
use Rattle.std.specs.Prelude.{map, max, flat_map, ◌||◌, Option, Some, None}
use Rattle.std.proofs.lemmas.List.{append-nil}
use Rattle.std.proofs.lemmas.Grind.{flat_map-append}
use Rattle.hs_forms.specs.Reading.{begins}
use Rattle.hs_forms.specs.Limits.{Within, lowered, deepest}
use Rattle.hs_forms.specs.Answers.{Rejects}
use Rattle.hs_forms.specs.declared.fault.Fault.{Fault}
use Rattle.hs_forms.specs.declared.fault.Fault.TheVariants as f
use Rattle.hs_forms.proofs.FormLemmas.{begins_append}
use Rattle.hs_forms.proofs.LimitLemmas.{within_less, within_raised, within_max}
use Rattle.hs_forms.proofs.LimitLemmas.{or_left, or_right, deep_more}
use Rattle.hs_tokens.specs.Terminals.{minus, is_minus}
use Rattle.hs_tokens.specs.declared.terminal.Terminal.{Terminal}
use Rattle.hs_tokens.specs.declared.terminal.Terminal.TheVariants as t
use Rattle.hs_trees.specs.Patterns.{Ts}
use Rattle.hs_modules.specs.ExpressionExtents.{sign}
use Rattle.hs_modules.specs.Tokens.{sign_tokens, spelling_infix, spelling_operand}
use Rattle.hs_modules.specs.Formed.{facts_of_infix}
use Rattle.hs_modules.specs.declared.names.QOpTree.{QOpTree}
use Rattle.hs_modules.specs.declared.names.QOpTree.TheVariants as q
use Rattle.hs_modules.specs.declared.expressions.OperandTree.{OperandTree}
use Rattle.hs_modules.specs.declared.expressions.InfixTree.{InfixTree, out-InfixTree, out-roll-InfixTree}
use Rattle.hs_modules.specs.declared.expressions.OpOperand.{OpOperand, out-roll-OpOperand}
use Rattle.hs_modules.specs.declared.expressions.SignedOperand.{SignedOperand}
use Rattle.hs_modules.specs.declared.expressions.SignedOperand.{out-roll-SignedOperand}
use Rattle.hs_expression_forms.specs.Trees.{within, Took}
use Rattle.hs_expression_forms.specs.Expressions.{depth_of_operand, starts_operand, starts_exp, starts_qop}
use Rattle.hs_expression_forms.specs.Expressions.{depth_of_infix, operands}
use Rattle.hs_expression_forms.specs.Links.{maybe_tokens, maybe_open, maybe_deep, Piece}
use Rattle.hs_expression_forms.specs.Links.{piece_tokens, piece_deep, last_maybe, pieces_form, pieces_formed}
use Rattle.hs_expression_forms.specs.Links.{Placed, first_pieces}
use Rattle.hs_expression_forms.specs.Links.{Links, links_head, links, link_of, sign_of, head_piece}
use Rattle.hs_expression_forms.specs.Links.{pieces_of_link}
use Rattle.hs_expression_forms.proofs.PieceLemmas.{pieces_more, last_more}
use Rattle.hs_expression_forms.proofs.PieceLemmas.{qop_operand}
use Rattle.hs_expression_forms.proofs.LinkLayerLemmas.{links_spelled, infix_deep, infix_formed}
use Rattle.hs_expression_forms.proofs.LinkLayerLemmas.{infix_last, negated_of, operand_of}
use Rattle.hs_expression_forms.proofs.LinkLemmas.{LinkState, make_infix}
use Rattle.hs_expression_forms.proofs.LinkLemmas.{make_signed, make_link}
use Rattle.hs_expression_forms.proofs.OperandLemmas.{operand_starts}

abbrev pub chain_pieces : InfixTree → List Piece
chain_pieces x = first_pieces (out-InfixTree x).first (out-InfixTree x).rest

-- a chain with one more operand
abbrev pub add : InfixTree → QOpTree → Bool → OperandTree → InfixTree
add x op b e = make_infix (out-InfixTree x).first ((out-InfixTree x).rest ++ make_link op (make_signed b e) ∷ [])

link_pieces : (op : QOpTree)
    (b : Bool) (e : OperandTree) →
    pieces_of_link (make_link op (make_signed b e)) ≡ link_of op b e
link_pieces op b e =
    ap (λ o. link_of o.op (negated_of o.operand) (operand_of o.operand))
    (out-roll-OpOperand (record { op = op; operand = make_signed b e }))
    ∙ ap (λ s. link_of op s.negated s.operand) (out-roll-SignedOperand (record { negated = b; operand = e }))

pub made_pieces : (s : SignedOperand) (xs : List OpOperand) → chain_pieces (make_infix s xs) ≡ first_pieces s xs
made_pieces s xs = ap (λ o. first_pieces o.first o.rest) (out-roll-InfixTree (record { first = s; rest = xs }))

pub made_head : (s : SignedOperand) (xs : List OpOperand) → links_head (make_infix s xs, None) ≡ head_piece s
made_head s xs = ap (λ o. head_piece o.first) (out-roll-InfixTree (record { first = s; rest = xs }))

pub add_head : (x : InfixTree) (op : QOpTree) (b : Bool) (e : OperandTree) →
    links_head (add x op b e, None) ≡ links_head (x, None)
add_head x op b e = made_head (out-InfixTree x).first _

pub add_pieces : (x : InfixTree) (op : QOpTree) (b : Bool) (e : OperandTree) →
    chain_pieces (add x op b e) ≡ chain_pieces x ++ link_of op b e
add_pieces x op b e =
    let o = out-InfixTree x in
    made_pieces o.first (o.rest ++ make_link op (make_signed b e) ∷ [])
    ∙ ap (λ l. sign_of (negated_of o.first) (operand_of o.first) ++ l)
    (flat_map-append pieces_of_link o.rest (make_link op (make_signed b e) ∷ [])
    ∙ ap (λ l. flat_map pieces_of_link o.rest ++ l)
    (append-nil (pieces_of_link (make_link op (make_signed b e))) ∙ link_pieces op b e))
    ∙ sym (append_assoc (sign_of (negated_of o.first) (operand_of o.first)) (flat_map pieces_of_link o.rest)
    (link_of op b e))

-- a signed operand behind so many operators, whose deepest operand is so deep
pub record SignedTook (limit : Option ℕ) (deep used : ℕ) (ts : Ts) (s : SignedOperand) (rest : Ts)
    (m : ℕ) : Type 0 where
  pub next : Ts
  pub at : ts ≡ sign_tokens (negated_of s) ++ next
  pub took : Took operands (lowered limit (used + sign (negated_of s))) next (operand_of s) rest m
  pub room : Within limit (deep + (used + sign (negated_of s)))

pub data SignedRejects (limit : Option ℕ) (deep used : ℕ) (ts : Ts) (left : ℕ) : Type 0 where
  over : left ≡ length ts → (Within limit (deep + (used + sign (begins is_minus ts))) → ⊥) →
      SignedRejects limit deep used ts left
  part : (next : Ts) → ts ≡ sign_tokens (begins is_minus ts) ++ next →
      Within limit (deep + (used + sign (begins is_minus ts))) →
      Rejects (within operands (lowered limit (used + sign (begins is_minus ts)))) next left →
      SignedRejects limit deep used ts left

abbrev pub SignedFails : Option ℕ → ℕ → ℕ → Ts → Fault → Type 0
SignedFails limit deep used ts (f.At left) = SignedRejects limit deep used ts left
SignedFails limit deep used ts f.NoMemory = Unit {0}

pub minus_qop : (k : Terminal) → is_minus k ≡ true → starts_qop k ≡ true
minus_qop (t.VarSym n) h = refl
minus_qop _ h = absurd (true≢false (sym h))

pub minus_operand : (k : Terminal) → is_minus k ≡ true → starts_operand k ≡ false
minus_operand k h = qop_operand k (minus_qop k h)

-- what begins an expression goes on behind an operator
pub exp_goes : (k : Terminal) → starts_operand k || starts_qop k ≡ false → starts_exp k ≡ false
exp_goes k e = both (is_minus k) refl
  where
    both : (b : Bool) → is_minus k ≡ b → starts_operand k || is_minus k ≡ false
    both true h = absurd (true≢false (sym (minus_qop k h) ∙ or_right (starts_operand k) _ e))
    both false h = ap (λ c. starts_operand k || c) h ∙ ap (λ c. c || false) (or_left (starts_operand k) _ e)

pub no_lone : (limit : Option ℕ) (other : Links) (op : QOpTree) → other.1 ≡ Some op →
    (within (links false) limit).Good other → ⊥
no_lone limit (x, None) op e good = cc
no_lone limit (x, Some o) op e good = true≢false (sym good.0)

pub alone_quiet : (lone : Bool) (other : Links) (op : QOpTree) (k : Terminal) → other.1 ≡ Some op →
    (links lone).extends other k ≡ false → starts_exp k ≡ false
alone_quiet lone (x, None) op k e h = absurd (none op e)
  where
    none : (op : QOpTree) → None ≡ Some op → ⊥
    none op e = cc
alone_quiet lone (x, Some o) op k e h = exp_goes k h

pub operand_not_minus : (e : OperandTree) (tail s : Ts) → s ≡ spelling_operand e ++ tail → begins is_minus s ≡ true → ⊥
operand_not_minus e tail s at h =
    begins_none' (spelling_operand e ++ tail) (begins_append starts_operand (spelling_operand e) tail
    (operand_starts e))
    (ap (begins is_minus) (sym at) ∙ h)
  where
    begins_none' : (l : Ts) → begins starts_operand l ≡ true → begins is_minus l ≡ true → ⊥
    begins_none' [] a b = true≢false (sym a)
    begins_none' (k ∷ l) a b = true≢false (sym a ∙ minus_operand k b)

pub operand_exp : (e : OperandTree) (tail s : Ts) → s ≡ spelling_operand e ++ tail → begins starts_exp s ≡ true
operand_exp e tail s at =
    ap (begins starts_exp) at
    ∙ lift (spelling_operand e ++ tail) (begins_append starts_operand (spelling_operand e) tail (operand_starts e))
  where
    lift : (l : Ts) → begins starts_operand l ≡ true → begins starts_exp l ≡ true
    lift [] a = a
    lift (k ∷ l) a = ap (λ b. b || is_minus k) a

sign_one : (limit : Option ℕ) (a n m : ℕ) → n ≡ m → Within limit (a + n) → Within limit (a + m)
sign_one limit a n m e h = subst (λ k. Within limit (a + k)) e h

module _ (limit : Option ℕ) (ts : Ts) (x : InfixTree) (here : Ts) (deep ops : ℕ)
    (st : LinkState limit ts x here deep ops) where
  pub front_is : maybe_tokens (links_head (x, None)) ++ flat_map piece_tokens (chain_pieces x) ≡ spelling_infix x
  front_is =
      ap (λ l. maybe_tokens (links_head (x, None)) ++ flat_map piece_tokens l) (sym (append-nil (chain_pieces x)))
      ∙ links_spelled (x, None) ∙ append-nil (spelling_infix x)

  pub split_is : ts ≡ spelling_infix x ++ here
  split_is = st.state.split ∙ ap (λ l. l ++ here) front_is

  pub depth_is : depth_of_infix x ≡ deep + ops
  depth_is = omega (arith, infix_deep x, st.state.deep_is, st.ops_is)

  pub none_good : (lone : Bool) → (within (links lone) limit).Good (x, None)
  none_good lone = (st.good, subst (Within limit) (sym depth_is) st.room)

  -- a chain that has one more operand
  pub add_good : (op : QOpTree) (b : Bool) (e : OperandTree) → (facts_of_infix x).is_open ≡ false →
      (within operands (lowered limit ((ops + 1) + sign b))).Good e → Within limit (deep + ((ops + 1) + sign b)) →
      (lone : Bool) → (within (links lone) limit).Good (add x op b e, None)
  add_good op b e shut good room lone = (
    infix_formed (add x op b e)
        ∙ ap (λ h. pieces_formed h (chain_pieces (add x op b e))) (add_head x op b e)
        ∙ ap (pieces_formed (links_head (x, None))) (add_pieces x op b e) ∙ formed b good,
    subst (Within limit) (sym deeper) (bound b good room),
  )
    where
      last_shut : maybe_open (last_maybe (links_head (x, None)) (chain_pieces x)) ≡ false
      last_shut = let last = infix_last x in ap maybe_open last.1 ∙ last.2 ∙ shut

      base : (pieces_form limit).Good (links_head (x, None), chain_pieces x)
      base = st.state.so.good

      deeper : depth_of_infix (add x op b e)
          ≡ max deep (depth_of_operand e) + ((ops + 1) + sign b)
      deeper =
          infix_deep (add x op b e)
          ∙ ap (λ h. max (maybe_deep h) (deepest (map piece_deep (chain_pieces (add x op b e))))
          + length (chain_pieces (add x op b e))) (add_head x op b e)
          ∙ ap (λ l. max (maybe_deep (links_head (x, None))) (deepest (map piece_deep l)) + length l)
          (add_pieces x op b e)
          ∙ total b
        where
          total : (b : Bool) → max (maybe_deep (links_head (x, None))) (deepest (map piece_deep
              (chain_pieces x ++ link_of op b e)))
              + length (chain_pieces x ++ link_of op b e) ≡ max deep (depth_of_operand e) + ((ops + 1) + sign b)
          total true =
              let two = ap (λ l. deepest (map piece_deep l)) (append_assoc (chain_pieces x) ((op, None) ∷ [])
              ((q.Sym minus, Some e) ∷ [])) in
              omega (
                arith,
                two,
                deep_more piece_deep (chain_pieces x ++ (op, None) ∷ []) (q.Sym minus, Some e),
                deep_more piece_deep (chain_pieces x) (op, None),
                length-append (chain_pieces x) (link_of op true e),
                st.state.deep_is,
                st.ops_is,
              )
          total false =
              omega (
                arith,
                deep_more piece_deep (chain_pieces x) (op, Some e),
                length-append (chain_pieces x) (link_of op false e),
                st.state.deep_is,
                st.ops_is,
              )

      bound : (b : Bool) → (within operands (lowered limit ((ops + 1) + sign b))).Good e →
          Within limit (deep + ((ops + 1) + sign b)) → Within limit (max deep (depth_of_operand e) +
          ((ops + 1) + sign b))
      bound b good room =
          within_max limit deep (depth_of_operand e) ((ops + 1) + sign b) room
          (within_raised limit (depth_of_operand e) ((ops + 1) + sign b) (within_less limit _ _
          (omega arith) room) good.1)

      placed : (n : ℕ) (l : List Piece) → Placed None n l
      placed n [] = tt
      placed n (p ∷ l) = (tt, placed (n + 1) l)

      formed : (b : Bool) → (within operands (lowered limit ((ops + 1) + sign b))).Good e →
          pieces_formed (links_head (x, None)) (chain_pieces x ++ link_of op b e) ≡ true
      formed false good =
          (pieces_more None (links_head (x, None)) (chain_pieces x) (op, Some e)
          (base.0, tt, placed 0 (chain_pieces x)) last_shut (good.0, tt)).0
      formed true good =
          ap (pieces_formed (links_head (x, None)))
          (sym (append_assoc (chain_pieces x) ((op, None) ∷ []) ((q.Sym minus, Some e) ∷ [])))
          ∙ (pieces_more None (links_head (x, None)) (chain_pieces x ++ (op, None) ∷ []) (q.Sym minus, Some e)
          (pieces_more None (links_head (x, None)) (chain_pieces x) (op, None)
          (base.0, tt, placed 0 (chain_pieces x)) last_shut (refl, tt))
          (ap maybe_open (last_more (links_head (x, None)) (chain_pieces x) (op, None))) (good.0, tt)).0
