-- The steps by which a chain of operators is read.
use Rattle.std.proofs.Common.{◌≡◌, ℕ, ◌+◌, ◌≤◌, Bool, true, false, List, [], ◌∷◌, ◌++◌, length}
use Rattle.std.proofs.Common.{sym, ap, ◌∙◌, subst, true≢false, arith, length-append, append_assoc}
use Rattle.std.specs.Prelude.{flat_map, Option, Some, None}
use Rattle.hs_forms.specs.Reading.{begins}
use Rattle.hs_forms.specs.Limits.{lowered}
use Rattle.hs_forms.proofs.FormLemmas.{begins_within, begins_append}
use Rattle.hs_forms.proofs.LimitLemmas.{or_left, or_right}
use Rattle.hs_forms.proofs.ChainLemmas.{quiet_inner}
use Rattle.hs_tokens.specs.Terminals.{minus}
use Rattle.hs_tokens.specs.declared.terminal.Terminal.{Terminal}
use Rattle.hs_tokens.specs.declared.terminal.Terminal.TheVariants as t
use Rattle.hs_trees.specs.Patterns.{Ts}
use Rattle.hs_modules.specs.Words.{qop_tokens}
use Rattle.hs_modules.specs.Tokens.{spelling_operand}
use Rattle.hs_modules.specs.declared.names.QOpTree.{QOpTree}
use Rattle.hs_modules.specs.declared.names.QOpTree.TheVariants as q
use Rattle.hs_modules.specs.declared.expressions.OperandTree.{OperandTree}
use Rattle.hs_modules.specs.declared.expressions.InfixTree.{InfixTree, out-InfixTree}
use Rattle.hs_expression_forms.specs.Trees.{within}
use Rattle.hs_expression_forms.specs.Expressions.{starts_operand, starts_qop}
use Rattle.hs_expression_forms.specs.Expressions.{starts_aexp, operands}
use Rattle.hs_expression_forms.specs.Links.{Maybe, maybe_tokens, Piece}
use Rattle.hs_expression_forms.specs.Links.{piece_tokens, pieces_form, first_pieces, Links}
use Rattle.hs_expression_forms.specs.Links.{links_head, links_pieces, links}
use Rattle.hs_expression_forms.proofs.PieceLemmas.{pieces_chain, qop_starts}
use Rattle.hs_expression_forms.proofs.LinkLayerLemmas.{links_good, links_quiet}
use Rattle.hs_expression_forms.proofs.LinkLemmas.{Meeting, Next, ends, alone, plain, signed}
use Rattle.hs_expression_forms.proofs.QOpLemmas.{qop_unique}

-- What goes on behind an operator.
pub data Behind (limit : Option ℕ) (other : Links) (op : QOpTree) (more : List Piece) (ops beyond : ℕ)
    (s after : Ts) : Type 0 where
  lone_at : other.1 ≡ Some op → more ≡ (op, None) ∷ [] → s ≡ after → Behind limit other op more ops beyond s after
  plain_at : (e : OperandTree) (tail : Ts) → s ≡ spelling_operand e ++ tail →
      (within operands (lowered limit (ops + 1))).Good e → begins (operands.extends e) tail ≡ false → 1 ≤ beyond →
      Behind limit other op more ops beyond s after
  signed_at : (e : OperandTree) (tail : Ts) → s ≡ t.VarSym minus ∷ (spelling_operand e ++ tail) →
      (within operands (lowered limit (ops + 2))).Good e → begins (operands.extends e) tail ≡ false → 2 ≤ beyond →
      Behind limit other op more ops beyond s after

pub infix_takes_qop : (lone : Bool) (other : Links) (k : Terminal) → other.1 ≡ None →
    (links lone).extends other k ≡ false → starts_qop k ≡ false
infix_takes_qop lone (x, None) k e h = or_left (starts_qop k) _ (or_right (starts_aexp k) _ h)
infix_takes_qop lone (x, Some op) k e h = or_right (starts_operand k) _ h

pub begins_none : (g h : Terminal → Bool) (ts : Ts) → ((k : Terminal) → g k ≡ false → h k ≡ false) →
    begins g ts ≡ false →
    begins h ts ≡ true → ⊥
begins_none g h ts w q e = true≢false (sym e ∙ begins_within g h ts w q)

module _ (lone : Bool) (limit : Option ℕ) where
  -- a tree that goes on with this operator
  pub behind : (x : InfixTree) (deep ops : ℕ) (op : QOpTree) (other : Links) (s after : Ts) →
      length (first_pieces (out-InfixTree x).first (out-InfixTree x).rest) ≡ ops →
      (within (links lone) limit).Good other → begins ((links lone).extends other) after ≡ false →
      (m : Meeting limit x deep ops other (qop_tokens op ++ s) after) →
      Behind limit other op m.more ops m.beyond s after
  behind x deep ops op other s after long good quiet m = go m.more m.beyond m.pieces m.spelled m.next
    where
      ps : List Piece
      ps = first_pieces (out-InfixTree x).first (out-InfixTree x).rest

      whole : (pieces_form limit).Good (links_head other, links_pieces other)
      whole = links_good limit lone other good

      silent : begins ((pieces_form limit).extends (links_head other, links_pieces other)) after ≡ false
      silent = begins_within ((links lone).extends other) ((pieces_form limit).extends
          (links_head other, links_pieces other))
          after (links_quiet lone limit other) quiet

      split : (op' : QOpTree) (v : Maybe) (rest : List Piece) →
          qop_tokens op ++ s ≡ flat_map piece_tokens ((op', v) ∷ rest) ++ after →
          (op' ≡ op) × (maybe_tokens v ++ (flat_map piece_tokens rest ++ after) ≡ s)
      split op' v rest e =
          qop_unique op op' s (maybe_tokens v ++ (flat_map piece_tokens rest ++ after))
          (e ∙ append_assoc (qop_tokens op' ++ maybe_tokens v) (flat_map piece_tokens rest) after
          ∙ append_assoc (qop_tokens op') (maybe_tokens v) (flat_map piece_tokens rest ++ after))

      item : (before : List Piece) (op' : QOpTree) (e : OperandTree) (rest : List Piece) (n : ℕ) → length before ≡ n →
          links_pieces other ≡ before ++ (op', Some e) ∷ rest →
          (within operands (lowered limit (n + 1))).Good e
          × (begins (operands.extends e) (flat_map piece_tokens rest ++ after) ≡ false)
      item before op' e rest n is at =
          let whole' = subst (λ l. (pieces_form limit).Good (links_head other, l)) at whole in
          let silent' = subst (λ l. begins ((pieces_form limit).extends
          (links_head other, l)) after ≡ false) at silent in
          let c = pieces_chain limit in
          let it = c.laws.good_item (links_head other) before (op', Some e) rest whole' in (
            subst (λ k. (within operands (lowered limit (k + 1))).Good e) is it,
            quiet_inner c.form c.head c.items c.item c.inner c.starter c.make c.laws (links_head other) before
                (op', Some e) rest after whole' silent',
          )

      go : (more : List Piece) (beyond : ℕ) → links_pieces other ≡ ps ++ more →
          qop_tokens op ++ s ≡ flat_map piece_tokens more ++ after → Next other more beyond →
          Behind limit other op more ops beyond s after
      go more beyond at e (ends is none) =
          absurd (begins_none ((links lone).extends other) starts_qop after
          (λ k h. infix_takes_qop lone other k none h) quiet
          (ap (begins starts_qop) (sym (e ∙ ap (λ l. flat_map piece_tokens l ++ after) is))
          ∙ begins_append starts_qop (qop_tokens op) s (qop_starts op)))
      go more beyond at e (alone op' is o) =
          let cut = split op' None [] (e ∙ ap (λ l. flat_map piece_tokens l ++ after) is) in
          lone_at (o ∙ ap Some cut.0) (is ∙ ap (λ p. (p, None) ∷ []) cut.0) (sym cut.1)
      go more beyond at e (plain op' x' rest is le) =
          let cut = split op' (Some x') rest (e ∙ ap (λ l. flat_map piece_tokens l ++ after) is) in
          let found = item ps op' x' rest ops long (at ∙ ap (λ l. ps ++ l) is) in
          plain_at x' (flat_map piece_tokens rest ++ after) (sym cut.1) found.0 found.1 le
      go more beyond at e (signed op' x' rest is le) =
          let cut = split op' None ((q.Sym minus, Some x') ∷ rest)
          (e ∙ ap (λ l. flat_map piece_tokens l ++ after) is) in
          let found = item (ps ++ (op', None) ∷ []) (q.Sym minus) x' rest (ops + 1)
          (omega (arith, length-append ps ((op', None) ∷ []), long))
          (at ∙ ap (λ l. ps ++ l) is ∙ sym (append_assoc ps ((op', None) ∷ []) ((q.Sym minus, Some x') ∷ rest))) in
          let two : (ops + 1) + 1 ≡ ops + 2 = omega arith in
          signed_at x' (flat_map piece_tokens rest ++ after)
          (sym cut.1 ∙ append_assoc (t.VarSym minus ∷ spelling_operand x') (flat_map piece_tokens rest) after)
          (subst (λ k. (within operands (lowered limit k)).Good x') two found.0) found.1 le
