-- What stands in a row in lambdas, `let`, `if`, `case` and sections, and the tokens that end it.
use Rattle.std.proofs.Common.{◌≡◌, ℕ, Bool, true, false, [], ◌∷◌, ◌++◌, refl, sym, ap}
use Rattle.std.proofs.Common.{◌∙◌, arith}
use Rattle.std.specs.Prelude.{max, ◌&&◌, Some, None}
use Rattle.std.proofs.lemmas.Bool.{and_from}
use Rattle.hs_forms.specs.Reading.{begins}
use Rattle.hs_forms.specs.Limits.{Within}
use Rattle.hs_forms.proofs.FormLemmas.{begins_append}
use Rattle.hs_tokens.specs.declared.terminal.Terminal.{Terminal}
use Rattle.hs_tokens.specs.declared.terminal.Terminal.TheVariants as t
use Rattle.hs_modules.specs.Extents.{depth_of}
use Rattle.hs_modules.specs.ExpressionExtents.{extent_algebra, extent_of_alt_block, extent_of_alt_slot}
use Rattle.hs_modules.specs.Tokens.{token_algebra, spelling_exp, spelling_infix, spelling_alt_block}
use Rattle.hs_modules.specs.Formed.{fact_algebra, good_of, facts_of_exp, facts_of_infix, facts_of_alt_block}
use Rattle.hs_modules.specs.Formed.{facts_of_alt_slot}
use Rattle.hs_modules.specs.declared.expressions.ExpTree.{ExpTree}
use Rattle.hs_modules.specs.declared.expressions.ExpTree.TheVariants as v
use Rattle.hs_modules.specs.declared.expressions.InfixTree.{InfixTree}
use Rattle.hs_modules.specs.declared.expressions.AltBlock.{AltBlock, out-AltBlock, roll-AltBlock, roll-out-AltBlock}
use Rattle.hs_modules.specs.declared.expressions.AltSlot.{AltSlot-F}
use Rattle.hs_modules.specs.declared.expressions.AltSlot.TheVariants as sl
use Rattle.hs_modules.proofs.FoldingLemmas.{alt_block_folded, alt_slot_folded}
use Rattle.hs_expression_forms.specs.Trees.{Trees, row, ended, Follows}
use Rattle.hs_expression_forms.specs.Expressions.{exps, infixes, is_exp, depth_of_exp, starts_exp, goes_on, alt_blocks}
use Rattle.hs_expression_forms.specs.Expressions.{is_infix, depth_of_infix}
use Rattle.hs_expression_forms.specs.Fronts.{section_ops}
use Rattle.hs_expression_forms.proofs.StarterLemmas.{closes}
use Rattle.hs_expression_forms.proofs.LinkFirstLemmas.{least_infix, least_links_good}
use Rattle.hs_expression_forms.proofs.FrontLemmas.{plain_facts, plain_deep}
use Rattle.hs_expression_forms.proofs.AExpLemmas.{exp_opens, infix_opens, opens_starts}

pub exp_starts : (e : ExpTree) → begins starts_exp (spelling_exp e) ≡ true
exp_starts e = opens_starts (spelling_exp e) (exp_opens e)

pub infix_starts : (x : InfixTree) → begins starts_exp (spelling_infix x) ≡ true
infix_starts x = opens_starts (spelling_infix x) (infix_opens x)

zero_deep : (n : ℕ) → Within (Some 0) n → n ≡ 0
zero_deep n h = omega (arith, h)

-- a least chain and a least expression
infix_formed : is_infix least_infix ≡ true
infix_formed = (least_links_good false None).0

infix_shallow : depth_of_infix least_infix ≡ 0
infix_shallow = zero_deep (depth_of_infix least_infix) (least_links_good false (Some 0)).1

abbrev pub least_exp : ExpTree
least_exp = v.Infix least_infix

pub least_exp_formed : is_exp least_exp ≡ true
least_exp_formed = ap good_of (plain_facts least_infix) ∙ infix_formed

pub least_exp_deep : depth_of_exp least_exp ≡ 0
least_exp_deep = plain_deep least_infix ∙ infix_shallow

-- an expression behind a token that ends what is before it
pub exp_follows : {A : Type 0} (a : Trees Terminal A) (k : Terminal) → Follows (ended a k) exps starts_exp
exp_follows a k = record {
  starts = exp_starts;
  apart = λ x k h. refl;
  least = least_exp;
  least_formed = least_exp_formed;
  least_deep = least_exp_deep;
}

-- the parts of `if` behind `then`
pub else_follows : {A : Type 0} (a : Trees Terminal A) (k end : Terminal) →
    Follows (ended a k) (row (ended exps end) exps) starts_exp
else_follows a k end = record {
  starts = λ y. begins_append starts_exp (spelling_exp y.0 ++ end ∷ []) (spelling_exp y.1)
      (begins_append starts_exp (spelling_exp y.0) (end ∷ []) (exp_starts y.0));
  apart = λ x k h. refl;
  least = (least_exp, least_exp);
  least_formed = and_from (is_exp least_exp) _ least_exp_formed least_exp_formed;
  least_deep = omega (arith, least_exp_deep);
}

-- a chain behind an operator
pub section_follows : Follows section_ops (ended infixes t.RightParen) starts_exp
section_follows = record {
  starts = λ x. begins_append starts_exp (spelling_infix x) (t.RightParen ∷ []) (infix_starts x);
  apart = λ op k h. refl;
  least = least_infix;
  least_formed = infix_formed;
  least_deep = infix_shallow;
}

-- a block of alternatives
abbrev pub is_left_brace : Terminal → Bool
is_left_brace t.LeftBrace = true
is_left_brace _ = false

block_spelled : (x : AltBlock) → begins is_left_brace (spelling_alt_block x) ≡ true
unfolding token_algebra
block_spelled x =
    ap (begins is_left_brace) (ap spelling_alt_block (sym (roll-out-AltBlock x))
    ∙ alt_block_folded token_algebra (out-AltBlock x))

abbrev least_block : AltBlock
least_block = roll-AltBlock (record { first = sl.NoAlt; rest = [] })

slot_formed : (facts_of_alt_slot sl.NoAlt).good ≡ true
unfolding fact_algebra
slot_formed = ap (λ y. (facts_of_alt_slot y).good) (sym sl.rolls-NoAlt)
    ∙ ap good_of (alt_slot_folded fact_algebra AltSlot-F.NoAlt)

slot_deep : (extent_of_alt_slot sl.NoAlt).depth ≡ 0
unfolding extent_algebra
slot_deep = ap (λ y. (extent_of_alt_slot y).depth) (sym sl.rolls-NoAlt)
    ∙ ap depth_of (alt_slot_folded extent_algebra AltSlot-F.NoAlt)

block_formed : (facts_of_alt_block least_block).good ≡ true
unfolding fact_algebra
block_formed =
    ap good_of (alt_block_folded fact_algebra (record { first = sl.NoAlt; rest = [] }))
    ∙ ap (λ b. b && true) slot_formed

block_deep : (extent_of_alt_block least_block).depth ≡ 0
unfolding extent_algebra
block_deep =
    let e : (extent_of_alt_block least_block).depth ≡ max (extent_of_alt_slot sl.NoAlt).depth 0 =
    ap depth_of (alt_block_folded extent_algebra (record { first = sl.NoAlt; rest = [] })) in
    omega (arith, e, slot_deep)

pub block_follows : {A : Type 0} (a : Trees Terminal A) (k : Terminal) → Follows (ended a k) alt_blocks is_left_brace
block_follows a k = record {
  starts = block_spelled;
  apart = λ x k h. refl;
  least = least_block;
  least_formed = block_formed;
  least_deep = block_deep;
}

-- tokens by which no expression goes on: brackets, words, and what else closes a part
pub exp_ends : (k : Terminal) → goes_on true true true k ≡ false → (e : ExpTree) → exps.extends e k ≡ false
exp_ends k h e = closes k h true true (facts_of_exp e).ends_in_type

pub infix_ends : (k : Terminal) → goes_on true true true k ≡ false → (x : InfixTree) → infixes.extends x k ≡ false
infix_ends k h x = closes k h true (facts_of_infix x).is_open (facts_of_infix x).ends_in_type
