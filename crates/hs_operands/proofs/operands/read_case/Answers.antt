-- Each refusal is a lemma of `LedLemmas`.
use Rattle.std.proofs.Common.{◌∙◌, refl, subst, sym, true≢false, arith}
use Rattle.std.proofs.lemmas.Result.{err_from_is_err_and}
use Rattle.hs_tokens.specs.declared.terminal.Terminal.TheVariants as t
use Rattle.hs_tokens.specs.declared.word.Word.TheVariants as w
use Rattle.hs_expression_forms.specs.Trees.{Took}
use Rattle.hs_expression_forms.specs.Expressions.{alt_blocks, exps}
use Rattle.hs_expression_forms.proofs.OperandLayerLemmas.{make_case}
use Rattle.hs_expression_forms.proofs.OperandLemmas.{case_makes}
use Rattle.hs_expression_forms.proofs.RowLemmas.{block_follows, exp_ends, is_left_brace}
use Rattle.hs_expressions.specs.Leaves.{is_of}
use Rattle.hs_operand_forms.proofs.LedLemmas.{led_over, led_first}
use Rattle.hs_operands.proofs.operands.read_case.Goals as goal

pub returns-then-not-allows : goal.returns-then-not-allows
returns-then-not-allows g c =
    led_over (t.Word w.Case) (t.Word w.Of) exps alt_blocks make_case 4 case_makes is_left_brace
    (block_follows exps (t.Word w.Of)) (exp_ends (t.Word w.Of) refl) is_of refl refl c.args.limit
    c.args.tokens.now (λ r. true≢false (sym (c.allows.ensures.1 r) ∙ c.if-not-allows.true)) _ (omega arith)

pub returns-in_err-exp : goal.returns-in_err-exp
returns-in_err-exp g c =
    let p = err_from_is_err_and c.from_residual.result c.from_residual.ensures.1 in
    rw (p.1, p.2) (
    led_first (t.Word w.Case) (t.Word w.Of) exps alt_blocks make_case 4 case_makes is_left_brace
    (block_follows exps (t.Word w.Of)) (exp_ends (t.Word w.Of) refl) is_of refl refl c.args.limit
    c.args.tokens.now (c.allows.ensures.0 c.if-not-allows.false) _ c.lower.ensures _ c.in_err-exp.ensures)

pub returns : goal.returns
returns g c =
    c.read_of.ensures c.args.tokens.now (c.allows.ensures.0 c.if-not-allows.false)
    (subst (λ l. Took exps l c.args.tokens.now c.in_ok-exp.exp.tree c.in_ok-exp.exp.rest.now c.in_ok-exp.exp.depth)
    c.lower.ensures c.in_ok-exp.ensures)
