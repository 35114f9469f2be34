-- Each return is a lemma of `LedLemmas`.
use Rattle.std.proofs.Common.{◌∙◌, refl, sym, true≢false, arith}
use Rattle.std.proofs.lemmas.Result.{err_from_is_err_and}
use Rattle.hs_tokens.specs.declared.terminal.Terminal.TheVariants as t
use Rattle.hs_expression_forms.proofs.OperandLayerLemmas.{make_lambda}
use Rattle.hs_expression_forms.proofs.OperandLemmas.{lambda_makes}
use Rattle.hs_expression_forms.proofs.RowLemmas.{exp_follows}
use Rattle.hs_expression_forms.specs.Expressions.{apats, exps, starts_exp}
use Rattle.hs_operand_forms.proofs.LedLemmas.{led_over, led_first, led_missed, led_second, led_ok}
use Rattle.hs_tokens.specs.Terminals.{is_arrow}
use Rattle.hs_operands.proofs.operands.read_lambda.Goals as goal

pub returns-then-not-allows : goal.returns-then-not-allows
returns-then-not-allows g c =
    led_over t.Backslash t.Arrow apats exps make_lambda 1 lambda_makes starts_exp (exp_follows apats t.Arrow) (λ x.
    refl) is_arrow refl refl c.args.limit c.args.tokens.now
    (λ r. true≢false (sym (c.allows.ensures.1 r) ∙ c.if-not-allows.true)) _ (omega arith)

pub returns-in_err-pats : goal.returns-in_err-pats
returns-in_err-pats g c =
    let p = err_from_is_err_and c.from_residual.result c.from_residual.ensures.1 in
    rw (p.1, p.2) (led_first t.Backslash t.Arrow apats exps make_lambda 1 lambda_makes starts_exp (exp_follows apats
    t.Arrow) (λ x. refl) is_arrow refl refl c.args.limit c.args.tokens.now
    (c.allows.ensures.0 c.if-not-allows.false) _ c.lower-below.ensures _ c.in_err-pats.ensures)

pub returns-in_default : goal.returns-in_default
returns-in_default g c =
    led_missed t.Backslash t.Arrow apats exps make_lambda 1 lambda_makes starts_exp (exp_follows apats t.Arrow) (λ x.
    refl) is_arrow refl refl c.args.limit c.args.tokens.now
    (c.allows.ensures.0 c.if-not-allows.false) _ c.lower-below.ensures c.in_ok-pats.pats.tree _ _ c.in_ok-pats.ensures
    c.in_default.ensures

pub returns-in_err-exp : goal.returns-in_err-exp
returns-in_err-exp g c =
    let p = err_from_is_err_and c.from_residual-in_err-exp.result c.from_residual-in_err-exp.ensures.1 in
    rw (p.1, p.2) (led_second t.Backslash t.Arrow apats exps make_lambda 1 lambda_makes starts_exp (exp_follows apats
    t.Arrow) (λ x. refl) is_arrow refl refl c.args.limit c.args.tokens.now
    (c.allows.ensures.0 c.if-not-allows.false) _ c.lower-below.ensures c.in_ok-pats.pats.tree _ _ _
    c.in_ok-pats.ensures c.in-Some.ensures _ c.in_err-exp.ensures)

pub returns : goal.returns
returns g c =
    rw (c.max.ensures, c.in_ok-tree.ensures)
    (led_ok t.Backslash t.Arrow apats exps make_lambda 1 lambda_makes starts_exp (exp_follows apats t.Arrow) (λ x.
    refl) is_arrow refl refl c.args.limit c.args.tokens.now
    (c.allows.ensures.0 c.if-not-allows.false) _ c.lower-below.ensures c.in_ok-pats.pats.tree _ _ _
    c.in_ok-pats.ensures c.in-Some.ensures
    c.in_ok-exp.exp.tree _ _ c.in_ok-exp.ensures)
