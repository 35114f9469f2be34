-- Each return is a lemma of `LedLemmas`.
use Rattle.std.proofs.Common.{◌∙◌, length, refl, sym, true≢false, arith}
use Rattle.std.proofs.lemmas.Result.{err_from_is_err_and}
use Rattle.hs_forms.specs.declared.fault.Fault.TheVariants.{At}
use Rattle.hs_tokens.specs.declared.terminal.Terminal.TheVariants as t
use Rattle.hs_tokens.specs.declared.word.Word.TheVariants as w
use Rattle.hs_expression_forms.proofs.OperandLayerLemmas.{make_if}
use Rattle.hs_expression_forms.proofs.OperandLemmas.{if_makes}
use Rattle.hs_expression_forms.proofs.RowLemmas.{else_follows, exp_ends}
use Rattle.hs_expression_forms.specs.Expressions.{exps, starts_exp}
use Rattle.hs_operand_forms.proofs.LedLemmas.{led_over, led_first, led_missed, led_second, led_ok}
use Rattle.hs_expression_forms.specs.Trees.{ended, row}
use Rattle.hs_expressions.specs.Leaves.{is_then, is_else}
use Rattle.hs_operand_forms.proofs.LedLemmas.{branches_first, branches_missed, branches_second, branches_ok}
use Rattle.hs_operands.proofs.operands.read_if.Goals as goal

pub returns-then-not-allows : goal.returns-then-not-allows
returns-then-not-allows g c =
    led_over (t.Word w.If) (t.Word w.Then) exps (row (ended exps (t.Word w.Else)) exps) make_if 3 if_makes starts_exp
    (else_follows exps (t.Word w.Then) (t.Word w.Else)) (exp_ends (t.Word w.Then) refl) is_then refl refl c.args.limit
    c.args.tokens.now
    (λ r. true≢false (sym (c.allows.ensures.1 r) ∙ c.if-not-allows.true)) _ (omega arith)

pub returns-in_err-test : goal.returns-in_err-test
returns-in_err-test g c =
    let p = err_from_is_err_and c.from_residual.result c.from_residual.ensures.1 in
    rw (p.1, p.2) (led_first (t.Word w.If) (t.Word w.Then) exps (row (ended exps (t.Word w.Else)) exps) make_if 3
    if_makes starts_exp (else_follows exps (t.Word w.Then) (t.Word w.Else)) (exp_ends (t.Word w.Then) refl) is_then
    refl refl c.args.limit c.args.tokens.now
    (c.allows.ensures.0 c.if-not-allows.false) _ c.lower-below.ensures _ c.in_err-test.ensures)

pub returns-in_default : goal.returns-in_default
returns-in_default g c =
    led_missed (t.Word w.If) (t.Word w.Then) exps (row (ended exps (t.Word w.Else)) exps) make_if 3 if_makes
    starts_exp (else_follows exps (t.Word w.Then) (t.Word w.Else)) (exp_ends (t.Word w.Then) refl) is_then refl refl
    c.args.limit c.args.tokens.now
    (c.allows.ensures.0 c.if-not-allows.false) _ c.lower-below.ensures c.in_ok-test.test.tree _ _ c.in_ok-test.ensures
    c.in_default.ensures

pub returns-in_err-yes : goal.returns-in_err-yes
returns-in_err-yes g c =
    let p = err_from_is_err_and c.from_residual-in_err-yes.result c.from_residual-in_err-yes.ensures.1 in
    rw (p.1, p.2) (
    led_second (t.Word w.If) (t.Word w.Then) exps (row (ended exps (t.Word w.Else)) exps) make_if 3 if_makes
    starts_exp (else_follows exps (t.Word w.Then) (t.Word w.Else)) (exp_ends (t.Word w.Then) refl) is_then refl refl
    c.args.limit c.args.tokens.now
    (c.allows.ensures.0 c.if-not-allows.false) _ c.lower-below.ensures c.in_ok-test.test.tree _ _ _
    c.in_ok-test.ensures c.in-Some.ensures _
    (branches_first _ c.in-Some.next.now _ c.in_err-yes.ensures))

pub returns-in_default-after_else : goal.returns-in_default-after_else
returns-in_default-after_else g c =
    led_second (t.Word w.If) (t.Word w.Then) exps (row (ended exps (t.Word w.Else)) exps) make_if 3 if_makes
    starts_exp (else_follows exps (t.Word w.Then) (t.Word w.Else)) (exp_ends (t.Word w.Then) refl) is_then refl refl
    c.args.limit c.args.tokens.now
    (c.allows.ensures.0 c.if-not-allows.false) _ c.lower-below.ensures c.in_ok-test.test.tree _ _ _
    c.in_ok-test.ensures c.in-Some.ensures (At (length c.in_ok-yes.yes.rest.now))
    (branches_missed _ c.in-Some.next.now is_else refl c.in_ok-yes.yes.tree _ _ c.in_ok-yes.ensures
    c.in_default-after_else.ensures)

pub returns-in_err-no : goal.returns-in_err-no
returns-in_err-no g c =
    let p = err_from_is_err_and c.from_residual-in_err-no.result c.from_residual-in_err-no.ensures.1 in
    rw (p.1, p.2) (
    led_second (t.Word w.If) (t.Word w.Then) exps (row (ended exps (t.Word w.Else)) exps) make_if 3 if_makes
    starts_exp (else_follows exps (t.Word w.Then) (t.Word w.Else)) (exp_ends (t.Word w.Then) refl) is_then refl refl
    c.args.limit c.args.tokens.now
    (c.allows.ensures.0 c.if-not-allows.false) _ c.lower-below.ensures c.in_ok-test.test.tree _ _ _
    c.in_ok-test.ensures c.in-Some.ensures _
    (branches_second _ c.in-Some.next.now c.in_ok-yes.yes.tree _ _ _ c.in_ok-yes.ensures
    c.in-Some-after_else.ensures _ c.in_err-no.ensures))

pub returns : goal.returns
returns g c =
    rw (c.max-depth.ensures, c.max.ensures, c.in_ok-tree.ensures)
    (led_ok (t.Word w.If) (t.Word w.Then) exps (row (ended exps (t.Word w.Else)) exps) make_if 3 if_makes starts_exp
    (else_follows exps (t.Word w.Then) (t.Word w.Else)) (exp_ends (t.Word w.Then) refl) is_then refl refl c.args.limit
    c.args.tokens.now
    (c.allows.ensures.0 c.if-not-allows.false) _ c.lower-below.ensures c.in_ok-test.test.tree _ _ _
    c.in_ok-test.ensures c.in-Some.ensures _ _ _
    (branches_ok _ c.in-Some.next.now c.in_ok-yes.yes.tree _ _ _ c.in_ok-yes.ensures c.in-Some-after_else.ensures
    c.in_ok-no.no.tree _ _ c.in_ok-no.ensures))
