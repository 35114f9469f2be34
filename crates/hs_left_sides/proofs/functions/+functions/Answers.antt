-- Each return is a lemma of `FunctionLemmas`.
use Rattle.std.proofs.Common.{◌∷◌, ◌∙◌, sym, true≢false, arith}
use Rattle.std.proofs.lemmas.Result.{err_from_is_err_and}
use Rattle.hs_tokens.specs.declared.terminal.Terminal.TheVariants.{LeftParen}
use Rattle.hs_left_forms.proofs.FunctionLemmas.{function_prefix, function_bracketed, no_bracket, no_room}
use Rattle.hs_left_forms.proofs.FunctionLemmas.{operand_fails, brackets_fail, brackets_failed, wrapped_failed, wrapped_took}
use Rattle.hs_left_forms.proofs.FunctionLemmas.{inner_failed, bracket_missed, bracketed_took}
use Rattle.hs_left_sides.proofs.functions.+functions.Goals as goal

pub read_function-returns-in-Ok : goal.read_function-returns-in-Ok
read_function-returns-in-Ok t c = function_prefix c.args.limit c.args.tokens.now _ _ _ c.in-Ok.ensures

pub read_last-returns-in_default : goal.read_last-returns-in_default
read_last-returns-in_default t c =
    no_bracket c.args.limit c.args.tokens.now c.args.left c.in_default.ensures c.requires

pub read_last-returns-then-not-allows : goal.read_last-returns-then-not-allows
read_last-returns-then-not-allows t c =
    no_room c.args.limit c.args.tokens.now c.args.left
    (λ w. true≢false (sym (c.allows.ensures.1 w) ∙ c.if-not-allows.true)) c.requires

pub read_unnamed-read_last-requires : goal.read_unnamed-read_last-requires
read_unnamed-read_last-requires t c =
    let r = rw c.in-Err-At.field-0-is at c.in-Err-At.ensures in
    (omega arith, rw c.min.ensures (operand_fails c.args.limit c.args.tokens.now c.args.left _ c.requires r))

pub read_last-returns-in_ok-inner-in-Ok : goal.read_last-returns-in_ok-inner-in-Ok
read_last-returns-in_ok-inner-in-Ok t c =
    rw c.in_ok-inner-in-Ok.ensures (function_bracketed c.args.limit c.args.tokens.now _ c.in-Some.ensures _ _ _
    c.in-Ok.ensures)

pub read_last-returns-in-Err : goal.read_last-returns-in-Err
read_last-returns-in-Err t c =
    rw c.later.ensures (brackets_fail c.args.limit c.args.tokens.now _ c.in-Some.ensures c.args.left c.requires _
    c.in-Err.ensures)

pub read_wrapped-returns-in_err-inner : goal.read_wrapped-returns-in_err-inner
read_wrapped-returns-in_err-inner t c =
    let p = err_from_is_err_and c.from_residual.result c.from_residual.ensures.1 in
    rw (p.1, p.2) (brackets_failed c.args.limit (LeftParen ∷ c.args.tokens.now) _ c.in_err-inner.ensures)

pub read_wrapped-returns-in_err-args : goal.read_wrapped-returns-in_err-args
read_wrapped-returns-in_err-args t c =
    let p = err_from_is_err_and c.from_residual-in_err-args.result c.from_residual-in_err-args.ensures.1 in
    rw (p.1, p.2) (wrapped_failed c.args.limit (LeftParen ∷ c.args.tokens.now) _ _ _ c.in_ok-inner.ensures _
    c.in_err-args.ensures)

pub read_wrapped-returns : goal.read_wrapped-returns
read_wrapped-returns t c =
    rw c.max.ensures (wrapped_took c.args.limit (LeftParen ∷ c.args.tokens.now) _ _ _ c.in_ok-inner.ensures _ _ _
    c.in_ok-args.ensures)

pub read_bracketed-returns-in_err-inner : goal.read_bracketed-returns-in_err-inner
read_bracketed-returns-in_err-inner t c =
    let p = err_from_is_err_and c.from_residual.result c.from_residual.ensures.1 in
    rw (p.1, p.2) (inner_failed c.args.limit c.requires _ c.lower.ensures c.args.tokens.now _ c.in_err-inner.ensures)

pub read_bracketed-returns-in_default : goal.read_bracketed-returns-in_default
read_bracketed-returns-in_default t c =
    bracket_missed c.args.limit c.requires _ c.lower.ensures c.args.tokens.now _ _ _ c.in_ok-inner.ensures
    c.in_default.ensures

pub read_bracketed-returns : goal.read_bracketed-returns
read_bracketed-returns t c =
    bracketed_took c.args.limit c.requires _ c.lower.ensures c.args.tokens.now _ _ _ c.in_ok-inner.ensures _
    c.in-Some.ensures
