-- Each return is a lemma of `BracketLemmas`.
use Rattle.std.proofs.Common.{◌∷◌, ◌∙◌, ap, sym, true≢false}
use Rattle.std.proofs.lemmas.Result.{err_from_is_err_and}
use Rattle.hs_tokens.specs.declared.terminal.Terminal.TheVariants.{LeftBracket}
use Rattle.hs_operand_forms.proofs.WordLemmas.{nil_took}
use Rattle.hs_operand_forms.proofs.BracketLemmas.{list_over, parts_failed, parts_missed, parts_took}
use Rattle.hs_operands.proofs.brackets.read_bracket.Goals as goal

pub returns-in-Some : goal.returns-in-Some
returns-in-Some g c =
    nil_took c.args.limit (LeftBracket ∷ c.args.tokens.now) c.in-Some.rest.now
    (ap (λ l. LeftBracket ∷ l) c.in-Some.ensures)

pub returns-then-not-allows : goal.returns-then-not-allows
returns-then-not-allows g c =
    list_over c.args.limit c.args.tokens.now c.in_default.ensures
    (λ w. true≢false (sym (c.allows.ensures.1 w) ∙ c.if-not-allows.true))

pub returns-in_err-inner : goal.returns-in_err-inner
returns-in_err-inner g c =
    let p = err_from_is_err_and c.from_residual.result c.from_residual.ensures.1 in
    rw (p.1, p.2) (parts_failed c.args.limit c.args.tokens.now c.in_default.ensures
    (c.allows.ensures.0 c.if-not-allows.false) _ c.lower.ensures _ c.in_err-inner.ensures)

pub returns-in_default-after_right_bracket : goal.returns-in_default-after_right_bracket
returns-in_default-after_right_bracket g c =
    parts_missed c.args.limit c.args.tokens.now c.in_default.ensures
    (c.allows.ensures.0 c.if-not-allows.false) _ c.lower.ensures c.in_ok-inner.inner.tree _ _ c.in_ok-inner.ensures
    c.in_default-after_right_bracket.ensures

pub returns : goal.returns
returns g c =
    rw c.in_ok-tree.ensures
    (parts_took c.args.limit c.args.tokens.now c.in_default.ensures
    (c.allows.ensures.0 c.if-not-allows.false) _ c.lower.ensures c.in_ok-inner.inner.tree _ _ _ c.in_ok-inner.ensures
    c.in-Some-after_right_bracket.ensures)
