-- The refusal of the operand is a lemma of `SignedLemmas`.
use Rattle.std.proofs.Common.{◌∙◌, ap}
use Rattle.std.proofs.lemmas.Result.{err_from_is_err_and}
use Rattle.hs_modules.specs.ExpressionExtents.{sign}
use Rattle.hs_expressions.proofs.SignedLemmas.{signed_fails}
use Rattle.hs_expressions.proofs.signed.read_signed.Goals as goal

pub returns-in_err-read : goal.returns-in_err-read
returns-in_err-read g c =
    let p = err_from_is_err_and c.from_residual.result c.from_residual.ensures.1 in
    rw (p.1, p.2) (signed_fails c.args.limit c.lower.result c.args.deep c.args.used c.count_sign.result
    c.args.tokens.now
    c.after_sign.result.now _ (c.count_sign.ensures ∙ ap sign c.begins_minus-negated.ensures) c.after_sign.ensures
    (c.allows.ensures.0 c.if-not-allows.false) c.lower.ensures (c.requires.says _ _ _ c.in_err-read.ensures))
