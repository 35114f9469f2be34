use Rattle.std.proofs.Common.{◌∙◌, sym}
use Rattle.std.proofs.lemmas.Result.{err_from_is_err_and}
use Rattle.hs_left_forms.proofs.LeftSideLemmas.{pattern_took, pattern_failed, pattern_goes}
use Rattle.hs_left_sides.proofs.left_sides.read_ended_pattern.Goals as goal

pub returns-in_err-pattern-clause-answers : goal.returns-in_err-pattern-clause-answers
returns-in_err-pattern-clause-answers c =
    let p = err_from_is_err_and c.from_residual.result c.from_residual.ensures.1 in
    rw (p.1, p.2) (pattern_failed c.args.limit c.args.tokens.now _ c.in_err-pattern.ensures)

pub returns-then-goes_on_left-clause-answers : goal.returns-then-goes_on_left-clause-answers
returns-then-goes_on_left-clause-answers c =
    pattern_goes c.args.limit c.args.tokens.now _ _ _ c.in_ok-pattern.ensures
    (sym c.goes_on_left.ensures ∙ c.if-goes_on_left.true)

pub returns-clause-answers : goal.returns-clause-answers
returns-clause-answers c = pattern_took c.args.limit c.args.tokens.now _ _ _ c.in_ok-pattern.ensures
