use Rattle.std.proofs.Common.{◌∙◌, sym}
use Rattle.hs_left_forms.proofs.LeftSideLemmas.{function_goes}
use Rattle.hs_left_sides.proofs.left_sides.read_ended_function.Goals as goal

pub returns-then-goes_on_left-clause-answers : goal.returns-then-goes_on_left-clause-answers
returns-then-goes_on_left-clause-answers c =
    function_goes c.args.limit c.args.tokens.now _ _ _ c.in_ok-function.ensures
    (sym c.goes_on_left.ensures ∙ c.if-goes_on_left.true)
