use Rattle.hs_left_forms.proofs.LeftSideLemmas.{left_function}
use Rattle.hs_left_sides.proofs.left_sides.read_left_side.Goals as goal

pub returns-in-Ok : goal.returns-in-Ok
returns-in-Ok c =
    left_function c.args.limit c.args.tokens.now _ _ _ c.in-Ok.ensures.answers c.in-Ok.ensures.ends
