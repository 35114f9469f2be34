use Rattle.hs_left_forms.proofs.LeftSideLemmas.{left_pattern, left_fails}
use Rattle.hs_left_sides.proofs.left_sides.read_pattern_side.Goals as goal

pub returns-in-Ok : goal.returns-in-Ok
returns-in-Ok c =
    left_pattern c.args.limit c.args.tokens.now _ _ _ c.in-Ok.ensures.answers c.in-Ok.ensures.ends

pub returns-in-Err : goal.returns-in-Err
returns-in-Err c =
    rw c.later.ensures (left_fails c.args.limit c.args.tokens.now c.args.left c.requires _ c.in-Err.ensures.answers)
