use Rattle.hs_block_forms.proofs.GuardLemmas.{guard_test, both_fail}
use Rattle.hs_blocks.proofs.guards.read_other.Goals as goal

pub returns-in-Ok : goal.returns-in-Ok
returns-in-Ok g c =
    guard_test c.args.limit c.args.tokens.now _ _ _ c.in-Ok.ensures.answers c.in-Ok.ensures.before_follow

pub returns-in-Err-At : goal.returns-in-Err-At
returns-in-Err-At g c =
    let r = rw c.in-Err-At.field-0-is at c.in-Err-At.ensures.answers in
    rw c.min.ensures (both_fail c.args.limit c.args.tokens.now c.args.left _ c.requires.refused r)
