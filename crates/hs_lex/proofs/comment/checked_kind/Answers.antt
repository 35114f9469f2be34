use Rattle.hs_lex.proofs.LevelLemmas.{is_checked, not_checked}
use Rattle.hs_lex.proofs.comment.checked_kind.Goals as goal

pub returns-in-Ok : goal.returns-in-Ok
returns-in-Ok c = is_checked c.args.text.now c.args.kind c.in-Ok.ensures.cases.1

pub returns-in-Err : goal.returns-in-Err
returns-in-Err c = not_checked c.args.text.now c.args.kind c.in-Err.ensures.cases.0
