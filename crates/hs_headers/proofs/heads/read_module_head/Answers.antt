use Rattle.hs_headers.proofs.HeadLemmas.{head_none}
use Rattle.hs_headers.proofs.heads.read_module_head.Goals as goal

pub returns-in_default : goal.returns-in_default
returns-in_default c =
    head_none c.args.tokens.now c.in_default.ensures
