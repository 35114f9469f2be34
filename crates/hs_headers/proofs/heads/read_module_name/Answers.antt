use Rattle.hs_headers.proofs.HeadLemmas.{head_no_name}
use Rattle.hs_headers.proofs.heads.read_module_name.Goals as goal

pub returns-in_default : goal.returns-in_default
returns-in_default c =
    head_no_name c.args.tokens.now c.in_default.ensures
