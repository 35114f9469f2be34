use Rattle.hs_headers.proofs.NameLemmas.{qvar_none}
use Rattle.hs_headers.proofs.names.read_qvar.Goals as goal

pub returns-in_default-after_left_paren : goal.returns-in_default-after_left_paren
returns-in_default-after_left_paren c =
    qvar_none c.args.tokens.now c.in_default.ensures c.in_default-after_qvar.ensures
    c.in_default-after_left_paren.ensures
