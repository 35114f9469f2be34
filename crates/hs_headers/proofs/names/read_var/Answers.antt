use Rattle.hs_headers.proofs.NameLemmas.{var_none}
use Rattle.hs_headers.proofs.names.read_var.Goals as goal

pub returns-in_default-after_left_paren : goal.returns-in_default-after_left_paren
returns-in_default-after_left_paren c = var_none c.args.tokens.now c.in_default.ensures
    c.in_default-after_left_paren.ensures
