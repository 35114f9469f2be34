use Rattle.hs_headers.proofs.NameLemmas.{var_no_symbol, var_open}
use Rattle.hs_headers.proofs.names.read_var_symbol.Goals as goal

pub returns-in_default : goal.returns-in_default
returns-in_default c = var_no_symbol c.args.tokens.now c.in_default.ensures

pub returns-in_default-after_right_paren : goal.returns-in_default-after_right_paren
returns-in_default-after_right_paren c = var_open c.args.tokens.now _ _ c.in-Some.ensures
    c.in_default-after_right_paren.ensures
