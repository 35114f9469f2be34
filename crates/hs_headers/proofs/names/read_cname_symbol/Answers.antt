use Rattle.hs_headers.proofs.NameLemmas.{cname_no_symbol, cname_var_open, cname_con_open}
use Rattle.hs_headers.proofs.names.read_cname_symbol.Goals as goal

pub returns-in_default-after_right_paren : goal.returns-in_default-after_right_paren
returns-in_default-after_right_paren c = cname_var_open c.args.tokens.now _ _ c.in-Some.ensures
    c.in_default-after_right_paren.ensures

pub returns-in_default-after_own_con_sym : goal.returns-in_default-after_own_con_sym
returns-in_default-after_own_con_sym c = cname_no_symbol c.args.tokens.now c.in_default.ensures
    c.in_default-after_own_con_sym.ensures

pub returns-in_default-after_right_paren-2 : goal.returns-in_default-after_right_paren-2
returns-in_default-after_right_paren-2 c =
    cname_con_open c.args.tokens.now _ _ c.in-Some-after_own_con_sym.ensures.0 c.in-Some-after_own_con_sym.ensures.1
    c.in_default-after_right_paren-2.ensures
