use Rattle.hs_headers.proofs.NameLemmas.{qvar_no_symbol, qvar_open, qvar_qualified_open}
use Rattle.hs_headers.proofs.names.read_qvar_symbol.Goals as goal

pub returns-in_default-after_right_paren : goal.returns-in_default-after_right_paren
returns-in_default-after_right_paren c = qvar_open c.args.tokens.now _ _ c.in-Some.ensures
    c.in_default-after_right_paren.ensures

pub returns-in_default-after_qvar_sym : goal.returns-in_default-after_qvar_sym
returns-in_default-after_qvar_sym c = qvar_no_symbol c.args.tokens.now c.in_default.ensures
    c.in_default-after_qvar_sym.ensures

pub returns-in_default-after_right_paren-2 : goal.returns-in_default-after_right_paren-2
returns-in_default-after_right_paren-2 c =
    qvar_qualified_open c.args.tokens.now _ _ c.in-Some-after_qvar_sym.ensures c.in_default-after_right_paren-2.ensures
