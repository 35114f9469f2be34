use Rattle.hs_declaration_forms.proofs.ConLemmas.{con_no_symbol, con_open}
use Rattle.hs_datatypes.proofs.names.read_con_symbol.Goals as goal

pub returns-in_default : goal.returns-in_default
returns-in_default c = con_no_symbol c.args.tokens.now c.in_default.ensures

pub returns-in_default-after_right_paren : goal.returns-in_default-after_right_paren
returns-in_default-after_right_paren c =
    con_open c.args.tokens.now _ _ c.in-Some.ensures.0 c.in-Some.ensures.1 c.in_default-after_right_paren.ensures
