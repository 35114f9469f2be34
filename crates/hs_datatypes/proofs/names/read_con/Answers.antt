use Rattle.hs_declaration_forms.proofs.ConLemmas.{con_none}
use Rattle.hs_datatypes.proofs.names.read_con.Goals as goal

pub returns-in_default-after_left_paren : goal.returns-in_default-after_left_paren
returns-in_default-after_left_paren c =
    con_none c.args.tokens.now c.in_default.ensures c.in_default-after_left_paren.ensures
