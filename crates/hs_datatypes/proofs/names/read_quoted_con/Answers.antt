use Rattle.hs_declaration_forms.proofs.ConLemmas.{conop_no_name, conop_open}
use Rattle.hs_datatypes.proofs.names.read_quoted_con.Goals as goal

pub returns-in_default : goal.returns-in_default
returns-in_default c = conop_no_name c.args.tokens.now c.in_default.ensures

pub returns-in_default-after_backquote : goal.returns-in_default-after_backquote
returns-in_default-after_backquote c =
    conop_open c.args.tokens.now _ _ c.in-Some.ensures.0 c.in-Some.ensures.1 c.in_default-after_backquote.ensures
