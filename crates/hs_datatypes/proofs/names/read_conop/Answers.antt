use Rattle.hs_declaration_forms.proofs.ConLemmas.{conop_none}
use Rattle.hs_datatypes.proofs.names.read_conop.Goals as goal

pub returns-in_default-after_backquote : goal.returns-in_default-after_backquote
returns-in_default-after_backquote c =
    conop_none c.args.tokens.now c.in_default.ensures c.in_default-after_backquote.ensures
