use Rattle.hs_declaration_forms.proofs.OpLemmas.{op_none}
use Rattle.hs_typings.proofs.operators.read_op.Goals as goal

pub returns-in_default-after_backquote : goal.returns-in_default-after_backquote
returns-in_default-after_backquote c =
    op_none c.args.tokens.now c.in_default.ensures c.in_default-after_own_con_sym.ensures
    c.in_default-after_backquote.ensures
