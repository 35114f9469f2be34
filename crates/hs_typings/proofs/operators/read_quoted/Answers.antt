use Rattle.hs_declaration_forms.proofs.OpLemmas.{op_no_name, op_var_open, op_con_open}
use Rattle.hs_typings.proofs.operators.read_quoted.Goals as goal

pub returns-in_default-after_backquote : goal.returns-in_default-after_backquote
returns-in_default-after_backquote c =
    op_var_open c.args.tokens.now _ _ c.in-Some.ensures c.in_default-after_backquote.ensures

pub returns-in_default-after_own_con : goal.returns-in_default-after_own_con
returns-in_default-after_own_con c =
    op_no_name c.args.tokens.now c.in_default.ensures c.in_default-after_own_con.ensures

pub returns-in_default-after_backquote-2 : goal.returns-in_default-after_backquote-2
returns-in_default-after_backquote-2 c =
    op_con_open c.args.tokens.now _ _ c.in-Some-after_own_con.ensures.0 c.in-Some-after_own_con.ensures.1
    c.in_default-after_backquote-2.ensures
