use Rattle.hs_left_forms.proofs.VarOpLemmas.{varop_no_name, varop_open}
use Rattle.hs_left_sides.proofs.operators.read_quoted.Goals as goal

pub returns-in_default : goal.returns-in_default
returns-in_default c = varop_no_name c.args.tokens.now c.in_default.ensures

pub returns-in_default-after_backquote : goal.returns-in_default-after_backquote
returns-in_default-after_backquote c =
    varop_open c.args.tokens.now _ _ c.in-Some.ensures c.in_default-after_backquote.ensures
