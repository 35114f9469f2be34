use Rattle.hs_left_forms.proofs.VarOpLemmas.{varop_none}
use Rattle.hs_left_sides.proofs.operators.read_varop.Goals as goal

pub returns-in_default-after_backquote : goal.returns-in_default-after_backquote
returns-in_default-after_backquote c =
    varop_none c.args.tokens.now c.in_default.ensures c.in_default-after_backquote.ensures
