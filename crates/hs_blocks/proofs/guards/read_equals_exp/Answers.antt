use Rattle.hs_block_forms.proofs.BodyLemmas.{gd_missed}
use Rattle.hs_blocks.proofs.guards.read_equals_exp.Goals as goal

pub returns-in_default : goal.returns-in_default
returns-in_default g c = λ ts next at took. gd_missed c.args.limit ts next at _ _ _ took c.in_default.ensures

pub returns : goal.returns
returns g c = λ ts next at took.
    c.equated_if_read.ensures c.args.limit ts next _ at took c.in-Some.ensures c.read_exp-exp.ensures
