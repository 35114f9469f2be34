use Rattle.bp_base.proofs.CommaLemmas.{not_bracketed}
use Rattle.bp_base.proofs.special.bracketed.Goals as goal

pub returns-in-None : goal.returns-in-None
returns-in-None c = not_bracketed c.args.rest.now c.in-None.ensures
