use Rattle.std.proofs.Common.{◌∙◌, ap, sym, refl}
use Rattle.declared_kinds.proofs.CycleLemmas.{not_there}
use Rattle.declared_kinds.proofs.cycle.uses_itself.Goals as goal

pub returns-in-None : goal.returns-in-None
returns-in-None c = not_there c.args.uses.now c.args.number c.at.result c.in-None.is c.at.ensures
