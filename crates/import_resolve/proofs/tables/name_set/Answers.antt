use Rattle.std.proofs.Common.{arith}
use Rattle.std.proofs.lemmas.Grind.{common_steps}
use Rattle.import_resolve.proofs.tables.name_set.Goals as goal

pub returns : goal.returns
returns c = λ q. grind (arith, common_steps, c.loop-name.invariant q)
