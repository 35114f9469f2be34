use Rattle.std.proofs.Common.{length, refl}
use Rattle.hole_unify.proofs.SolvingLemmas.{range-start}
use Rattle.hole_unify.proofs.solve.first_obstacle.Goals as goal

pub loop-range-init : goal.loop-range-init
loop-range-init c = range-start c.args.equations.now c.args.obstacle (length c.args.equations.now) refl c.requires.fails
