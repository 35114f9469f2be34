use Rattle.hole_unify.proofs.TableLemmas.{Among-read}
use Rattle.hole_unify.proofs.build.build_fills.Goals as goal

pub built_for-requires-clause-number : goal.built_for-requires-clause-number
built_for-requires-clause-number c = c.requires.fills c.each-item.result
    (Among-read c.args.fills.now c.loop-each.each-index c.each-item.result c.loop-each-test.true c.each-item.is)
