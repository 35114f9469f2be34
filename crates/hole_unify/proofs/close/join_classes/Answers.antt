use Rattle.std.proofs.Common.{ap, ◌∙◌}
use Rattle.hole_unify.specs.Table.{nodes_of}
use Rattle.hole_unify.proofs.NumberingLemmas.{nodes_of-moved}
use Rattle.hole_unify.proofs.close.join_classes.Goals as goal

pub returns-clause-classes : goal.returns-clause-classes
returns-clause-classes c = ap (nodes_of c.args.table.now) c.join.ensures
    ∙ nodes_of-moved c.args.from c.args.to c.args.table.now c.args.classes.now
