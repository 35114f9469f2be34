use Rattle.std.proofs.Common.{◌≡◌, ◌++◌}
use Rattle.std.specs.Prelude.{IfOk}
use Rattle.hole_unify.specs.Table.{nodes_of}
use Rattle.hole_unify.specs.Close.{pairs_of, classes_pairs, classes_heads, classes_moved}
use Rattle.hole_unify.proofs.NumberingLemmas.{at-numbers}
use Rattle.hole_unify.proofs.close.join_pair.Goals as goal

pub returns-clause-heads : goal.returns-clause-heads
returns-clause-heads c =
    at-numbers c.args.table.now c.args.classes.now c.args.pair.one c.args.pair.other c.requires.table c.requires.length
    c.requires.pair
    (λ o q. IfOk c.join_sides.result (λ r. r ≡ classes_heads o q (nodes_of c.args.table.now c.args.classes.now)))
    c.join_sides.ensures.heads

pub returns-clause-pairs : goal.returns-clause-pairs
returns-clause-pairs c =
    at-numbers c.args.table.now c.args.classes.now c.args.pair.one c.args.pair.other c.requires.table c.requires.length
    c.requires.pair
    (λ o q. IfOk c.join_sides.result (λ r. pairs_of c.args.table.now c.join_sides.new.pending.items ≡ pairs_of
    c.args.table.now c.args.pending.now.items ++ classes_pairs o q (nodes_of c.args.table.now c.args.classes.now)))
    c.join_sides.ensures.pairs

pub returns-clause-classes : goal.returns-clause-classes
returns-clause-classes c =
    at-numbers c.args.table.now c.args.classes.now c.args.pair.one c.args.pair.other c.requires.table c.requires.length
    c.requires.pair
    (λ o q. IfOk c.join_sides.result (λ r. nodes_of c.args.table.now c.join_sides.new.classes ≡ classes_moved o q
    (nodes_of c.args.table.now c.args.classes.now))) c.join_sides.ensures.classes
