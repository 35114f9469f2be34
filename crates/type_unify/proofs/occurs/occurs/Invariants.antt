use Rattle.std.proofs.Common.{◌≡◌, length}
use Rattle.type_terms.specs.Terms.{occurs_in}
use Rattle.type_unify.specs.Cells.{seen}
use Rattle.type_unify.specs.Stacks.{occurs_among, sizes, Below}
use Rattle.type_unify.proofs.occurs.occurs.Given as goal

abbrev pub invariant-loop-next : goal.invariant-loop-next
invariant-loop-next l = record {
  within : Below (length l.cells) l.stack.items;
  same : occurs_among l.id (seen l.cells l.entries.entries) l.stack.items ≡ occurs_in l.id
      (seen l.cells l.entries.entries l.at);
}

abbrev pub decreases-loop-next : goal.decreases-loop-next
decreases-loop-next l = sizes (seen l.cells l.entries.entries) l.stack.items
