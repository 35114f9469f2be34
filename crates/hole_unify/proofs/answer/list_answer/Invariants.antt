use Rattle.std.proofs.Common.{◌≡◌, [], map, drop, length}
use Rattle.bp_base.specs.Texts.{Rise}
use Rattle.ident_table.specs.Numbers.{fills_of, AreFillsBelow}
use Rattle.hole_unify.specs.Table.{nodes_of}
use Rattle.hole_unify.specs.Build.{built_of, answer}
use Rattle.hole_unify.proofs.answer.list_answer.Given as goal

abbrev pub invariant-loop-number : goal.invariant-loop-number
invariant-loop-number l = record {
  so_far : answer (built_of l.table l.built) (drop l.number (nodes_of l.table l.classes))
      (fills_of l.table l.fills.items) ≡ answer (built_of l.table l.built) (nodes_of l.table l.classes) [];
  rise : Rise (map (λ f. f.hole) l.fills.items);
  below : AreFillsBelow (length l.table) l.fills.items;
}
