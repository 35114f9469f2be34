use Rattle.std.proofs.Common.{◌≡◌, drop}
use Rattle.std.specs.List.{list_all}
use Rattle.plain_trees.specs.Types.{is_int_btype}
use Rattle.plain_trees.proofs.types.are_int_btypes.Given as goal

abbrev pub invariant-loop-tree : goal.invariant-loop-tree
invariant-loop-tree l = list_all is_int_btype (drop l.tree-index l.trees) ≡ list_all is_int_btype l.trees
