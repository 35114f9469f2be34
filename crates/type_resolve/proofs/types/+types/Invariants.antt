use Rattle.std.proofs.Common.{◌≡◌, drop}
use Rattle.std.specs.Option.{option_copied}
use Rattle.type_resolve.specs.Found.{all_found, args_found, atype_found, btype_found, together, tuple_found}
use Rattle.type_resolve.specs.Found.{type_found}
use Rattle.type_resolve.proofs.types.+types.Given as goal

abbrev pub invariant-btypes_found-loop-tree : goal.invariant-btypes_found-loop-tree
invariant-btypes_found-loop-tree l =
    together l.types (all_found (btype_found l.table (option_copied l.head)) (drop l.tree-index l.trees))
    ≡ all_found (btype_found l.table (option_copied l.head)) l.trees

abbrev pub invariant-btype_found-loop-arg : goal.invariant-btype_found-loop-arg
invariant-btype_found-loop-arg l =
    args_found (atype_found l.table (option_copied l.head)) l.made (drop l.arg-index l.arg-items)
    ≡ btype_found l.table (option_copied l.head) l.tree

abbrev pub invariant-tuple_found-loop-part : goal.invariant-tuple_found-loop-part
invariant-tuple_found-loop-part l =
    args_found (type_found l.table (option_copied l.head)) l.made (drop l.part-index l.rest)
    ≡ tuple_found (type_found l.table (option_copied l.head)) l.fn.first l.rest
