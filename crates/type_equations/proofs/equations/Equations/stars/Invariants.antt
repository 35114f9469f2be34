use Rattle.std.proofs.Common.{◌≡◌, ◌++◌, length, replicate}
use Rattle.std.specs.List.{range_with_len}
use Rattle.bp_base.specs.declared.ty.Kind.TheVariants.{Star}
use Rattle.type_equations.proofs.equations.Equations.stars.Given as goal

abbrev pub invariant-loop-index : goal.invariant-loop-index
invariant-loop-index l = (l.ids.items ≡ range_with_len (length l.fn.self.kinds.items) l._index)
    × (l.self.kinds.items ≡ l.fn.self.kinds.items ++ replicate l._index Star) × (l.self.bindings ≡ l.fn.self.bindings)
