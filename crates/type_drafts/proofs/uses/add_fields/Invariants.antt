use Rattle.std.proofs.Common.{◌≡◌, ◌++◌, take, map}
use Rattle.type_drafts.proofs.uses.add_fields.Given as goal

abbrev pub invariant-loop-index : goal.invariant-loop-index
invariant-loop-index l = l.all ≡ l.fn.all ++ map (λ f. f.ty) (take l.index l.fields)
