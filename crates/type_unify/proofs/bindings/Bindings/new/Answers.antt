use Rattle.type_unify.proofs.AttemptingLemmas.{IsTable-empty, bounds-empty}
use Rattle.type_unify.proofs.bindings.Bindings.new.Goals as goal

pub invariant_of-result : goal.invariant_of-result
invariant_of-result c = IsTable-empty c.new.result.items c.new-2.result.entries c.new.ensures.items
    c.new-2.ensures.empty

pub returns : goal.returns
returns c = bounds-empty c.new.result.items c.new-2.result.entries c.new.ensures.items c.new-2.ensures.empty
