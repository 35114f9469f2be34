use Rattle.std.proofs.Common.{List, ℕ, length, sym, ◌∙◌, subst}
use Rattle.hs_core.specs.Walking.{AreBelow}
use Rattle.hs_core.proofs.ReachingLemmas.{indices-below}
use Rattle.hs_core.proofs.group.post_order.Goals as goal

pub walk-requires-clause-starts : goal.walk-requires-clause-starts
walk-requires-clause-starts c = subst (λ (xs : List ℕ). AreBelow (length c.args.uses.now) xs)
    (sym (c.as_slice.ensures ∙ c.in_ok-starts.ensures)) (indices-below (length c.args.uses.now))
