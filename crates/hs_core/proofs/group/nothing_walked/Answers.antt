use Rattle.std.proofs.Common.{◌≡◌, ℕ, length, replicate, false, ap, ◌∙◌, arith}
use Rattle.hs_core.proofs.GroupingLemmas.{at-rest}
use Rattle.hs_core.proofs.group.nothing_walked.Goals as goal

pub returns-clause-rest : goal.returns-clause-rest
returns-clause-rest c =
    let e : c.loop.counter ≡ length c.args.uses.now = omega arith in
    at-rest c.args.uses.now _ (c.loop.invariant ∙ ap (λ (n : ℕ). replicate n false) e) c.new.ensures
