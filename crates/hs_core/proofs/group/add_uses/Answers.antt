use Rattle.std.proofs.Common.{List, ℕ, ◌<◌, get_or, take, sym, subst}
use Rattle.std.proofs.lemmas.List.{take_more}
use Rattle.hs_core.specs.Walking.{IsUsedBy}
use Rattle.hs_core.proofs.GroupingLemmas.{used-more, among-at}
use Rattle.hs_core.proofs.group.add_uses.Goals as goal

pub add_user-requires : goal.add_user-requires
add_user-requires c = subst (λ (n : ℕ). get_or c.args.uses.now c.loop-used.used-index 0 < n)
    (sym c.loop-used.invariant.size)
    (c.requires (get_or c.args.uses.now c.loop-used.used-index 0)
    (among-at c.args.uses.now c.loop-used.used-index c.loop-used-test.true))

pub loop-used-preserved : goal.loop-used-preserved
loop-used-preserved c = subst (λ (us : List ℕ). IsUsedBy c.args.users.now c.add_user.new.users us c.args.user)
    (sym (take_more c.args.uses.now c.loop-used.used-index 0 c.loop-used-test.true))
    (used-more c.args.users.now c.loop-used.users c.add_user.new.users (take c.loop-used.used-index c.args.uses.now)
    (get_or c.args.uses.now c.loop-used.used-index 0) c.args.user c.loop-used.invariant c.in_ok-add_user.ensures)
