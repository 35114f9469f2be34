use Rattle.std.proofs.Common.{◌≡◌, List, ℕ, ◌+◌, ◌<◌, length, drop, sym, ap, ◌∙◌, subst}
use Rattle.std.proofs.lemmas.List.{take_at}
use Rattle.bp_base.specs.Lists.{Among}
use Rattle.hs_core.specs.declared.group.UseList.{UseList}
use Rattle.hs_core.specs.Walking.{IsUsedBy, IsTurnedBelow}
use Rattle.hs_core.proofs.GroupingLemmas.{turned-more, used-at}
use Rattle.hs_core.proofs.group.users.Goals as goal

pub add_uses-requires : goal.add_uses-requires
add_uses-requires c = λ v a.
    let e = used-at c.args.uses.now c.loop-user.user c.index-uses-user.result c.as_slice.result.now
    c.loop-user-test.true c.index-uses-user.is c.as_slice.ensures in
    subst (λ (n : ℕ). v < n) (sym (ap length c.as_mut_slice.ensures.value ∙ c.loop-user.invariant.size))
    (c.requires c.loop-user.user v (subst (λ (us : List ℕ). Among v us) e a))

pub loop-user-preserved : goal.loop-user-preserved
loop-user-preserved c =
    let e = used-at c.args.uses.now c.loop-user.user c.index-uses-user.result c.as_slice.result.now
    c.loop-user-test.true c.index-uses-user.is c.as_slice.ensures in
    let u = subst (λ (us : List UseList). IsUsedBy us c.add_uses.new.users c.as_slice.result.now c.loop-user.user)
    c.as_mut_slice.ensures.value c.in_ok-add_uses.ensures in
    let l : length c.add_uses.new.users ≡ c.loop-user.users.len = c.in_ok-add_uses.ensures.size
    ∙ c.as_mut_slice.ensures.len in
    subst (λ (us : List UseList). IsTurnedBelow c.args.uses.now us (c.loop-user.user + 1))
    (sym (take_at c.add_uses.new.users (drop (length c.add_uses.new.users) c.loop-user.users.items)
    c.loop-user.users.len l))
    (turned-more c.args.uses.now c.loop-user.users.items c.add_uses.new.users c.loop-user.user c.as_slice.result.now
    c.loop-user.invariant e u)
