use Rattle.std.proofs.Common.{List, ℕ, Bool, get_or, length, ◌<◌, false, sym, ap, ◌∙◌, subst}
use Rattle.hs_core.specs.declared.group.UseList.{UseList}
use Rattle.hs_core.specs.Groups.{InRange}
use Rattle.hs_core.specs.Walking.{IsAtRest, IsGathered}
use Rattle.hs_core.proofs.ReachingLemmas.{turned-below}
use Rattle.hs_core.proofs.GroupingLemmas.{gathering-start, gathering-later, gathering-new, next-below}
use Rattle.hs_core.proofs.group.gathered.Goals as goal

pub order-init : goal.order-init
order-init c = gathering-start c.args.uses.now c.in_ok-users.users.items c.args.order c.in_ok-walked.walked
    c.new-groups.result.items
    (subst (λ (g : List UseList). IsAtRest g c.in_ok-walked.walked) c.deref.ensures.value c.in_ok-walked.ensures.rest)
    c.in_ok-walked.ensures.nothing c.new-groups.ensures.items

pub bounds-as_slice-index : goal.bounds-as_slice-index
bounds-as_slice-index c =
    let l = next-below c.args.uses.now c.in_ok-users.users.items c.args.order c.requires.in_range c.requires.order
    c.in_ok-users.ensures c.order.order c.pop.new.self c.in-Some.index c.order.walked c.order.groups.items
    c.order.invariant c.in-Some.ensures in
    subst (λ (n : ℕ). c.in-Some.index < n) (sym (ap length c.as_slice.ensures ∙ c.order.invariant.rest.size
    ∙ c.in_ok-users.ensures.size)) l

pub add_group-requires-clause-in_range : goal.add_group-requires-clause-in_range
add_group-requires-clause-in_range c = subst (λ (h : List UseList). InRange h)
    (sym c.deref-then-not-as_slice-index.ensures.value)
    (turned-below c.args.uses.now c.in_ok-users.users.items c.in_ok-users.ensures)

pub add_group-requires-clause-below : goal.add_group-requires-clause-below
add_group-requires-clause-below c =
    let l = next-below c.args.uses.now c.in_ok-users.users.items c.args.order c.requires.in_range c.requires.order
    c.in_ok-users.ensures c.order.order c.pop.new.self c.in-Some.index c.order.walked c.order.groups.items
    c.order.invariant c.in-Some.ensures in
    subst (λ (n : ℕ). c.in-Some.index < n) (sym (ap length c.deref-then-not-as_slice-index.ensures.value
    ∙ c.in_ok-users.ensures.size)) l

pub order-preserved-in-Continue-branch-3 : goal.order-preserved-in-Continue-branch-3
order-preserved-in-Continue-branch-3 c =
    gathering-new c.args.uses.now c.in_ok-users.users.items c.args.order c.requires.in_range c.requires.order
    c.in_ok-users.ensures c.order.order c.pop.new.self c.in-Some.index c.order.walked c.order.groups.items
    c.order.invariant c.in-Some.ensures
    c.add_group.new.walked c.add_group.new.groups.items
    (ap (λ (b : List Bool). get_or b c.in-Some.index false) (sym c.as_slice.ensures) ∙ c.if-not-as_slice-index.true)
    (subst (λ (h : List UseList). IsGathered h c.in-Some.index c.order.walked c.add_group.new.walked
    c.order.groups.items c.add_group.new.groups.items) c.deref-then-not-as_slice-index.ensures.value
    c.in_ok-add_group.ensures)

pub order-preserved : goal.order-preserved
order-preserved c =
    gathering-later c.args.uses.now c.in_ok-users.users.items c.args.order c.requires.in_range c.requires.order
    c.in_ok-users.ensures c.order.order c.pop.new.self c.in-Some.index c.order.walked c.order.groups.items
    c.order.invariant c.in-Some.ensures
    (ap (λ (b : List Bool). get_or b c.in-Some.index false) (sym c.as_slice.ensures) ∙ c.if-not-as_slice-index.false)
