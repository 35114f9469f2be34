use Rattle.std.proofs.Common.{◌≡◌, ◌<◌, ◌≤◌, refl, sym, subst, ap, ◌∙◌, length, true, false}
use Rattle.std.proofs.lemmas.Bool.{lt-ltb}
use Rattle.bp_base.specs.Lists.{Among}
use Rattle.declared_kinds.proofs.CycleLemmas.{many_cycle, one_cycle, no_group, not_in_next}
use Rattle.declared_kinds.proofs.cycle.is_on_cycle.Goals as goal

pub returns-then-members-gt1 : goal.returns-then-members-gt1
returns-then-members-gt1 c =
    let e = c.as_slice-members.ensures ∙ ap (λ z. z.members) (sym c.index-groups-index.is) in (
      λ t. many_cycle c.args.uses.now c.args.groups.now c.requires.groups c.requires.range c.args.number
          c.loop-index.index c.index-groups-index.result c.index-groups-index.result c.loop-index-test.true
          c.index-groups-index.is (subst (λ z. Among c.args.number z) e (c.if-is_member.ensures.0 refl))
          (subst (λ z. 1 < length z) e c.if-members-gt1.true),
      λ o. lt-ltb 1 (length c.as_slice-members.result.now) c.if-members-gt1.true,
    )

pub returns-else-members-gt1 : goal.returns-else-members-gt1
returns-else-members-gt1 c =
    let e = c.as_slice-members.ensures ∙ ap (λ z. z.members) (sym c.index-groups-index.is) in
    let b = one_cycle c.args.uses.now c.args.groups.now c.requires.groups c.requires.range c.args.number
    c.loop-index.index c.index-groups-index.result c.index-groups-index.result c.loop-index-test.true
    c.index-groups-index.is (subst (λ z. Among c.args.number z) e (c.if-is_member.ensures.0 refl))
    (subst (λ z. length z ≤ 1) e c.if-members-gt1.false) in
    (λ t. b.0 (c.uses_itself.ensures.0 t), λ o. c.uses_itself.ensures.1 (b.1 o))

pub loop-index-preserved : goal.loop-index-preserved
loop-index-preserved c =
    let e = c.as_slice-members.ensures ∙ ap (λ z. z.members) (sym c.index-groups-index.is) in
    not_in_next c.args.number c.args.groups.now c.loop-index.index c.index-groups-index.result
    c.index-groups-index.result c.loop-index-test.true c.index-groups-index.is c.loop-index.invariant
    (λ a. let t : false ≡ true = c.if-is_member.ensures.1 (subst (λ z. Among c.args.number z) (sym e) a) in absurd cc)

pub returns : goal.returns
returns c = (
  λ t. absurd (let u : false ≡ true = t in cc),
  λ o. absurd (no_group c.args.uses.now c.args.groups.now c.requires.groups c.requires.range c.args.number
      c.loop-index.index c.loop-index-test.false c.loop-index.invariant c.requires.there),
)
