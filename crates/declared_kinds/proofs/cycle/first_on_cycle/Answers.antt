use Rattle.std.proofs.Common.{◌∙◌, ap, sym, subst}
use Rattle.hs_core.specs.Groups.{InRange, AreGroups}
use Rattle.kind_check.specs.Scopes.{decls_of}
use Rattle.type_groups.proofs.UseLemmas.{uses_in_range}
use Rattle.declared_kinds.specs.Cycles.{in_groups}
use Rattle.declared_kinds.proofs.CycleLemmas.{synonyms_in_range, below_all_uses, first_answer}
use Rattle.declared_kinds.proofs.cycle.first_on_cycle.Goals as goal

pub groups-requires : goal.groups-requires
groups-requires c = subst InRange (sym c.in_ok-uses.ensures) (uses_in_range (decls_of c.args.decls.now))

pub groups-requires-2 : goal.groups-requires-2
groups-requires-2 c = subst InRange (sym c.in_ok-synonyms.ensures) (synonyms_in_range (decls_of c.args.decls.now))

pub first_of-requires-clause-range : goal.first_of-requires-clause-range
first_of-requires-clause-range c =
    subst InRange (sym (c.as_slice-2.ensures ∙ c.in_ok-synonyms.ensures)) (synonyms_in_range (decls_of c.args.decls.now))

pub first_of-requires-clause-there : goal.first_of-requires-clause-there
first_of-requires-clause-there c =
    below_all_uses (decls_of c.args.decls.now) c.in_ok-order.order c.as_slice-4.result.now c.as_slice-2.result.now
    (subst (λ z. AreGroups z c.in_ok-order.order) c.in_ok-uses.ensures c.in_ok-order.ensures)
    (c.as_slice-4.ensures ∙ c.in_ok-numbers.ensures ∙ ap in_groups c.as_slice.ensures)
    (c.as_slice-2.ensures ∙ c.in_ok-synonyms.ensures)

pub returns : goal.returns
returns c =
    first_answer (decls_of c.args.decls.now) c.first_of.result c.as_slice-2.result.now c.in_ok-order.order
    c.as_slice-4.result.now
    (subst (λ z. AreGroups z c.in_ok-order.order) c.in_ok-uses.ensures c.in_ok-order.ensures)
    (c.as_slice-2.ensures ∙ c.in_ok-synonyms.ensures)
    (c.as_slice-4.ensures ∙ c.in_ok-numbers.ensures ∙ ap in_groups c.as_slice.ensures) c.first_of.ensures.some
    c.first_of.ensures.none
