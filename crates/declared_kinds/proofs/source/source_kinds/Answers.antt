use Rattle.std.proofs.Common.{◌∙◌, ap, sym, subst}
use Rattle.hs_core.specs.Groups.{InRange}
use Rattle.hs_core.specs.WellTyped.{type_uses}
use Rattle.kind_check.specs.Scopes.{decls_of, known_names}
use Rattle.type_groups.proofs.UseLemmas.{uses_in_range}
use Rattle.declared_kinds.proofs.SourceLemmas.{source_answer, source_error}
use Rattle.declared_kinds.proofs.source.source_kinds.Goals as goal

pub groups-requires : goal.groups-requires
groups-requires c =
    subst InRange (sym c.in_ok-uses.ensures) (uses_in_range (decls_of c.as_slice.result.now))

pub returns-in-Ok-clause-ok : goal.returns-in-Ok-clause-ok
returns-in-Ok-clause-ok c =
    source_answer (known_names c.args.env.names) c.args.decls.now c.as_slice.result.now c.as_slice-2.result.now
    c.in_ok-uses.uses c.in_ok-order.order c.as_slice-3.result.now c.as_slice-in-Ok.result.now c.in_ok-members.members
    c.as_slice-4.result.now c.in-Ok.kinds c.as_slice-in-Ok-2.result.now c.len.result _ c.as_slice.ensures
    c.in_ok-uses.ensures c.in_ok-order.ensures c.as_slice-2.ensures c.as_slice-3.ensures c.in_ok-members.ensures
    c.as_slice-4.ensures c.in-Ok.ensures.ok c.len.ensures c.as_slice-in-Ok.ensures c.as_slice-in-Ok-2.ensures
    c.in_ok-in_source_order-in-Ok.ensures

pub returns-clause-err : goal.returns-clause-err
returns-clause-err c =
    source_error (known_names c.args.env.names) c.args.decls.now c.as_slice.result.now c.as_slice-2.result.now
    c.in_ok-uses.uses c.in_ok-order.order c.as_slice-3.result.now c.in_ok-members.members c.as_slice-4.result.now
    c.in-Err.error c.as_slice.ensures c.in_ok-uses.ensures c.in_ok-order.ensures c.as_slice-2.ensures
    c.as_slice-3.ensures c.in_ok-members.ensures c.as_slice-4.ensures c.in-Err.ensures.err
