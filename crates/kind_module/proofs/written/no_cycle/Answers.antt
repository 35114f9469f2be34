use Rattle.std.proofs.Common.{◌≡◌, ◌∙◌, ap, sym, refl, subst, Some, None}
use Rattle.hs_core.specs.WellTyped.{type_decls, located}
use Rattle.kind_check.specs.Scopes.{decls_of}
use Rattle.declared_kinds.specs.Cycles.{IsFirstOnCycle}
use Rattle.kind_module.specs.Tests.{no_cycle}
use Rattle.kind_module.proofs.ExpandLemmas.{cycle_answer, no_cycle_answer}
use Rattle.kind_module.proofs.written.no_cycle.Goals as goal

pub returns-in_default : goal.returns-in_default
returns-in_default c =
    no_cycle_answer c.args.here.now c.args.decls.now c.in_ok-heads.heads c.as_slice.result.now
    c.in_ok-found.found c.in_ok-heads.ensures c.as_slice.ensures c.in_ok-found.ensures
    c.in_default.is

pub returns-in-Some-at : goal.returns-in-Some-at
returns-in-Some-at c =
    cycle_answer c.args.here.now c.args.decls.now c.in_ok-heads.heads c.as_slice.result.now c.as_slice-2.result.now
    c.in_ok-found.found c.in-Some.number c.at.result c.in-Some-at.decl c.in_ok-copied-in-Some-at.field-0
    c.in_ok-heads.ensures c.as_slice.ensures c.as_slice-2.ensures c.in_ok-found.ensures c.in-Some.is
    c.at.ensures c.in-Some-at.is c.in_ok-copied-in-Some-at.ensures
