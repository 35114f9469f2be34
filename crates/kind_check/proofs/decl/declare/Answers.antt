use Rattle.std.proofs.Common.{◌+◌, refl, sym, ap, ◌∙◌, subst, arith}
use Rattle.std.specs.Prelude.{flat_map}
use Rattle.hs_core.specs.WellTyped.{field_terms}
use Rattle.std.proofs.lemmas.Result.{err_from_is_err_and}
use Rattle.type_unify.proofs.StackingLemmas.{OnOk-then}
use Rattle.type_terms.specs.Terms.{var}
use Rattle.hs_core.specs.Types.{count, written_term}
use Rattle.kind_check.specs.Forms.{IsForm}
use Rattle.kind_check.specs.Scopes.{decl_of, names_under, meaning_of}
use Rattle.kind_check.specs.Scopes.{variables_under}
use Rattle.kind_check.specs.Walks.{Imposes, NoGuess, stars}
use Rattle.kind_check.proofs.WalkLemmas.{AreReady-more}
use Rattle.kind_check.proofs.ScopeLemmas.{local}
use Rattle.kind_check.proofs.ArmLemmas.{IfErr-then}
use Rattle.kind_check.proofs.HeadLemmas.{begun, begun_behind, equated_head, unequal_head, form_head, stars_begun}
use Rattle.kind_check.proofs.HeadLemmas.{no_stars_begun, body_begun, no_body_begun}
use Rattle.kind_check.proofs.DeclareLemmas.{data_ok, fields_none, data_head_none, synonym_ok, body_none}
use Rattle.kind_check.proofs.DeclareLemmas.{synonym_head_none}
use Rattle.kind_check.proofs.decl.declare.Goals as goal

pub equate-requires-clause-ready : goal.equate-requires-clause-ready
equate-requires-clause-ready c = let e =
    c.in_ok-first-in-Fields.ensures.next in AreReady-more c.args.next.now c.fresh.new.next c.args.bindings.now
    (omega (arith, e)) c.requires.ready

pub equate-requires-clause-second : goal.equate-requires-clause-second
equate-requires-clause-second c =
    let i = c.in_ok-first-in-Fields.ensures in
    form_head c.as_slice-params.result.now c.args.decl.now.params _ c.args.next.now c.in_ok-first-in-Fields.first
    c.fresh.new.next _ _
    (begun _ _ _ _ _ c.as_slice-params.ensures i.first i.next) c.in_ok-head-in-Fields.ensures
    (subst (IsForm c.fresh.new.next) (sym c.in_ok-end-in-Fields.ensures) refl)

pub returns-in_err-equate-in-Fields-clause-none : goal.returns-in_err-equate-in-Fields-clause-none
returns-in_err-equate-in-Fields-clause-none c =
    let p = err_from_is_err_and c.from_residual-in_err-equate-in-Fields.result
    c.from_residual-in_err-equate-in-Fields.ensures.1 in
    let i = c.in_ok-first-in-Fields.ensures in
    rw (p.1, p.2) (λ z. data_head_none (names_under c.args.known.now c.args.decls.now) (decl_of c.args.decl.now)
    (flat_map (field_terms c.args.decl.now.params) c.in-Fields.cons)
    c.args.index c.args.next.now c.args.bindings.now
    (ap (meaning_of c.args.decl.now.params) c.in-Fields.is) c.requires.index c.requires.ready
    (unequal_head c.as_slice-params.result.now c.args.decl.now.params _ c.args.next.now c.in_ok-first-in-Fields.first
    c.fresh.new.next c.args.index _ _ _ _ c.args.bindings.now
    (begun _ _ _ _ _ c.as_slice-params.ensures i.first i.next)
    c.in_ok-own.ensures c.in_ok-head-in-Fields.ensures c.in_ok-end-in-Fields.ensures
    (c.in_err-equate-in-Fields.ensures.none z)))

pub returns-in-Fields-clause-ok : goal.returns-in-Fields-clause-ok
returns-in-Fields-clause-ok c =
    let i = c.in_ok-first-in-Fields.ensures in
    let b = (begun _ _ _ _ _ c.as_slice-params.ensures i.first i.next) in
    OnOk-then c.all_fields_star.result
    (λ h. data_ok (names_under c.args.known.now c.args.decls.now) (decl_of c.args.decl.now)
    (flat_map (field_terms c.args.decl.now.params) c.in-Fields.cons)
    c.args.index c.args.next.now _ c.args.bindings.now c.equate.new.bindings c.all_fields_star.new.bindings
    (local c.args.known.now c.args.decls.now 0 0 c.args.next.now c.requires.group (omega arith)).named
    (ap (meaning_of c.args.decl.now.params) c.in-Fields.is) c.requires.index c.requires.ready
    (equated_head c.as_slice-params.result.now c.args.decl.now.params _ c.args.next.now c.in_ok-first-in-Fields.first
    c.fresh.new.next c.args.index _ _ _ _ c.args.bindings.now c.equate.new.bindings b c.in_ok-own.ensures
    c.in_ok-head-in-Fields.ensures c.in_ok-end-in-Fields.ensures c.in_ok-equate-in-Fields.ensures.ok)
    (stars_begun c.args.known.now c.args.decls.now (λ ps. flat_map (field_terms ps) c.in-Fields.cons)
    c.as_slice-params.result.now c.args.decl.now.params _ c.args.next.now c.in_ok-first-in-Fields.first
    c.fresh.new.next _ c.equate.new.bindings c.all_fields_star.new.bindings b
    (subst (λ ts. Imposes
    (stars (names_under c.args.known.now c.args.decls.now)
    (variables_under c.in_ok-first-in-Fields.first (count c.as_slice-params.result.now))
    (flat_map (field_terms c.as_slice-params.result.now) ts))
    c.equate.new.bindings c.all_fields_star.new.bindings c.fresh.new.next c.all_fields_star.new.next)
    c.as_slice.ensures h)))
    c.all_fields_star.ensures.ok

pub returns-in-Fields-clause-none : goal.returns-in-Fields-clause-none
returns-in-Fields-clause-none c =
    let i = c.in_ok-first-in-Fields.ensures in
    let b = (begun _ _ _ _ _ c.as_slice-params.ensures i.first i.next) in
    IfErr-then c.all_fields_star.result
    (λ e h z. fields_none (names_under c.args.known.now c.args.decls.now) (decl_of c.args.decl.now)
    (flat_map (field_terms c.args.decl.now.params) c.in-Fields.cons)
    c.args.index c.args.next.now c.args.bindings.now c.equate.new.bindings
    (local c.args.known.now c.args.decls.now 0 0 c.args.next.now c.requires.group (omega arith)).named
    (ap (meaning_of c.args.decl.now.params) c.in-Fields.is) c.requires.index c.requires.ready
    (equated_head c.as_slice-params.result.now c.args.decl.now.params _ c.args.next.now c.in_ok-first-in-Fields.first
    c.fresh.new.next c.args.index _ _ _ _ c.args.bindings.now c.equate.new.bindings b c.in_ok-own.ensures
    c.in_ok-head-in-Fields.ensures c.in_ok-end-in-Fields.ensures c.in_ok-equate-in-Fields.ensures.ok)
    (no_stars_begun c.args.known.now c.args.decls.now (λ ps. flat_map (field_terms ps) c.in-Fields.cons)
    c.as_slice-params.result.now c.args.decl.now.params _ c.args.next.now c.in_ok-first-in-Fields.first
    c.fresh.new.next c.equate.new.bindings b
    (subst (λ ts. NoGuess
    (stars (names_under c.args.known.now c.args.decls.now)
    (variables_under c.in_ok-first-in-Fields.first (count c.as_slice-params.result.now))
    (flat_map (field_terms c.as_slice-params.result.now) ts)) c.equate.new.bindings) c.as_slice.ensures (h z))))
    c.all_fields_star.ensures.none

pub equate-requires-in-Synonym-clause-ready : goal.equate-requires-in-Synonym-clause-ready
equate-requires-in-Synonym-clause-ready c =
    let e = c.in_ok-id-in-Synonym.ensures.next in
    let f = c.in_ok-first-in-Synonym.ensures.next in
    AreReady-more c.args.next.now c.fresh-in-Synonym-2.new.next c.args.bindings.now (omega (arith, e, f))
    c.requires.ready

pub equate-requires-in-Synonym-clause-second : goal.equate-requires-in-Synonym-clause-second
equate-requires-in-Synonym-clause-second c =
    let j = c.in_ok-id-in-Synonym.ensures in
    let i = c.in_ok-first-in-Synonym.ensures in
    form_head c.as_slice-params.result.now c.args.decl.now.params _ (c.args.next.now + 1)
    c.in_ok-first-in-Synonym.first c.fresh-in-Synonym-2.new.next _ _
    (begun_behind _ _ _ c.fresh-in-Synonym.new.next _ _ c.as_slice-params.ensures j.next i.first i.next)
    c.in_ok-head-in-Synonym.ensures
    (subst (IsForm c.fresh-in-Synonym-2.new.next) (sym c.in_ok-end-in-Synonym.ensures)
    (let e = j.first in let f = j.next in let g = i.next in omega (arith, e, f, g)))

pub returns-in_err-equate-in-Synonym-clause-none : goal.returns-in_err-equate-in-Synonym-clause-none
returns-in_err-equate-in-Synonym-clause-none c =
    let p = err_from_is_err_and c.from_residual-in_err-equate-in-Synonym.result
    c.from_residual-in_err-equate-in-Synonym.ensures.1 in
    let j = c.in_ok-id-in-Synonym.ensures in
    let i = c.in_ok-first-in-Synonym.ensures in
    rw (p.1, p.2) (λ z. synonym_head_none (names_under c.args.known.now c.args.decls.now) (decl_of c.args.decl.now)
    (written_term c.args.decl.now.params c.in-Synonym.body) c.args.index c.args.next.now c.args.bindings.now
    (ap (meaning_of c.args.decl.now.params) c.in-Synonym.is) c.requires.index c.requires.ready
    (unequal_head c.as_slice-params.result.now c.args.decl.now.params _ (c.args.next.now + 1)
    c.in_ok-first-in-Synonym.first c.fresh-in-Synonym-2.new.next c.args.index _ _ _ _ c.args.bindings.now
    (begun_behind _ _ _ c.fresh-in-Synonym.new.next _ _ c.as_slice-params.ensures j.next i.first i.next)
    c.in_ok-own.ensures c.in_ok-head-in-Synonym.ensures (c.in_ok-end-in-Synonym.ensures ∙ ap var j.first)
    (c.in_err-equate-in-Synonym.ensures.none z)))

pub returns-clause-ok : goal.returns-clause-ok
returns-clause-ok c =
    let j = c.in_ok-id-in-Synonym.ensures in
    let i = c.in_ok-first-in-Synonym.ensures in
    OnOk-then c.walk.result
    (λ h. synonym_ok (names_under c.args.known.now c.args.decls.now) (decl_of c.args.decl.now)
    (written_term c.args.decl.now.params c.in-Synonym.body)
    c.args.index c.args.next.now _ c.args.bindings.now c.equate-in-Synonym.new.bindings c.walk.new.bindings
    (local c.args.known.now c.args.decls.now 0 0 c.args.next.now c.requires.group (omega arith)).named
    (ap (meaning_of c.args.decl.now.params) c.in-Synonym.is) c.requires.index c.requires.ready
    (equated_head c.as_slice-params.result.now c.args.decl.now.params _ (c.args.next.now + 1)
    c.in_ok-first-in-Synonym.first c.fresh-in-Synonym-2.new.next c.args.index _ _ _ _ c.args.bindings.now
    c.equate-in-Synonym.new.bindings
    (begun_behind _ _ _ c.fresh-in-Synonym.new.next _ _ c.as_slice-params.ensures j.next i.first i.next)
    c.in_ok-own.ensures c.in_ok-head-in-Synonym.ensures (c.in_ok-end-in-Synonym.ensures ∙ ap var j.first)
    c.in_ok-equate-in-Synonym.ensures.ok)
    (body_begun c.args.known.now c.args.decls.now c.in-Synonym.body c.as_slice-params.result.now
    c.args.decl.now.params _ (c.args.next.now + 1)
    c.in_ok-first-in-Synonym.first c.fresh-in-Synonym-2.new.next _ _ _ c.equate-in-Synonym.new.bindings
    c.walk.new.bindings (begun_behind _ _ _ c.fresh-in-Synonym.new.next _ _ c.as_slice-params.ensures j.next
    i.first i.next) (c.in_ok-wanted-in-Synonym.ensures ∙ ap var j.first) h))
    c.walk.ensures.ok

pub returns-clause-none : goal.returns-clause-none
returns-clause-none c =
    let j = c.in_ok-id-in-Synonym.ensures in
    let i = c.in_ok-first-in-Synonym.ensures in
    IfErr-then c.walk.result
    (λ e h z. body_none (names_under c.args.known.now c.args.decls.now) (decl_of c.args.decl.now)
    (written_term c.args.decl.now.params c.in-Synonym.body)
    c.args.index c.args.next.now c.args.bindings.now c.equate-in-Synonym.new.bindings
    (local c.args.known.now c.args.decls.now 0 0 c.args.next.now c.requires.group (omega arith)).named
    (ap (meaning_of c.args.decl.now.params) c.in-Synonym.is) c.requires.index c.requires.ready
    (equated_head c.as_slice-params.result.now c.args.decl.now.params _ (c.args.next.now + 1)
    c.in_ok-first-in-Synonym.first c.fresh-in-Synonym-2.new.next c.args.index _ _ _ _ c.args.bindings.now
    c.equate-in-Synonym.new.bindings
    (begun_behind _ _ _ c.fresh-in-Synonym.new.next _ _ c.as_slice-params.ensures j.next i.first i.next)
    c.in_ok-own.ensures c.in_ok-head-in-Synonym.ensures (c.in_ok-end-in-Synonym.ensures ∙ ap var j.first)
    c.in_ok-equate-in-Synonym.ensures.ok)
    (no_body_begun c.args.known.now c.args.decls.now c.in-Synonym.body c.as_slice-params.result.now
    c.args.decl.now.params _ (c.args.next.now + 1)
    c.in_ok-first-in-Synonym.first c.fresh-in-Synonym-2.new.next _ _ c.equate-in-Synonym.new.bindings
    (begun_behind _ _ _ c.fresh-in-Synonym.new.next _ _ c.as_slice-params.ensures j.next i.first i.next)
    (c.in_ok-wanted-in-Synonym.ensures ∙ ap var j.first) (h z)))
    c.walk.ensures.none
