use Rattle.std.proofs.Common.{sym, subst, take, drop, suc}
use Rattle.std.specs.Prelude.{map, flat_map}
use Rattle.std.proofs.lemmas.Result.{err_from_is_err_and}
use Rattle.hs_core.specs.Types.{count}
use Rattle.hs_core.specs.WellTyped.{field_terms}
use Rattle.kind_check.specs.Scopes.{names_under, variables_under, field_term}
use Rattle.kind_check.specs.Walks.{Imposes, NoGuess, stars}
use Rattle.kind_check.proofs.ScopeLemmas.{local}
use Rattle.kind_check.proofs.FieldLemmas.{next_fields, fields_refused}
use Rattle.kind_check.proofs.LoopLemmas.{flat_next, flat_at}
use Rattle.kind_check.proofs.decl.all_fields_star.Goals as goal

pub returns-in_err-all_star-clause-none : goal.returns-in_err-all_star-clause-none
returns-in_err-all_star-clause-none c =
    let p = err_from_is_err_and c.from_residual.result c.from_residual.ensures.1 in
    let f = field_terms c.args.params.now in
    rw (p.1, p.2) (λ z.
    subst (λ ts. NoGuess (stars (names_under c.args.known.now c.args.decls.now)
    (variables_under c.args.first (count c.args.params.now)) ts) c.args.bindings.now)
    (sym (flat_at f c.args.cons.now c.loop-index.index c.index-cons-index.result c.loop-index-test.true))
    (fields_refused _ _ (flat_map f (take c.loop-index.index c.args.cons.now)) _
    (flat_map f (drop (suc c.loop-index.index) c.args.cons.now)) _ _ _ _
    (local c.args.known.now c.args.decls.now c.args.first (count c.args.params.now)
    c.args.next.now c.requires.group c.requires.params)
    c.loop-index.invariant
    (subst (λ fs. NoGuess
    (stars (names_under c.args.known.now c.args.decls.now)
    (variables_under c.args.first (count c.args.params.now)) (map (field_term c.args.params.now) fs))
    c.loop-index.bindings) c.as_slice.ensures (c.in_err-all_star.ensures.none z))))

pub loop-index-preserved : goal.loop-index-preserved
loop-index-preserved c =
    let f = field_terms c.args.params.now in
    subst (λ ts. Imposes (stars (names_under c.args.known.now c.args.decls.now)
    (variables_under c.args.first (count c.args.params.now)) ts)
    c.args.bindings.now c.all_star.new.bindings c.args.next.now c.all_star.new.next)
    (sym (flat_next f c.args.cons.now c.loop-index.index c.index-cons-index.result c.loop-index-test.true))
    (next_fields _ _ (flat_map f (take c.loop-index.index c.args.cons.now)) _ _ _ _ _ _ _
    (local c.args.known.now c.args.decls.now c.args.first (count c.args.params.now)
    c.args.next.now c.requires.group c.requires.params)
    c.loop-index.invariant
    (subst (λ fs. Imposes
    (stars (names_under c.args.known.now c.args.decls.now)
    (variables_under c.args.first (count c.args.params.now)) (map (field_term c.args.params.now) fs))
    c.loop-index.bindings c.all_star.new.bindings c.loop-index.next c.all_star.new.next)
    c.as_slice.ensures c.in_ok-all_star.ensures.ok))
