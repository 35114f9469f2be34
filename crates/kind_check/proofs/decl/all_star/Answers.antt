use Rattle.std.proofs.Common.{sym, subst, take, drop, suc, get_or}
use Rattle.std.specs.Prelude.{map}
use Rattle.std.proofs.lemmas.Result.{err_from_is_err_and}
use Rattle.hs_core.specs.Types.{count}
use Rattle.kind_check.specs.Scopes.{names_under, variables_under, field_term}
use Rattle.kind_check.specs.Walks.{Imposes, NoGuess, stars, fits_under}
use Rattle.kind_check.proofs.ScopeLemmas.{local}
use Rattle.kind_check.proofs.DeclareLemmas.{next_field, field_none}
use Rattle.kind_check.proofs.LoopLemmas.{map_next, map_at}
use Rattle.kind_check.proofs.decl.all_star.Goals as goal

pub returns-in_err-walk-clause-none : goal.returns-in_err-walk-clause-none
returns-in_err-walk-clause-none c =
    let p = err_from_is_err_and c.from_residual-in_err-walk.result c.from_residual-in_err-walk.ensures.1 in
    let f = field_term c.args.params.now in
    rw (p.1, p.2) (λ z.
    subst (λ ts. NoGuess (stars (names_under c.args.known.now c.args.decls.now)
    (variables_under c.args.first (count c.args.params.now)) ts) c.args.bindings.now)
    (sym (map_at f c.args.types.now c.loop-index.index c.index-types-index.result c.loop-index-test.true))
    (field_none _ _ (map f (take c.loop-index.index c.args.types.now))
    (map f (drop (suc c.loop-index.index) c.args.types.now)) _ _ _ _ _
    (local c.args.known.now c.args.decls.now c.args.first (count c.args.params.now)
    c.args.next.now c.requires.group c.requires.params)
    c.loop-index.invariant
    (subst (λ k. NoGuess (fits_under c.args.known.now c.args.decls.now c.args.params.now c.args.first
    (get_or c.args.types.now c.loop-index.index c.index-types-index.result).ty k) c.loop-index.bindings)
    c.in_ok-star.ensures (c.in_err-walk.ensures.none z))))

pub loop-index-preserved : goal.loop-index-preserved
loop-index-preserved c =
    let f = field_term c.args.params.now in
    subst (λ ts. Imposes (stars (names_under c.args.known.now c.args.decls.now)
    (variables_under c.args.first (count c.args.params.now)) ts)
    c.args.bindings.now c.walk.new.bindings c.args.next.now c.walk.new.next)
    (sym (map_next f c.args.types.now c.loop-index.index c.index-types-index.result c.loop-index-test.true))
    (next_field _ _ (map f (take c.loop-index.index c.args.types.now)) _ _ _ _ _ _ _
    (local c.args.known.now c.args.decls.now c.args.first (count c.args.params.now)
    c.args.next.now c.requires.group c.requires.params)
    c.loop-index.invariant
    (subst (λ k. Imposes (fits_under c.args.known.now c.args.decls.now c.args.params.now c.args.first
    (get_or c.args.types.now c.loop-index.index c.index-types-index.result).ty k)
    c.loop-index.bindings c.walk.new.bindings c.loop-index.next c.walk.new.next)
    c.in_ok-star.ensures c.in_ok-walk.ensures.ok))
