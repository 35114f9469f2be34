use Rattle.std.proofs.Common.{◌≡◌, length, refl, sym, subst, arith}
use Rattle.std.proofs.lemmas.Result.{err_from_is_err_and}
use Rattle.kind_check.proofs.GroupLemmas.{Gone, gone_none, gone_more, gone_refused, gone_all}
use Rattle.kind_check.proofs.group.solve_group.Goals as goal

pub loop-index-init : goal.loop-index-init
loop-index-init c = subst (λ bs. Gone c.args.known.now c.args.decls.now 0 bs (length c.args.decls.now))
    (sym c.new-bindings.ensures) (gone_none c.args.known.now c.args.decls.now (length c.args.decls.now) refl)

pub returns-in_err-declare-clause-none : goal.returns-in_err-declare-clause-none
returns-in_err-declare-clause-none c =
    let p = err_from_is_err_and c.from_residual.result c.from_residual.ensures.1 in
    rw (p.1, p.2) (λ z. gone_refused c.args.known.now c.args.decls.now c.loop-index.index c.loop-index.next
    c.index-decls-index.result c.index-decls-index.result c.loop-index.bindings c.loop-index-test.true
    c.index-decls-index.is c.loop-index.invariant (c.in_err-declare.ensures.none z))

pub loop-index-preserved : goal.loop-index-preserved
loop-index-preserved c =
    gone_more c.args.known.now c.args.decls.now c.loop-index.index c.loop-index.next c.declare.new.next
    c.index-decls-index.result c.index-decls-index.result c.loop-index.bindings c.declare.new.bindings
    c.loop-index-test.true c.index-decls-index.is c.loop-index.invariant c.in_ok-declare.ensures.ok

pub returns-clause-ok : goal.returns-clause-ok
returns-clause-ok c =
    let e : c.loop-index.index ≡ length c.args.decls.now = omega
    (arith, c.loop-index-test.false, c.loop-index.auto.index-end) in
    gone_all c.args.known.now c.args.decls.now c.loop-index.next c.loop-index.bindings
    (subst (λ i. Gone c.args.known.now c.args.decls.now i c.loop-index.bindings c.loop-index.next)
    e c.loop-index.invariant)
