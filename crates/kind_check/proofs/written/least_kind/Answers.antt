use Rattle.std.proofs.Common.{◌≡◌, suc, ◌∙◌, arith}
use Rattle.std.proofs.lemmas.Result.{err_from_is_err_and}
use Rattle.hs_core.specs.Types.{count}
use Rattle.kind_check.proofs.ScopeLemmas.{count-length}
use Rattle.kind_check.proofs.WrittenLemmas.{lone_kind, lone_none}
use Rattle.kind_check.proofs.written.least_kind.Goals as goal

pub returns-in_err-walk-clause-none : goal.returns-in_err-walk-clause-none
returns-in_err-walk-clause-none c =
    let p = err_from_is_err_and c.from_residual-in_err-walk.result c.from_residual-in_err-walk.ensures.1 in
    rw (p.1, p.2)
    (λ z. lone_none c.args.known.now c.as_slice.result.now c.args.names.now c.args.ty.now c.in_ok-wanted.wanted
    c.new-bindings.result (c.as_slice.ensures ∙ c.new-none.ensures) c.in_ok-wanted.ensures c.new-bindings.ensures
    (c.in_err-walk.ensures.none z))

pub returns-clause-ok : goal.returns-clause-ok
returns-clause-ok c =
    let l = count-length c.args.names.now in
    let e = c.in_ok-fresh.ensures.next in
    let s : c.fresh.new.next ≡ suc (count c.args.names.now) = omega (arith, e, l) in
    lone_kind c.args.known.now c.as_slice.result.now c.args.names.now c.args.ty.now c.in_ok-wanted.wanted
    c.new-bindings.result c.walk.new.bindings c.fresh.new.next c.walk.new.next _
    (c.as_slice.ensures ∙ c.new-none.ensures) c.in_ok-wanted.ensures c.new-bindings.ensures s c.in_ok-walk.ensures.ok
    c.in_ok-settled_kind.ensures.ok
