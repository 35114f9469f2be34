use Rattle.std.proofs.Common.{rules, ◌≤◌, sym, ap, ◌∙◌, subst, arith}
use Rattle.std.proofs.lemmas.Result.{err_from_is_err_and}
use Rattle.type_unify.proofs.StackingLemmas.{OnOk-then}
use Rattle.hs_core.specs.declared.tree.Written.TheViews.{the_lemmas}
use Rattle.type_terms.specs.Terms.{app}
use Rattle.kind_check.specs.Forms.{IsForm}
use Rattle.kind_check.specs.Scopes.{NameForm}
use Rattle.kind_check.proofs.WalkLemmas.{AreReady-more, IsForm-more}
use Rattle.kind_check.proofs.ArmLemmas.{variable_ok, name_ok, application_ok, function_ill, argument_ill, IfErr-then}
use Rattle.kind_check.proofs.walk.+walk.Goals as goal

pub variable-requires : goal.variable-requires
variable-requires t c = omega (arith, c.requires.params, c.ranges)

pub equate-requires-clause-first : goal.equate-requires-clause-first
equate-requires-clause-first t c = IsForm-more _ _ _ c.requires.params c.in_ok-own-in-WVar.ensures.form

pub equate-requires-in-WCon-clause-first : goal.equate-requires-in-WCon-clause-first
equate-requires-in-WCon-clause-first t c = IsForm-more _ _ _ c.requires.group
    (subst (NameForm c.args.known.now c.args.decls.now c.in-WCon.name) c.in-Some.is c.in_ok-own-in-WCon.ensures).form

pub walk-requires : goal.walk-requires
walk-requires t c =
    let n = c.in_ok-id-in-WApp.ensures.next in
    let l : c.args.next.now ≤ c.fresh.new.next = omega (arith, n) in (
      (search (rules, the_lemmas)),
      (
        AreReady-more c.args.next.now c.fresh.new.next c.args.bindings.now l c.requires.ready,
        (
          subst (IsForm c.fresh.new.next)
              (sym (c.in_ok-expected-in-WApp.ensures
              ∙ ap (λ v. app v c.args.wanted) (c.in_ok-unknown-in-WApp.ensures))) (
                (let e = c.in_ok-id-in-WApp.ensures.first in omega (arith, n, e)),
                IsForm-more c.args.next.now c.fresh.new.next c.args.wanted l c.requires.form,
              ),
          (omega (arith, l, c.requires.group), omega (arith, l, c.requires.params)),
        ),
      ),
    )

pub returns-in_ok-own-in-WVar-clause-ok : goal.returns-in_ok-own-in-WVar-clause-ok
returns-in_ok-own-in-WVar-clause-ok t c =
    OnOk-then c.equate.result
    (λ e. variable_ok _ _ c.args.params.now c.args.first _ _ _ _ _ _ _ c.in-WVar.is c.in_ok-own-in-WVar.ensures e)
    c.equate.ensures.ok

pub returns-in-Some-clause-ok : goal.returns-in-Some-clause-ok
returns-in-Some-clause-ok t c =
    OnOk-then c.equate-in-WCon.result
    (λ e. name_ok _ _ c.args.params.now c.args.first _ _ _ _ _ _ _ c.in-WCon.is
    (subst (NameForm c.args.known.now c.args.decls.now c.in-WCon.name) c.in-Some.is c.in_ok-own-in-WCon.ensures)
    e) c.equate-in-WCon.ensures.ok

pub returns-in_err-walk-in-WApp-clause-none : goal.returns-in_err-walk-in-WApp-clause-none
returns-in_err-walk-in-WApp-clause-none t c =
    let p = err_from_is_err_and c.from_residual-in_err-walk-in-WApp.result
    c.from_residual-in_err-walk-in-WApp.ensures.1 in
    let i = c.in_ok-id-in-WApp.ensures in
    rw (p.1, p.2) (λ z. function_ill c.args.known.now c.args.decls.now c.args.params.now c.args.first c.args.next.now
    c.in_ok-id-in-WApp.id c.fresh.new.next c.args.ty.now c.in-WApp.fun c.in-WApp.arg c.get.result.now c.args.wanted
    c.in_ok-unknown-in-WApp.unknown c.in_ok-expected-in-WApp.expected c.in_ok-argument-in-WApp.argument
    c.args.bindings.now c.in-WApp.is c.get.ensures
    (record { ready = c.requires.ready; form = c.requires.form; group = c.requires.group; params = c.requires.params })
    (record {
      is_next = i.first;
      more = i.next;
      unknown = c.in_ok-unknown-in-WApp.ensures;
      expects =
          c.in_ok-expected-in-WApp.ensures;
      takes = c.in_ok-argument-in-WApp.ensures;
    })
    (c.in_err-walk-in-WApp.ensures.none z))

pub returns-in_ok-walk-in-WApp-clause-ok : goal.returns-in_ok-walk-in-WApp-clause-ok
returns-in_ok-walk-in-WApp-clause-ok t c =
    let i = c.in_ok-id-in-WApp.ensures in
    OnOk-then c.walk-in-WApp.result
    (λ two. application_ok c.args.known.now c.args.decls.now c.args.params.now c.args.first c.args.next.now
    c.in_ok-id-in-WApp.id c.fresh.new.next c.walk.new.next c.walk-in-WApp.new.next c.args.ty.now c.in-WApp.fun
    c.in-WApp.arg c.get.result.now c.get-in-WApp.result.now c.args.wanted
    c.in_ok-unknown-in-WApp.unknown c.in_ok-expected-in-WApp.expected c.in_ok-argument-in-WApp.argument
    c.args.bindings.now c.walk.new.bindings c.walk-in-WApp.new.bindings c.in-WApp.is c.get.ensures
    c.get-in-WApp.ensures
    (record { ready = c.requires.ready; form = c.requires.form; group = c.requires.group; params = c.requires.params })
    (record {
      is_next = i.first;
      more = i.next;
      unknown = c.in_ok-unknown-in-WApp.ensures;
      expects =
          c.in_ok-expected-in-WApp.ensures;
      takes = c.in_ok-argument-in-WApp.ensures;
    })
    c.in_ok-walk-in-WApp.ensures.ok two) c.walk-in-WApp.ensures.ok

pub returns-in_ok-walk-in-WApp-clause-none : goal.returns-in_ok-walk-in-WApp-clause-none
returns-in_ok-walk-in-WApp-clause-none t c =
    let i = c.in_ok-id-in-WApp.ensures in
    IfErr-then c.walk-in-WApp.result
    (λ e none z. argument_ill c.args.known.now c.args.decls.now c.args.params.now c.args.first c.args.next.now
    c.in_ok-id-in-WApp.id c.fresh.new.next c.walk.new.next c.args.ty.now c.in-WApp.fun c.in-WApp.arg
    c.get.result.now c.get-in-WApp.result.now c.args.wanted
    c.in_ok-unknown-in-WApp.unknown c.in_ok-expected-in-WApp.expected c.in_ok-argument-in-WApp.argument
    c.args.bindings.now c.walk.new.bindings c.in-WApp.is c.get.ensures c.get-in-WApp.ensures
    (record { ready = c.requires.ready; form = c.requires.form; group = c.requires.group; params = c.requires.params })
    (record {
      is_next = i.first;
      more = i.next;
      unknown = c.in_ok-unknown-in-WApp.ensures;
      expects =
          c.in_ok-expected-in-WApp.ensures;
      takes = c.in_ok-argument-in-WApp.ensures;
    })
    c.in_ok-walk-in-WApp.ensures.ok (none z)) c.walk-in-WApp.ensures.none
