use Rattle.std.proofs.Common.{sym, ap, subst, ◌∙◌, get_or, refl, inl, inr}
use Rattle.std.proofs.lemmas.Result.{err_from_is_err_and}
use Rattle.type_equations.specs.States.{state_of}
use Rattle.hs_core.specs.declared.tree.Choice.{Choice}
use Rattle.infer_patterns.proofs.ArmLemmas.{on_ok}
use Rattle.infer_patterns.proofs.NameLemmas.{false-true}
use Rattle.infer_expressions.specs.Covered.{IsUncovered, SomeUncovered, SomeAltUncovered, IsAltUncovered}
use Rattle.infer_expressions.specs.Covered.{IsGuardUncovered}
use Rattle.infer_expressions.specs.Covered.{SomeGuardUncovered, SomeChoiceUncovered}
use Rattle.infer_expressions.specs.Inferred.{AltInferred, AltRefused, ChoicesInferred, ChoicesRefused}
use Rattle.infer_expressions.specs.Inferred.{GuardInferred, GuardRefused}
use Rattle.infer_expressions.proofs.CoverLemmas as cover
use Rattle.infer_expressions.proofs.ArmLemmas as arm
use Rattle.infer_expressions.proofs.ArmLemmas.{explained, explains_so, explains_failure, uncovered_is, InferredTo}
use Rattle.infer_expressions.proofs.ArmLemmas.{RefusedAt}
use Rattle.infer_expressions.proofs.ScopeLemmas as scope
use Rattle.infer_expressions.proofs.LoopLemmas as loop
use Rattle.infer_expressions.proofs.expression.+exp.Goals as goal

pub infer_exp-returns-in_err-enter_local-in-Local-clause-err :
    goal.infer_exp-returns-in_err-enter_local-in-Local-clause-err
infer_exp-returns-in_err-enter_local-in-Local-clause-err t c =
    let p = err_from_is_err_and c.from_residual.result c.from_residual.ensures.1 in
    rw p.1 (explains_failure _ p.0 p.2 (λ z. subst (RefusedAt c.args.names.now c.args.env.now
    (state_of c.args.state.now) c.args.wanted) (sym c.in-Local.is) (c.in_err-enter_local-in-Local.ensures.none z)))

pub infer_exp-returns-in_ok-enter_local-in-Local-clause-ok : goal.infer_exp-returns-in_ok-enter_local-in-Local-clause-ok
infer_exp-returns-in_ok-enter_local-in-Local-clause-ok t c = subst
    (InferredTo c.args.names.now c.args.env.now (state_of c.args.state.now) (state_of c.enter_local.new.state)
    c.args.wanted) (sym c.in-Local.is) c.in_ok-enter_local-in-Local.ensures.ok

pub infer_exp-returns-in_err-enter_global-in-Global-clause-err :
    goal.infer_exp-returns-in_err-enter_global-in-Global-clause-err
infer_exp-returns-in_err-enter_global-in-Global-clause-err t c =
    let p = err_from_is_err_and c.from_residual-in_err-enter_global-in-Global.result
    c.from_residual-in_err-enter_global-in-Global.ensures.1 in
    rw p.1 (explains_failure _ p.0 p.2 (λ z. subst (RefusedAt c.args.names.now c.args.env.now
    (state_of c.args.state.now) c.args.wanted) (sym c.in-Global.is) (c.in_err-enter_global-in-Global.ensures.none z)))

pub infer_exp-returns-in_ok-enter_global-in-Global-clause-ok :
    goal.infer_exp-returns-in_ok-enter_global-in-Global-clause-ok
infer_exp-returns-in_ok-enter_global-in-Global-clause-ok t c = subst
    (InferredTo c.args.names.now c.args.env.now (state_of c.args.state.now) (state_of c.enter_global.new.state)
    c.args.wanted) (sym c.in-Global.is) c.in_ok-enter_global-in-Global.ensures.ok

pub infer_exp-returns-in_err-enter_literal-in-Int-clause-err :
    goal.infer_exp-returns-in_err-enter_literal-in-Int-clause-err
infer_exp-returns-in_err-enter_literal-in-Int-clause-err t c =
    let p = err_from_is_err_and c.from_residual-in_err-enter_literal-in-Int.result
    c.from_residual-in_err-enter_literal-in-Int.ensures.1 in
    rw p.1 (explains_failure _ p.0 p.2 (λ z. arm.integer_err c.args.names.now c.args.env.now
    (state_of c.args.state.now) c.args.exp.now c.in-Int.value c.args.wanted c.in_ok-ty-in-Int.ty c.in-Int.is
    c.in_ok-ty-in-Int.ensures (c.in_err-enter_literal-in-Int.ensures.none z)))

pub infer_exp-returns-in_ok-enter_literal-in-Int-clause-ok : goal.infer_exp-returns-in_ok-enter_literal-in-Int-clause-ok
infer_exp-returns-in_ok-enter_literal-in-Int-clause-ok t c = arm.integer_ok c.args.names.now c.args.env.now
    (state_of c.args.state.now) (state_of c.enter_literal.new.state) c.args.exp.now c.in-Int.value c.args.wanted
    c.in_ok-ty-in-Int.ty c.in-Int.is c.in_ok-ty-in-Int.ensures c.in_ok-enter_literal-in-Int.ensures.ok

pub infer_exp-returns-in_err-enter_literal-in-Chr-clause-err :
    goal.infer_exp-returns-in_err-enter_literal-in-Chr-clause-err
infer_exp-returns-in_err-enter_literal-in-Chr-clause-err t c =
    let p = err_from_is_err_and c.from_residual-in_err-enter_literal-in-Chr.result
    c.from_residual-in_err-enter_literal-in-Chr.ensures.1 in
    rw p.1 (explains_failure _ p.0 p.2 (λ z. arm.character_err c.args.names.now c.args.env.now
    (state_of c.args.state.now) c.args.exp.now c.in-Chr.code c.args.wanted c.in_ok-ty-in-Chr.ty c.in-Chr.is
    c.in_ok-ty-in-Chr.ensures (c.in_err-enter_literal-in-Chr.ensures.none z)))

pub infer_exp-returns-in_ok-enter_literal-in-Chr-clause-ok : goal.infer_exp-returns-in_ok-enter_literal-in-Chr-clause-ok
infer_exp-returns-in_ok-enter_literal-in-Chr-clause-ok t c = arm.character_ok c.args.names.now c.args.env.now
    (state_of c.args.state.now) (state_of c.enter_literal-in-Chr.new.state) c.args.exp.now c.in-Chr.code c.args.wanted
    c.in_ok-ty-in-Chr.ty c.in-Chr.is c.in_ok-ty-in-Chr.ensures c.in_ok-enter_literal-in-Chr.ensures.ok

pub infer_exp-returns-in_err-enter_literal-in-Str-clause-err :
    goal.infer_exp-returns-in_err-enter_literal-in-Str-clause-err
infer_exp-returns-in_err-enter_literal-in-Str-clause-err t c =
    let p = err_from_is_err_and c.from_residual-in_err-enter_literal-in-Str.result
    c.from_residual-in_err-enter_literal-in-Str.ensures.1 in
    rw p.1 (explains_failure _ p.0 p.2 (λ z. arm.string_err c.args.names.now c.args.env.now (state_of c.args.state.now)
    c.args.exp.now c.in-Str.codes c.args.wanted c.in_ok-ty-in-Str.ty c.in-Str.is c.in_ok-ty-in-Str.ensures
    (c.in_err-enter_literal-in-Str.ensures.none z)))

pub infer_exp-returns-in_ok-enter_literal-in-Str-clause-ok : goal.infer_exp-returns-in_ok-enter_literal-in-Str-clause-ok
infer_exp-returns-in_ok-enter_literal-in-Str-clause-ok t c = arm.string_ok c.args.names.now c.args.env.now
    (state_of c.args.state.now) (state_of c.enter_literal-in-Str.new.state) c.args.exp.now c.in-Str.codes c.args.wanted
    c.in_ok-ty-in-Str.ty c.in-Str.is c.in_ok-ty-in-Str.ensures c.in_ok-enter_literal-in-Str.ensures.ok

pub infer_exp-returns-in_err-own-in-Apply-clause-err : goal.infer_exp-returns-in_err-own-in-Apply-clause-err
infer_exp-returns-in_err-own-in-Apply-clause-err t c =
    let p = err_from_is_err_and c.from_residual-in_err-own-in-Apply.result
    c.from_residual-in_err-own-in-Apply.ensures.1 in
    rw p.1 (explains_failure _ p.0 p.2 (λ z. arm.apply_head_err c.args.names.now c.args.env.now
    (state_of c.args.state.now) c.args.exp.now c.in-Apply.fun c.in-Apply.args c.args.wanted c.len.result c.in-Apply.is
    c.len.ensures (c.in_err-own-in-Apply.ensures.none z)))

pub infer_exp-returns-in_err-infer_exp-in-Apply-clause-err : goal.infer_exp-returns-in_err-infer_exp-in-Apply-clause-err
infer_exp-returns-in_err-infer_exp-in-Apply-clause-err t c =
    let p = err_from_is_err_and c.from_residual-in_err-infer_exp-in-Apply.result
    c.from_residual-in_err-infer_exp-in-Apply.ensures.1 in
    rw (p.1, p.2) (explains_so _ (λ z. arm.apply_function_err c.args.names.now c.args.env.now c.args.state.now
    c.args.exp.now c.get.result.now c.in-Apply.fun c.in-Apply.args c.in-Apply.args c.args.wanted c.len.result
    c.in_ok-own-in-Apply.own c.in_ok-own-in-Apply.parts.items c.in_ok-own-in-Apply.parts.items c.in-Apply.is
    c.get.ensures refl c.len.ensures c.in_ok-own-in-Apply.ensures.own c.in_ok-own-in-Apply.ensures.parts refl
    (state_of c.enter_application.new.state) c.in_ok-own-in-Apply.ensures.ok z)
    (λ z. subst IsUncovered (sym c.in-Apply.is) (cover.in_function c.in-Apply.fun c.in-Apply.args
    (subst IsUncovered c.get.ensures z)))
    c.in_err-infer_exp-in-Apply.ensures.err)

pub infer_exp-returns-in_ok-infer_exp-in-Apply-clause-ok : goal.infer_exp-returns-in_ok-infer_exp-in-Apply-clause-ok
infer_exp-returns-in_ok-infer_exp-in-Apply-clause-ok t c = on_ok c.infer_exps.result
    (λ h. arm.apply_ok c.args.names.now c.args.env.now c.args.state.now c.args.exp.now c.get.result.now c.in-Apply.fun
    c.as_slice.result.now c.in-Apply.args c.args.wanted c.len.result c.in_ok-own-in-Apply.own
    c.in_ok-own-in-Apply.parts.items c.as_slice-in-Apply.result.now c.in-Apply.is c.get.ensures c.as_slice.ensures
    c.len.ensures c.in_ok-own-in-Apply.ensures.own c.in_ok-own-in-Apply.ensures.parts c.as_slice-in-Apply.ensures.value
    (state_of c.enter_application.new.state) (state_of c.infer_exp.new.state) (state_of c.infer_exps.new.state)
    c.in_ok-own-in-Apply.ensures.ok c.in_ok-infer_exp-in-Apply.ensures.ok h) c.infer_exps.ensures.ok

pub infer_exp-returns-in_ok-infer_exp-in-Apply-clause-err : goal.infer_exp-returns-in_ok-infer_exp-in-Apply-clause-err
infer_exp-returns-in_ok-infer_exp-in-Apply-clause-err t c = explained c.infer_exps.result
    (λ h. arm.apply_arguments_err c.args.names.now c.args.env.now c.args.state.now c.args.exp.now c.get.result.now
    c.in-Apply.fun c.as_slice.result.now c.in-Apply.args c.args.wanted c.len.result c.in_ok-own-in-Apply.own
    c.in_ok-own-in-Apply.parts.items c.as_slice-in-Apply.result.now c.in-Apply.is c.get.ensures c.as_slice.ensures
    c.len.ensures c.in_ok-own-in-Apply.ensures.own c.in_ok-own-in-Apply.ensures.parts c.as_slice-in-Apply.ensures.value
    (state_of c.enter_application.new.state) (state_of c.infer_exp.new.state) c.in_ok-own-in-Apply.ensures.ok
    c.in_ok-infer_exp-in-Apply.ensures.ok h)
    (λ h. subst IsUncovered (sym c.in-Apply.is) (cover.in_arguments c.in-Apply.fun c.in-Apply.args
    (subst SomeUncovered c.as_slice.ensures h))) c.infer_exps.ensures.err

pub infer_exp-returns-in_err-own-in-Lambda-clause-err : goal.infer_exp-returns-in_err-own-in-Lambda-clause-err
infer_exp-returns-in_err-own-in-Lambda-clause-err t c =
    let p = err_from_is_err_and c.from_residual-in_err-own-in-Lambda.result
    c.from_residual-in_err-own-in-Lambda.ensures.1 in
    rw p.1 (explains_failure _ p.0 p.2 (λ z. arm.lambda_head_err c.args.names.now c.args.env.now
    (state_of c.args.state.now) c.args.exp.now c.in-Lambda.body c.as_slice-in-Lambda.result.now c.in-Lambda.pats
    c.args.wanted c.in-Lambda.is c.as_slice-in-Lambda.ensures (c.in_err-own-in-Lambda.ensures.none z)))

pub infer_exp-returns-in_ok-own-in-Lambda-clause-ok : goal.infer_exp-returns-in_ok-own-in-Lambda-clause-ok
infer_exp-returns-in_ok-own-in-Lambda-clause-ok t c = on_ok c.infer_exp-in-Lambda.result
    (λ h. arm.lambda_ok c.args.names.now c.args.env.now (state_of c.args.state.now) (state_of c.enter_lambda.new.state)
    (state_of c.infer_exp-in-Lambda.new.state) c.args.exp.now c.get-in-Lambda.result.now c.in-Lambda.body
    c.as_slice-in-Lambda.result.now c.in-Lambda.pats c.args.wanted c.in_ok-own-in-Lambda.own
    c.in_ok-own-in-Lambda.scope.items c.as_slice-in-Lambda-2.result.now c.in-Lambda.is c.get-in-Lambda.ensures
    c.as_slice-in-Lambda.ensures c.as_slice-in-Lambda-2.ensures.value c.in_ok-own-in-Lambda.ensures.ok h)
    c.infer_exp-in-Lambda.ensures.ok

pub infer_exp-returns-in_ok-own-in-Lambda-clause-err : goal.infer_exp-returns-in_ok-own-in-Lambda-clause-err
infer_exp-returns-in_ok-own-in-Lambda-clause-err t c = explained c.infer_exp-in-Lambda.result
    (λ h. arm.lambda_body_err c.args.names.now c.args.env.now (state_of c.args.state.now)
    (state_of c.enter_lambda.new.state) c.args.exp.now c.get-in-Lambda.result.now c.in-Lambda.body
    c.as_slice-in-Lambda.result.now c.in-Lambda.pats c.args.wanted c.in_ok-own-in-Lambda.own
    c.in_ok-own-in-Lambda.scope.items c.as_slice-in-Lambda-2.result.now c.in-Lambda.is c.get-in-Lambda.ensures
    c.as_slice-in-Lambda.ensures c.as_slice-in-Lambda-2.ensures.value c.in_ok-own-in-Lambda.ensures.ok h)
    (λ h. subst IsUncovered (sym c.in-Lambda.is) (cover.in_lambda c.in-Lambda.pats c.in-Lambda.body
    (subst IsUncovered c.get-in-Lambda.ensures h))) c.infer_exp-in-Lambda.ensures.err

pub infer_exp-returns-in-Let-clause-err : goal.infer_exp-returns-in-Let-clause-err
infer_exp-returns-in-Let-clause-err t c = uncovered_is (subst IsUncovered (sym c.in-Let.is)
    (cover.at_let c.in-Let.decls c.in-Let.body))

pub infer_exp-returns-in-Annot-clause-err : goal.infer_exp-returns-in-Annot-clause-err
infer_exp-returns-in-Annot-clause-err t c = uncovered_is (subst IsUncovered (sym c.in-Annot.is)
    (cover.at_annotation c.in-Annot.exp c.in-Annot.ty))

pub infer_exp-returns-in_err-own-in-If-clause-err : goal.infer_exp-returns-in_err-own-in-If-clause-err
infer_exp-returns-in_err-own-in-If-clause-err t c =
    let p = err_from_is_err_and c.from_residual-in_err-own-in-If.result c.from_residual-in_err-own-in-If.ensures.1 in
    rw p.1 (explains_failure _ p.0 p.2 (λ z. arm.if_head_err c.args.names.now c.args.env.now
    (state_of c.args.state.now) c.args.exp.now c.in-If.test c.in-If.yes c.in-If.no c.args.wanted c.in-If.is
    (c.in_err-own-in-If.ensures.none z)))

pub infer_exp-returns-in_err-infer_exp-in-If-clause-err : goal.infer_exp-returns-in_err-infer_exp-in-If-clause-err
infer_exp-returns-in_err-infer_exp-in-If-clause-err t c =
    let p = err_from_is_err_and c.from_residual-in_err-infer_exp-in-If.result
    c.from_residual-in_err-infer_exp-in-If.ensures.1 in
    rw (p.1, p.2) (explains_so _ (λ z. arm.if_test_err c.args.names.now c.args.env.now c.args.state.now c.args.exp.now
    c.get-in-If.result.now c.in-If.yes c.in-If.no c.in-If.test c.in-If.yes c.in-If.no c.args.wanted
    c.in_ok-own-in-If.own c.in-If.is c.get-in-If.ensures refl refl c.in_ok-own-in-If.ensures.own
    (state_of c.enter_test.new.state) c.in_ok-own-in-If.ensures.ok z)
    (λ z. subst IsUncovered (sym c.in-If.is) (cover.in_test c.in-If.test c.in-If.yes c.in-If.no
    (subst IsUncovered c.get-in-If.ensures z)))
    c.in_err-infer_exp-in-If.ensures.err)

pub infer_exp-returns-in_err-infer_exp-in-If-2-clause-err : goal.infer_exp-returns-in_err-infer_exp-in-If-2-clause-err
infer_exp-returns-in_err-infer_exp-in-If-2-clause-err t c =
    let p = err_from_is_err_and c.from_residual-in_err-infer_exp-in-If-2.result
    c.from_residual-in_err-infer_exp-in-If-2.ensures.1 in
    rw (p.1, p.2) (explains_so _ (λ z. arm.if_yes_err c.args.names.now c.args.env.now c.args.state.now c.args.exp.now
    c.get-in-If.result.now c.get-in-If-2.result.now c.in-If.no c.in-If.test c.in-If.yes c.in-If.no c.args.wanted
    c.in_ok-own-in-If.own c.in-If.is c.get-in-If.ensures c.get-in-If-2.ensures refl c.in_ok-own-in-If.ensures.own
    (state_of c.enter_test.new.state) (state_of c.infer_exp-in-If.new.state) c.in_ok-own-in-If.ensures.ok
    c.in_ok-infer_exp-in-If.ensures.ok z) (λ z. subst IsUncovered (sym c.in-If.is)
    (cover.in_yes c.in-If.test c.in-If.yes c.in-If.no (subst IsUncovered c.get-in-If-2.ensures z)))
    c.in_err-infer_exp-in-If-2.ensures.err)

pub infer_exp-returns-in_ok-infer_exp-in-If-2-clause-ok : goal.infer_exp-returns-in_ok-infer_exp-in-If-2-clause-ok
infer_exp-returns-in_ok-infer_exp-in-If-2-clause-ok t c = on_ok c.infer_exp-in-If-3.result
    (λ h. arm.if_ok c.args.names.now c.args.env.now c.args.state.now c.args.exp.now c.get-in-If.result.now
    c.get-in-If-2.result.now c.get-in-If-3.result.now c.in-If.test c.in-If.yes c.in-If.no c.args.wanted
    c.in_ok-own-in-If.own c.in-If.is c.get-in-If.ensures c.get-in-If-2.ensures c.get-in-If-3.ensures
    c.in_ok-own-in-If.ensures.own (state_of c.enter_test.new.state) (state_of c.infer_exp-in-If.new.state)
    (state_of c.infer_exp-in-If-2.new.state) (state_of c.infer_exp-in-If-3.new.state) c.in_ok-own-in-If.ensures.ok
    c.in_ok-infer_exp-in-If.ensures.ok c.in_ok-infer_exp-in-If-2.ensures.ok h) c.infer_exp-in-If-3.ensures.ok

pub infer_exp-returns-in_ok-infer_exp-in-If-2-clause-err : goal.infer_exp-returns-in_ok-infer_exp-in-If-2-clause-err
infer_exp-returns-in_ok-infer_exp-in-If-2-clause-err t c = explained c.infer_exp-in-If-3.result
    (λ h. arm.if_no_err c.args.names.now c.args.env.now c.args.state.now c.args.exp.now c.get-in-If.result.now
    c.get-in-If-2.result.now c.get-in-If-3.result.now c.in-If.test c.in-If.yes c.in-If.no c.args.wanted
    c.in_ok-own-in-If.own c.in-If.is c.get-in-If.ensures c.get-in-If-2.ensures c.get-in-If-3.ensures
    c.in_ok-own-in-If.ensures.own (state_of c.enter_test.new.state) (state_of c.infer_exp-in-If.new.state)
    (state_of c.infer_exp-in-If-2.new.state) c.in_ok-own-in-If.ensures.ok c.in_ok-infer_exp-in-If.ensures.ok
    c.in_ok-infer_exp-in-If-2.ensures.ok h)
    (λ h. subst IsUncovered (sym c.in-If.is) (cover.in_no c.in-If.test c.in-If.yes c.in-If.no
    (subst IsUncovered c.get-in-If-3.ensures h))) c.infer_exp-in-If-3.ensures.err

pub infer_exp-returns-in_err-infer_exp-in-Case-clause-err : goal.infer_exp-returns-in_err-infer_exp-in-Case-clause-err
infer_exp-returns-in_err-infer_exp-in-Case-clause-err t c =
    let p = err_from_is_err_and c.from_residual-in_err-infer_exp-in-Case.result
    c.from_residual-in_err-infer_exp-in-Case.ensures.1 in
    rw (p.1, p.2) (explains_so _ (λ z. arm.case_of_err c.args.names.now c.args.env.now c.args.state.now
    c.fresh.new.self c.args.exp.now c.get-in-Case.result.now c.in-Case.of c.in-Case.alts c.in-Case.alts c.args.wanted
    c.in_ok-own-in-Case.own c.in-Case.is c.get-in-Case.ensures refl c.in_ok-own-in-Case.ensures.first
    c.in_ok-own-in-Case.ensures.same c.in_ok-own-in-Case.ensures.kinds z)
    (λ z. subst IsUncovered (sym c.in-Case.is) (cover.in_case c.in-Case.of c.in-Case.alts
    (subst IsUncovered c.get-in-Case.ensures z)))
    c.in_err-infer_exp-in-Case.ensures.err)

pub infer_exp-returns-in_ok-infer_exp-in-Case-clause-ok : goal.infer_exp-returns-in_ok-infer_exp-in-Case-clause-ok
infer_exp-returns-in_ok-infer_exp-in-Case-clause-ok t c = on_ok c.infer_alts.result
    (λ h. arm.case_ok c.args.names.now c.args.env.now c.args.state.now c.fresh.new.self c.args.exp.now
    c.get-in-Case.result.now c.in-Case.of c.as_slice-in-Case.result.now c.in-Case.alts c.args.wanted
    c.in_ok-own-in-Case.own c.in-Case.is c.get-in-Case.ensures c.as_slice-in-Case.ensures
    c.in_ok-own-in-Case.ensures.first c.in_ok-own-in-Case.ensures.same c.in_ok-own-in-Case.ensures.kinds
    (state_of c.infer_exp-in-Case.new.state) (state_of c.infer_alts.new.state) c.in_ok-infer_exp-in-Case.ensures.ok h)
    c.infer_alts.ensures.ok

pub infer_exp-returns-in_ok-infer_exp-in-Case-clause-err : goal.infer_exp-returns-in_ok-infer_exp-in-Case-clause-err
infer_exp-returns-in_ok-infer_exp-in-Case-clause-err t c = explained c.infer_alts.result
    (λ h. arm.case_alts_err c.args.names.now c.args.env.now c.args.state.now c.fresh.new.self c.args.exp.now
    c.get-in-Case.result.now c.in-Case.of c.as_slice-in-Case.result.now c.in-Case.alts c.args.wanted
    c.in_ok-own-in-Case.own c.in-Case.is c.get-in-Case.ensures c.as_slice-in-Case.ensures
    c.in_ok-own-in-Case.ensures.first c.in_ok-own-in-Case.ensures.same c.in_ok-own-in-Case.ensures.kinds
    (state_of c.infer_exp-in-Case.new.state) c.in_ok-infer_exp-in-Case.ensures.ok h)
    (λ h. subst IsUncovered (sym c.in-Case.is) (cover.in_alternatives c.in-Case.of c.in-Case.alts
    (subst SomeAltUncovered c.as_slice-in-Case.ensures h))) c.infer_alts.ensures.err

pub infer_exp-returns-in_err-ids-in-Tuple-clause-err : goal.infer_exp-returns-in_err-ids-in-Tuple-clause-err
infer_exp-returns-in_err-ids-in-Tuple-clause-err t c =
    let p = err_from_is_err_and c.from_residual-in_err-ids-in-Tuple.result
    c.from_residual-in_err-ids-in-Tuple.ensures.1 in
    rw p.1 (explains_failure _ p.0 p.2 (λ z. arm.tuple_head_err c.args.names.now c.args.env.now
    (state_of c.args.state.now) c.args.exp.now c.in-Tuple.parts c.args.wanted c.len-in-Tuple.result c.in-Tuple.is
    c.len-in-Tuple.ensures (c.in_err-ids-in-Tuple.ensures.none z)))

pub infer_exp-returns-in_ok-ids-in-Tuple-clause-ok : goal.infer_exp-returns-in_ok-ids-in-Tuple-clause-ok
infer_exp-returns-in_ok-ids-in-Tuple-clause-ok t c = on_ok c.infer_exps-in-Tuple.result
    (λ h. arm.tuple_ok c.args.names.now c.args.env.now c.args.state.now (state_of c.enter_tuple.new.state)
    (state_of c.infer_exps-in-Tuple.new.state) c.args.exp.now c.as_slice-in-Tuple.result.now c.in-Tuple.parts
    c.args.wanted c.len-in-Tuple.result c.in_ok-ids-in-Tuple.ids.items c.as_slice-in-Tuple-2.result.now c.in-Tuple.is
    c.as_slice-in-Tuple.ensures c.len-in-Tuple.ensures c.in_ok-ids-in-Tuple.ensures.ids
    c.as_slice-in-Tuple-2.ensures.value c.in_ok-ids-in-Tuple.ensures.ok h) c.infer_exps-in-Tuple.ensures.ok

pub infer_exp-returns-in_ok-ids-in-Tuple-clause-err : goal.infer_exp-returns-in_ok-ids-in-Tuple-clause-err
infer_exp-returns-in_ok-ids-in-Tuple-clause-err t c = explained c.infer_exps-in-Tuple.result
    (λ h. arm.tuple_parts_err c.args.names.now c.args.env.now c.args.state.now (state_of c.enter_tuple.new.state)
    c.args.exp.now c.as_slice-in-Tuple.result.now c.in-Tuple.parts c.args.wanted c.len-in-Tuple.result
    c.in_ok-ids-in-Tuple.ids.items c.as_slice-in-Tuple-2.result.now c.in-Tuple.is c.as_slice-in-Tuple.ensures
    c.len-in-Tuple.ensures c.in_ok-ids-in-Tuple.ensures.ids c.as_slice-in-Tuple-2.ensures.value
    c.in_ok-ids-in-Tuple.ensures.ok h)
    (λ h. subst IsUncovered (sym c.in-Tuple.is) (cover.in_tuple c.in-Tuple.parts
    (subst SomeUncovered c.as_slice-in-Tuple.ensures h))) c.infer_exps-in-Tuple.ensures.err

pub infer_exp-returns-in_err-ids-in-List-clause-err : goal.infer_exp-returns-in_err-ids-in-List-clause-err
infer_exp-returns-in_err-ids-in-List-clause-err t c =
    let p = err_from_is_err_and c.from_residual-in_err-ids-in-List.result c.from_residual-in_err-ids-in-List.ensures.1
    in
    rw p.1 (explains_failure _ p.0 p.2 (λ z. arm.list_head_err c.args.names.now c.args.env.now
    (state_of c.args.state.now) c.args.exp.now c.in-List.parts c.args.wanted c.in-List.is
    (c.in_err-ids-in-List.ensures.none z)))

pub infer_exp-returns-in_ok-ids-in-List-clause-ok : goal.infer_exp-returns-in_ok-ids-in-List-clause-ok
infer_exp-returns-in_ok-ids-in-List-clause-ok t c = on_ok c.infer_exps-in-List.result
    (λ h. arm.list_ok c.args.names.now c.args.env.now c.args.state.now (state_of c.enter_list.new.state)
    (state_of c.infer_exps-in-List.new.state) c.args.exp.now c.as_slice-in-List.result.now c.in-List.parts
    c.args.wanted c.len-in-List.result c.in_ok-ids-in-List.ids.items c.as_slice-in-List-2.result.now c.in-List.is
    c.as_slice-in-List.ensures c.len-in-List.ensures c.in_ok-ids-in-List.ensures.ids c.as_slice-in-List-2.ensures.value
    c.in_ok-ids-in-List.ensures.ok h) c.infer_exps-in-List.ensures.ok

pub infer_exp-returns-in_ok-ids-in-List-clause-err : goal.infer_exp-returns-in_ok-ids-in-List-clause-err
infer_exp-returns-in_ok-ids-in-List-clause-err t c = explained c.infer_exps-in-List.result
    (λ h. arm.list_parts_err c.args.names.now c.args.env.now c.args.state.now (state_of c.enter_list.new.state)
    c.args.exp.now c.as_slice-in-List.result.now c.in-List.parts c.args.wanted c.len-in-List.result
    c.in_ok-ids-in-List.ids.items c.as_slice-in-List-2.result.now c.in-List.is c.as_slice-in-List.ensures
    c.len-in-List.ensures c.in_ok-ids-in-List.ensures.ids c.as_slice-in-List-2.ensures.value
    c.in_ok-ids-in-List.ensures.ok h)
    (λ h. subst IsUncovered (sym c.in-List.is) (cover.in_list c.in-List.parts
    (subst SomeUncovered c.as_slice-in-List.ensures h))) c.infer_exps-in-List.ensures.err

pub infer_exp-returns-in_err-own-in-RightSection-clause-err :
    goal.infer_exp-returns-in_err-own-in-RightSection-clause-err
infer_exp-returns-in_err-own-in-RightSection-clause-err t c =
    let p = err_from_is_err_and c.from_residual-in_err-own-in-RightSection.result
    c.from_residual-in_err-own-in-RightSection.ensures.1 in
    rw p.1 (explains_failure _ p.0 p.2 (λ z. arm.section_head_err c.args.names.now c.args.env.now
    (state_of c.args.state.now) c.args.exp.now c.in-RightSection.op c.in-RightSection.arg c.args.wanted
    c.in-RightSection.is (c.in_err-own-in-RightSection.ensures.none z)))

pub infer_exp-returns-in_err-infer_exp-in-RightSection-clause-err :
    goal.infer_exp-returns-in_err-infer_exp-in-RightSection-clause-err
infer_exp-returns-in_err-infer_exp-in-RightSection-clause-err t c =
    let p = err_from_is_err_and c.from_residual-in_err-infer_exp-in-RightSection.result
    c.from_residual-in_err-infer_exp-in-RightSection.ensures.1 in
    rw (p.1, p.2) (explains_so _ (λ z. arm.section_operator_err c.args.names.now c.args.env.now c.args.state.now
    c.args.exp.now c.get-in-RightSection.result.now c.in-RightSection.arg c.in-RightSection.op c.in-RightSection.arg
    c.args.wanted c.in_ok-own-in-RightSection.own c.in_ok-own-in-RightSection.right c.in-RightSection.is
    c.get-in-RightSection.ensures refl c.in_ok-own-in-RightSection.ensures.own
    c.in_ok-own-in-RightSection.ensures.right (state_of c.enter_section.new.state)
    c.in_ok-own-in-RightSection.ensures.ok z) (λ z. subst IsUncovered (sym c.in-RightSection.is)
    (cover.in_operator c.in-RightSection.op c.in-RightSection.arg (subst IsUncovered c.get-in-RightSection.ensures z)))
    c.in_err-infer_exp-in-RightSection.ensures.err)

pub infer_exp-returns-in_ok-infer_exp-in-RightSection-clause-ok :
    goal.infer_exp-returns-in_ok-infer_exp-in-RightSection-clause-ok
infer_exp-returns-in_ok-infer_exp-in-RightSection-clause-ok t c = on_ok c.infer_exp-in-RightSection-2.result
    (λ h. arm.section_ok c.args.names.now c.args.env.now c.args.state.now c.args.exp.now
    c.get-in-RightSection.result.now c.get-in-RightSection-2.result.now c.in-RightSection.op c.in-RightSection.arg
    c.args.wanted c.in_ok-own-in-RightSection.own c.in_ok-own-in-RightSection.right c.in-RightSection.is
    c.get-in-RightSection.ensures c.get-in-RightSection-2.ensures c.in_ok-own-in-RightSection.ensures.own
    c.in_ok-own-in-RightSection.ensures.right (state_of c.enter_section.new.state)
    (state_of c.infer_exp-in-RightSection.new.state) (state_of c.infer_exp-in-RightSection-2.new.state)
    c.in_ok-own-in-RightSection.ensures.ok c.in_ok-infer_exp-in-RightSection.ensures.ok h)
    c.infer_exp-in-RightSection-2.ensures.ok

pub infer_exp-returns-in_ok-infer_exp-in-RightSection-clause-err :
    goal.infer_exp-returns-in_ok-infer_exp-in-RightSection-clause-err
infer_exp-returns-in_ok-infer_exp-in-RightSection-clause-err t c = explained c.infer_exp-in-RightSection-2.result
    (λ h. arm.section_operand_err c.args.names.now c.args.env.now c.args.state.now c.args.exp.now
    c.get-in-RightSection.result.now c.get-in-RightSection-2.result.now c.in-RightSection.op c.in-RightSection.arg
    c.args.wanted c.in_ok-own-in-RightSection.own c.in_ok-own-in-RightSection.right c.in-RightSection.is
    c.get-in-RightSection.ensures c.get-in-RightSection-2.ensures c.in_ok-own-in-RightSection.ensures.own
    c.in_ok-own-in-RightSection.ensures.right (state_of c.enter_section.new.state)
    (state_of c.infer_exp-in-RightSection.new.state) c.in_ok-own-in-RightSection.ensures.ok
    c.in_ok-infer_exp-in-RightSection.ensures.ok h)
    (λ h. subst IsUncovered (sym c.in-RightSection.is) (cover.in_operand c.in-RightSection.op c.in-RightSection.arg
    (subst IsUncovered c.get-in-RightSection-2.ensures h))) c.infer_exp-in-RightSection-2.ensures.err

-- ---- expressions in a row

pub infer_exps-loop-index-init : goal.infer_exps-loop-index-init
infer_exps-loop-index-init t c = loop.exps_start c.args.names.now c.args.env.now c.args.exps.now c.args.wanted.now
    (state_of c.args.state.now)

pub infer_exps-loop-index-preserved : goal.infer_exps-loop-index-preserved
infer_exps-loop-index-preserved t c = loop.exps_next c.args.names.now c.args.env.now c.args.exps.now c.args.wanted.now
    c.loop-index.index c.index-exps-index.result 0 (state_of c.args.state.now) (state_of c.loop-index.state)
    c.loop-index-test.true c.requires c.loop-index.invariant (state_of c.infer_exp.new.state)
    (subst (InferredTo c.args.names.now c.args.env.now (state_of c.loop-index.state) (state_of c.infer_exp.new.state)
    (get_or c.args.wanted.now c.loop-index.index 0)) c.index-exps-index.is c.in_ok-infer_exp.ensures.ok)

pub infer_exps-returns-in_err-infer_exp-clause-err : goal.infer_exps-returns-in_err-infer_exp-clause-err
infer_exps-returns-in_err-infer_exp-clause-err t c =
    let p = err_from_is_err_and c.from_residual.result c.from_residual.ensures.1 in
    rw (p.1, p.2) (explains_so _ (λ z. loop.exps_none c.args.names.now c.args.env.now c.args.exps.now c.args.wanted.now
    c.loop-index.index c.index-exps-index.result 0 (state_of c.args.state.now) (state_of c.loop-index.state)
    c.loop-index-test.true c.requires c.loop-index.invariant
    (subst (RefusedAt c.args.names.now c.args.env.now (state_of c.loop-index.state)
    (get_or c.args.wanted.now c.loop-index.index 0)) c.index-exps-index.is z))
    (λ z. loop.uncovered_at c.args.exps.now c.loop-index.index c.index-exps-index.result c.loop-index-test.true
    (subst IsUncovered c.index-exps-index.is z)) c.in_err-infer_exp.ensures.err)

pub infer_exps-returns-clause-ok : goal.infer_exps-returns-clause-ok
infer_exps-returns-clause-ok t c = loop.exps_end c.args.names.now c.args.env.now c.args.exps.now c.args.wanted.now
    c.loop-index.index (state_of c.args.state.now) (state_of c.loop-index.state) c.loop-index-test.false c.requires
    c.loop-index.invariant

-- ---- alternatives

pub infer_alts-loop-index-init : goal.infer_alts-loop-index-init
infer_alts-loop-index-init t c = loop.alts_start c.args.names.now c.args.env.now c.args.alts.now c.args.of c.args.wanted
    (state_of c.args.state.now)

pub infer_alts-loop-index-preserved : goal.infer_alts-loop-index-preserved
infer_alts-loop-index-preserved t c = loop.alts_next c.args.names.now c.args.env.now c.args.alts.now c.args.of
    c.args.wanted c.loop-index.index c.index-alts-index.result (state_of c.args.state.now) (state_of c.loop-index.state)
    c.loop-index-test.true c.loop-index.invariant (state_of c.infer_alt.new.state)
    (subst (λ a. AltInferred c.args.names.now c.args.env.now (state_of c.loop-index.state)
    (state_of c.infer_alt.new.state)
    a c.args.of c.args.wanted) c.index-alts-index.is c.in_ok-infer_alt.ensures.ok)

pub infer_alts-returns-in_err-infer_alt-clause-err : goal.infer_alts-returns-in_err-infer_alt-clause-err
infer_alts-returns-in_err-infer_alt-clause-err t c =
    let p = err_from_is_err_and c.from_residual.result c.from_residual.ensures.1 in
    rw (p.1, p.2) (explains_so _ (λ z. loop.alts_none c.args.names.now c.args.env.now c.args.alts.now c.args.of
    c.args.wanted c.loop-index.index c.index-alts-index.result (state_of c.args.state.now) (state_of c.loop-index.state)
    c.loop-index-test.true c.loop-index.invariant
    (subst (λ a. AltRefused c.args.names.now c.args.env.now (state_of c.loop-index.state) a c.args.of c.args.wanted)
    c.index-alts-index.is z))
    (λ z. loop.uncovered_alt_at c.args.alts.now c.loop-index.index c.index-alts-index.result c.loop-index-test.true
    (subst IsAltUncovered c.index-alts-index.is z)) c.in_err-infer_alt.ensures.err)

pub infer_alts-returns-clause-ok : goal.infer_alts-returns-clause-ok
infer_alts-returns-clause-ok t c = loop.alts_end c.args.names.now c.args.env.now c.args.alts.now c.args.of c.args.wanted
    c.loop-index.index (state_of c.args.state.now) (state_of c.loop-index.state) c.loop-index-test.false
    c.loop-index.invariant

pub infer_alt-returns-in_err-scope-clause-err : goal.infer_alt-returns-in_err-scope-clause-err
infer_alt-returns-in_err-scope-clause-err t c =
    let p = err_from_is_err_and c.from_residual.result c.from_residual.ensures.1 in
    rw p.1 (explains_failure _ p.0 p.2 (λ z. scope.alternative_pattern_err c.args.names.now c.args.env.now
    (state_of c.args.state.now) c.args.alt.now c.args.of c.args.wanted (c.in_err-scope.ensures.none z)))

pub infer_alt-returns-clause-ok : goal.infer_alt-returns-clause-ok
infer_alt-returns-clause-ok t c = on_ok c.infer_side.result (λ h. scope.alternative_ok c.args.names.now c.args.env.now
    c.in_ok-scope.scope.items c.as_slice.result.now (state_of c.args.state.now) (state_of c.enter_pattern.new.state)
    (state_of c.infer_side.new.state) c.args.alt.now c.args.of c.args.wanted c.as_slice.ensures.value
    c.in_ok-scope.ensures.ok h) c.infer_side.ensures.ok

pub infer_alt-returns-clause-err : goal.infer_alt-returns-clause-err
infer_alt-returns-clause-err t c = explained c.infer_side.result
    (λ h. scope.alternative_side_err c.args.names.now c.args.env.now
    c.in_ok-scope.scope.items c.as_slice.result.now (state_of c.args.state.now) (state_of c.enter_pattern.new.state)
    c.args.alt.now c.args.of c.args.wanted c.as_slice.ensures.value c.in_ok-scope.ensures.ok h)
    (λ h. cover.in_alternative c.args.alt.now h) c.infer_side.ensures.err

-- ---- right sides

pub infer_side-returns-then-not-is_empty-clause-err : goal.infer_side-returns-then-not-is_empty-clause-err
infer_side-returns-then-not-is_empty-clause-err t c = uncovered_is (cover.at_local c.args.rhs.now
    (λ e. false-true (c.if-not-is_empty.ensures.1 e)))

pub infer_side-returns-clause-ok : goal.infer_side-returns-clause-ok
infer_side-returns-clause-ok t c = on_ok c.infer_choices.result
    (λ h. scope.side_ok c.args.names.now c.args.env.now (state_of c.args.state.now) (state_of c.infer_choices.new.state)
    c.args.rhs.now c.args.wanted (c.if-not-is_empty.ensures.0 refl)
    (subst (λ z. ChoicesInferred c.args.names.now c.args.env.now (state_of c.args.state.now)
    (state_of c.infer_choices.new.state) z c.args.wanted) c.as_slice.ensures h))
    c.infer_choices.ensures.ok

pub infer_side-returns-clause-err : goal.infer_side-returns-clause-err
infer_side-returns-clause-err t c = explained c.infer_choices.result
    (λ h. scope.side_err c.args.names.now c.args.env.now (state_of c.args.state.now) c.args.rhs.now
    c.args.wanted (c.if-not-is_empty.ensures.0 refl)
    (subst (λ z. ChoicesRefused c.args.names.now c.args.env.now (state_of c.args.state.now) z c.args.wanted)
    c.as_slice.ensures h))
    (λ h. cover.in_choices c.args.rhs.now (subst SomeChoiceUncovered c.as_slice.ensures h)) c.infer_choices.ensures.err

-- ---- choices

pub infer_choices-loop-index-init : goal.infer_choices-loop-index-init
infer_choices-loop-index-init t c = loop.choices_start c.args.names.now c.args.env.now c.args.choices.now c.args.wanted
    (state_of c.args.state.now)

pub infer_choices-loop-index-preserved : goal.infer_choices-loop-index-preserved
infer_choices-loop-index-preserved t c = loop.choices_next c.args.names.now c.args.env.now c.args.choices.now
    c.args.wanted c.loop-index.index
    c.index-choices-index.result (state_of c.args.state.now) (state_of c.loop-index.state) c.loop-index-test.true
    c.loop-index.invariant
    c.in_ok-scope.scope.items c.as_slice-in-loop-index.result.now c.as_slice.result.now c.index-choices-index.result.exp
    (state_of c.infer_guards.new.state) (state_of c.infer_exp.new.state) c.as_slice-in-loop-index.ensures.value
    (c.as_slice.ensures ∙ ap (λ (z : Choice). z.guards) c.index-choices-index.is)
    (ap (λ (z : Choice). z.exp) c.index-choices-index.is) c.in_ok-scope.ensures.ok c.in_ok-infer_exp.ensures.ok

pub infer_choices-returns-in_err-scope-clause-err : goal.infer_choices-returns-in_err-scope-clause-err
infer_choices-returns-in_err-scope-clause-err t c =
    let p = err_from_is_err_and c.from_residual.result c.from_residual.ensures.1 in
    rw (p.1, p.2) (explains_so _ (λ z. loop.choices_guards_none c.args.names.now c.args.env.now c.args.choices.now
    c.args.wanted c.loop-index.index
    c.index-choices-index.result (state_of c.args.state.now) (state_of c.loop-index.state) c.loop-index-test.true
    c.loop-index.invariant
    c.as_slice.result.now (c.as_slice.ensures ∙ ap (λ (z : Choice). z.guards) c.index-choices-index.is) z)
    (λ z. loop.uncovered_choice_at c.args.choices.now c.loop-index.index c.index-choices-index.result
    c.loop-index-test.true
    (inl (subst SomeGuardUncovered (c.as_slice.ensures ∙ ap (λ (z : Choice). z.guards) c.index-choices-index.is) z)))
    c.in_err-scope.ensures.err)

pub infer_choices-returns-in_err-infer_exp-clause-err : goal.infer_choices-returns-in_err-infer_exp-clause-err
infer_choices-returns-in_err-infer_exp-clause-err t c =
    let p = err_from_is_err_and c.from_residual-in_err-infer_exp.result c.from_residual-in_err-infer_exp.ensures.1 in
    rw (p.1, p.2) (explains_so _ (λ z. loop.choices_exp_none c.args.names.now c.args.env.now c.args.choices.now
    c.args.wanted c.loop-index.index
    c.index-choices-index.result (state_of c.args.state.now) (state_of c.loop-index.state) c.loop-index-test.true
    c.loop-index.invariant
    c.in_ok-scope.scope.items c.as_slice-in-loop-index.result.now c.as_slice.result.now c.index-choices-index.result.exp
    (state_of c.infer_guards.new.state) c.as_slice-in-loop-index.ensures.value
    (c.as_slice.ensures ∙ ap (λ (z : Choice). z.guards) c.index-choices-index.is)
    (ap (λ (z : Choice). z.exp) c.index-choices-index.is) c.in_ok-scope.ensures.ok z)
    (λ z. loop.uncovered_choice_at c.args.choices.now c.loop-index.index c.index-choices-index.result
    c.loop-index-test.true (inr (subst IsUncovered (ap (λ (z : Choice). z.exp) c.index-choices-index.is) z)))
    c.in_err-infer_exp.ensures.err)

pub infer_choices-returns-clause-ok : goal.infer_choices-returns-clause-ok
infer_choices-returns-clause-ok t c = loop.choices_end c.args.names.now c.args.env.now c.args.choices.now c.args.wanted
    c.loop-index.index (state_of c.args.state.now) (state_of c.loop-index.state) c.loop-index-test.false
    c.loop-index.invariant

-- ---- guards

pub infer_guards-loop-index-init : goal.infer_guards-loop-index-init
infer_guards-loop-index-init t c = scope.guards_start c.args.names.now c.args.env.now c.new.result.items
    c.in_ok-scope.scope.items
    c.args.guards.now (state_of c.args.state.now) c.new.ensures.items c.in_ok-scope.ensures

pub infer_guards-loop-index-preserved : goal.infer_guards-loop-index-preserved
infer_guards-loop-index-preserved t c = scope.guards_next c.args.names.now c.args.env.now c.args.guards.now
    c.loop-index.index
    c.index-guards-index.result c.loop-index.scope.items c.as_slice.result.now c.in_ok-scope-2.scope.items
    (state_of c.args.state.now)
    (state_of c.loop-index.state) (state_of c.infer_guard.new.state) c.loop-index-test.true c.as_slice.ensures.value
    c.loop-index.invariant
    (subst (λ x. GuardInferred c.args.names.now c.as_slice.result.now c.in_ok-scope-2.scope.items
    (state_of c.loop-index.state)
    (state_of c.infer_guard.new.state) x) c.index-guards-index.is c.in_ok-scope-2.ensures.ok)

pub infer_guards-returns-in_err-scope-2-clause-err : goal.infer_guards-returns-in_err-scope-2-clause-err
infer_guards-returns-in_err-scope-2-clause-err t c =
    let p = err_from_is_err_and c.from_residual-in_err-scope-2.result c.from_residual-in_err-scope-2.ensures.1 in
    rw (p.1, p.2) (explains_so _ (λ z. scope.guards_none c.args.names.now c.args.env.now c.args.guards.now
    c.loop-index.index
    c.index-guards-index.result c.loop-index.scope.items c.as_slice.result.now (state_of c.args.state.now)
    (state_of c.loop-index.state)
    c.loop-index-test.true c.as_slice.ensures.value c.loop-index.invariant
    (subst (λ x. GuardRefused c.args.names.now c.as_slice.result.now (state_of c.loop-index.state) x)
    c.index-guards-index.is z))
    (λ z. loop.uncovered_guard_at c.args.guards.now c.loop-index.index c.index-guards-index.result
    c.loop-index-test.true
    (subst IsGuardUncovered c.index-guards-index.is z)) c.in_err-scope-2.ensures.err)

pub infer_guards-returns-clause-ok : goal.infer_guards-returns-clause-ok
infer_guards-returns-clause-ok t c = scope.guards_end c.args.names.now c.args.env.now c.args.guards.now
    c.loop-index.index
    c.loop-index.scope.items (state_of c.args.state.now) (state_of c.loop-index.state) c.loop-index-test.false
    c.loop-index.invariant

pub infer_guard-returns-in_err-own-in-Test-clause-err : goal.infer_guard-returns-in_err-own-in-Test-clause-err
infer_guard-returns-in_err-own-in-Test-clause-err t c =
    let p = err_from_is_err_and c.from_residual.result c.from_residual.ensures.1 in
    rw p.1 (explains_failure _ p.0 p.2 (λ z. scope.test_guard_head_err c.args.names.now c.args.env.now
    (state_of c.args.state.now) c.args.guard.now c.in-Test.exp
    c.in-Test.is (c.in_err-own-in-Test.ensures.none z)))

pub infer_guard-returns-in_err-infer_exp-in-Test-clause-err :
    goal.infer_guard-returns-in_err-infer_exp-in-Test-clause-err
infer_guard-returns-in_err-infer_exp-in-Test-clause-err t c =
    let p = err_from_is_err_and c.from_residual-in_err-infer_exp-in-Test.result
    c.from_residual-in_err-infer_exp-in-Test.ensures.1 in
    rw (p.1, p.2) (explains_so _ (λ z. scope.test_guard_err c.args.names.now c.args.env.now c.args.state.now
    (state_of c.enter_test.new.state)
    c.args.guard.now c.in-Test.exp c.in_ok-own-in-Test.own c.in-Test.is c.in_ok-own-in-Test.ensures.own
    c.in_ok-own-in-Test.ensures.ok z)
    (λ z. subst IsGuardUncovered (sym c.in-Test.is) (cover.in_guard_test c.in-Test.exp z))
    c.in_err-infer_exp-in-Test.ensures.err)

pub infer_guard-returns-in_ok-scope_of-in-Test-clause-ok : goal.infer_guard-returns-in_ok-scope_of-in-Test-clause-ok
infer_guard-returns-in_ok-scope_of-in-Test-clause-ok t c = scope.test_guard_ok c.args.names.now c.args.env.now
    c.new.result.items
    c.in_ok-scope_of-in-Test.field-0.items c.args.state.now (state_of c.enter_test.new.state)
    (state_of c.infer_exp.new.state) c.args.guard.now c.in-Test.exp c.in_ok-own-in-Test.own c.in-Test.is
    c.new.ensures.items c.in_ok-scope_of-in-Test.ensures c.in_ok-own-in-Test.ensures.own c.in_ok-own-in-Test.ensures.ok
    c.in_ok-infer_exp-in-Test.ensures.ok

pub infer_guard-returns-in_err-infer_exp-in-Bind-clause-err :
    goal.infer_guard-returns-in_err-infer_exp-in-Bind-clause-err
infer_guard-returns-in_err-infer_exp-in-Bind-clause-err t c =
    let p = err_from_is_err_and c.from_residual-in_err-infer_exp-in-Bind.result
    c.from_residual-in_err-infer_exp-in-Bind.ensures.1 in
    rw (p.1, p.2) (explains_so _ (λ z. scope.bind_guard_exp_err c.args.names.now c.args.env.now c.args.state.now
    c.fresh.new.self c.args.guard.now c.in-Bind.pat c.in-Bind.exp c.in_ok-own-in-Bind.own
    c.in-Bind.is c.in_ok-own-in-Bind.ensures.first c.in_ok-own-in-Bind.ensures.same c.in_ok-own-in-Bind.ensures.kinds z)
    (λ z. subst IsGuardUncovered (sym c.in-Bind.is) (cover.in_guard_bind c.in-Bind.pat c.in-Bind.exp z))
    c.in_err-infer_exp-in-Bind.ensures.err)

pub infer_guard-returns-in_err-scope-in-Bind-clause-err : goal.infer_guard-returns-in_err-scope-in-Bind-clause-err
infer_guard-returns-in_err-scope-in-Bind-clause-err t c =
    let p = err_from_is_err_and c.from_residual-in_err-scope-in-Bind.result
    c.from_residual-in_err-scope-in-Bind.ensures.1 in
    rw p.1 (explains_failure _ p.0 p.2 (λ z. scope.bind_guard_pat_err c.args.names.now c.args.env.now c.args.state.now
    c.fresh.new.self c.args.guard.now c.in-Bind.pat c.in-Bind.exp c.in_ok-own-in-Bind.own
    c.in-Bind.is c.in_ok-own-in-Bind.ensures.first c.in_ok-own-in-Bind.ensures.same c.in_ok-own-in-Bind.ensures.kinds
    (state_of c.infer_exp-in-Bind.new.state) c.in_ok-infer_exp-in-Bind.ensures.ok
    (c.in_err-scope-in-Bind.ensures.none z)))

pub infer_guard-returns-in_ok-scope-in-Bind-clause-ok : goal.infer_guard-returns-in_ok-scope-in-Bind-clause-ok
infer_guard-returns-in_ok-scope-in-Bind-clause-ok t c = scope.bind_guard_ok c.args.names.now c.args.env.now
    c.args.state.now c.fresh.new.self c.args.guard.now c.in-Bind.pat c.in-Bind.exp c.in_ok-own-in-Bind.own
    c.in-Bind.is c.in_ok-own-in-Bind.ensures.first c.in_ok-own-in-Bind.ensures.same c.in_ok-own-in-Bind.ensures.kinds
    (state_of c.infer_exp-in-Bind.new.state) (state_of c.enter_pattern.new.state) c.in_ok-scope-in-Bind.scope.items
    c.in_ok-infer_exp-in-Bind.ensures.ok c.in_ok-scope-in-Bind.ensures.ok
