use Rattle.std.proofs.Common.{ap, ◌∙◌, arith, refl}
use Rattle.std.proofs.lemmas.Result.{err_from_is_err_and}
use Rattle.hs_core.specs.Types.{count}
use Rattle.kind_check.specs.Answers.{known_synonyms, sense_synonym}
use Rattle.kind_check.proofs.ScopeLemmas.{IfOk-then}
use Rattle.kind_check.proofs.ArmLemmas.{IfErr-then}
use Rattle.type_expand.specs.Expanding.{stacked_types}
use Rattle.type_expand.proofs.SizeLemmas.{arg_smaller, fun_smaller, body_smaller, some}
use Rattle.type_expand.proofs.ExpandLemmas.{alone, synonym_is, owe_arg, owe_fun, owe_body, done_var, done_name}
use Rattle.type_expand.proofs.ExpandLemmas.{done_synonym, done_app, no_fuel, too_few}
use Rattle.type_expand.proofs.replace.+expanded.Goals as goal

pub returns-then-fuel-eq0-clause-none : goal.returns-then-fuel-eq0-clause-none
returns-then-fuel-eq0-clause-none t c =
    let s = c.in-Some-SynonymOf in
    let q = synonym_is _ s.field-0.now _ s.params s.body s.ensures.some s.field-0-is in
    λ z. no_fuel (known_synonyms c.args.known.now) c.args.ty.now s.body c.in-Con.name c.in-Con.kind s.params c.args.fuel
    (count c.args.args) c.in-Con.is q c.if-fuel-eq0.true

pub returns-then-len-params-clause-none : goal.returns-then-len-params-clause-none
returns-then-len-params-clause-none t c =
    let s = c.in-Some-SynonymOf in
    let q = synonym_is _ s.field-0.now _ s.params s.body s.ensures.some s.field-0-is in
    λ z. too_few (known_synonyms c.args.known.now) c.args.ty.now s.body c.in-Con.name c.in-Con.kind s.params c.args.fuel
    c.args.args c.in-Con.is q (let l = c.len.ensures in omega (arith, l, c.if-len-params.true))

pub expanded-requires : goal.expanded-requires
expanded-requires t c =
    let s = c.in-Some-SynonymOf in
    let q = synonym_is _ s.field-0.now _ s.params s.body s.ensures.some s.field-0-is in
    let m = body_smaller c.args.known.now c.in-Con.name c.in-Con.kind s.params c.args.fuel c.args.ty.now s.body
    c.in-Con.is q (some c.args.fuel c.if-fuel-eq0.false) in (omega (arith, m, c.decreases), tt)

pub returns-in_err-whole-in-Some-SynonymOf-clause-none : goal.returns-in_err-whole-in-Some-SynonymOf-clause-none
returns-in_err-whole-in-Some-SynonymOf-clause-none t c =
    let r = c.from_residual-in_err-whole-in-Some-SynonymOf in
    let p = err_from_is_err_and r.result r.ensures.1 in
    let s = c.in-Some-SynonymOf in
    let q = synonym_is _ s.field-0.now _ s.params s.body s.ensures.some s.field-0-is in
    rw (p.1, p.2)
    (λ z can. c.in_err-whole-in-Some-SynonymOf.ensures.none z
    (owe_body (known_synonyms c.args.known.now) c.args.ty.now s.body c.in-Con.name c.in-Con.kind s.params c.args.fuel
    c.args.args c.new.result c.in-Con.is c.new.ensures q can))

pub expanded-requires-in-App : goal.expanded-requires-in-App
expanded-requires-in-App t c =
    let m = arg_smaller c.args.known.now c.args.fuel c.args.ty.now c.in-App.fun c.in-App.arg c.get.result.now
    c.in-App.is
    c.get.ensures in (omega (arith, m, c.decreases), tt)

pub returns-in_err-own-in-App-clause-none : goal.returns-in_err-own-in-App-clause-none
returns-in_err-own-in-App-clause-none t c =
    let r = c.from_residual-in_err-own-in-App in
    let p = err_from_is_err_and r.result r.ensures.1 in
    rw (p.1, p.2)
    (λ z can. c.in_err-own-in-App.ensures.none z
    (owe_arg (known_synonyms c.args.known.now) c.args.ty.now c.in-App.fun c.in-App.arg c.get.result.now c.args.args
    c.new-in-App.result c.args.fuel c.in-App.is c.get.ensures c.new-in-App.ensures can))

pub expanded-requires-in-App-2 : goal.expanded-requires-in-App-2
expanded-requires-in-App-2 t c =
    let m = fun_smaller c.args.known.now c.args.fuel c.args.ty.now c.in-App.fun c.in-App.arg c.get-in-App.result.now
    c.in-App.is c.get-in-App.ensures in (omega (arith, m, c.decreases), tt)

pub returns-in_ok-apply_all-in-Var-clause-ok : goal.returns-in_ok-apply_all-in-Var-clause-ok
returns-in_ok-apply_all-in-Var-clause-ok t c =
    done_var (known_synonyms c.args.known.now) c.args.ty.now _ c.in_ok-apply_all-in-Var.field-0 c.in-Var.index
    (stacked_types c.args.args) c.in-Var.is refl c.in_ok-apply_all-in-Var.ensures

pub returns-in_ok-instance-in-Some-SynonymOf-clause-ok : goal.returns-in_ok-instance-in-Some-SynonymOf-clause-ok
returns-in_ok-instance-in-Some-SynonymOf-clause-ok t c =
    let s = c.in-Some-SynonymOf in
    let q = synonym_is _ s.field-0.now _ s.params s.body s.ensures.some s.field-0-is in
    done_synonym (known_synonyms c.args.known.now) c.args.ty.now c.in_ok-instance-in-Some-SynonymOf.field-0
    c.in_ok-whole-in-Some-SynonymOf.whole c.in-Con.name c.in-Con.kind s.params _ c.args.args c.in-Con.is q
    (let l = c.len.ensures in omega (arith, l, c.if-len-params.false))
    (alone (known_synonyms c.args.known.now) _ _ c.new.result c.new.ensures
    c.in_ok-whole-in-Some-SynonymOf.ensures.ok) c.in_ok-instance-in-Some-SynonymOf.ensures

pub returns-in_ok-apply_all-in-Some-TypeOf-clause-ok : goal.returns-in_ok-apply_all-in-Some-TypeOf-clause-ok
returns-in_ok-apply_all-in-Some-TypeOf-clause-ok t c =
    done_name (known_synonyms c.args.known.now) c.args.ty.now c.in_ok-copied-in-Some-TypeOf.field-0
    c.in_ok-apply_all-in-Some-TypeOf.field-0 c.in-Con.name c.in-Con.kind (stacked_types c.args.args) c.in-Con.is
    c.in_ok-copied-in-Some-TypeOf.ensures
    (c.in-Some-TypeOf.ensures.some ∙ ap sense_synonym c.in-Some-TypeOf.field-0-is)
    c.in_ok-apply_all-in-Some-TypeOf.ensures

pub returns-in_ok-apply_all-in-Some-Other-clause-ok : goal.returns-in_ok-apply_all-in-Some-Other-clause-ok
returns-in_ok-apply_all-in-Some-Other-clause-ok t c =
    done_name (known_synonyms c.args.known.now) c.args.ty.now c.in_ok-copied-in-Some-Other.field-0
    c.in_ok-apply_all-in-Some-Other.field-0 c.in-Con.name c.in-Con.kind (stacked_types c.args.args) c.in-Con.is
    c.in_ok-copied-in-Some-Other.ensures (c.in-Some-Other.ensures.some ∙ ap sense_synonym c.in-Some-Other.field-0-is)
    c.in_ok-apply_all-in-Some-Other.ensures

pub returns-in_ok-apply_all-in-None-clause-ok : goal.returns-in_ok-apply_all-in-None-clause-ok
returns-in_ok-apply_all-in-None-clause-ok t c =
    done_name (known_synonyms c.args.known.now) c.args.ty.now c.in_ok-copied-in-None.field-0
    c.in_ok-apply_all-in-None.field-0 c.in-Con.name c.in-Con.kind (stacked_types c.args.args) c.in-Con.is
    c.in_ok-copied-in-None.ensures c.in-None.ensures.none c.in_ok-apply_all-in-None.ensures

pub returns-in_ok-push-in-App-clause-ok : goal.returns-in_ok-push-in-App-clause-ok
returns-in_ok-push-in-App-clause-ok t c =
    IfOk-then c.expanded-in-App-2.result
    (λ u e. done_app (known_synonyms c.args.known.now) c.args.ty.now c.in-App.fun c.in-App.arg c.get-in-App.result.now
    c.get.result.now c.in_ok-own-in-App.own c.args.args c.new-in-App.result c.push.new.self _ c.in-App.is
    c.get-in-App.ensures c.get.ensures c.new-in-App.ensures c.in_ok-push-in-App.ensures.ok
    c.in_ok-own-in-App.ensures.ok e) c.expanded-in-App-2.ensures.ok

pub returns-in_ok-push-in-App-clause-none : goal.returns-in_ok-push-in-App-clause-none
returns-in_ok-push-in-App-clause-none t c =
    IfErr-then c.expanded-in-App-2.result
    (λ e none z can. none z
    (owe_fun (known_synonyms c.args.known.now) c.args.ty.now c.in-App.fun c.in-App.arg c.get-in-App.result.now
    c.in_ok-own-in-App.own c.args.args c.push.new.self c.args.fuel c.in-App.is c.get-in-App.ensures
    c.in_ok-push-in-App.ensures.ok can)) c.expanded-in-App-2.ensures.none
