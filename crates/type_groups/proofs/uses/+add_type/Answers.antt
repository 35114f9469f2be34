use Rattle.type_unify.proofs.StackingLemmas.{OnOk-then}
use Rattle.kind_check.specs.Scopes.{decls_of}
use Rattle.type_groups.proofs.UseLemmas.{variable_none, name_none, name_found, parts_used}
use Rattle.type_groups.proofs.uses.+add_type.Goals as goal

pub returns-in-WVar : goal.returns-in-WVar
returns-in-WVar t c ps = variable_none (decls_of c.args.decls.now) ps c.args.ty.now _ _ c.in-WVar.is

pub returns-in-Some : goal.returns-in-Some
returns-in-Some t c =
    OnOk-then c.put_once.result
    (λ e ps. name_found (decls_of c.args.decls.now) ps c.args.ty.now c.in-WCon.name c.in-Some.index _ _ c.in-WCon.is
    c.in-Some.ensures e) c.put_once.ensures

pub returns-in-None : goal.returns-in-None
returns-in-None t c ps =
    name_none (decls_of c.args.decls.now) ps c.args.ty.now c.in-WCon.name _ c.in-WCon.is c.in-None.ensures

pub returns-in_ok-add_type-in-WApp : goal.returns-in_ok-add_type-in-WApp
returns-in_ok-add_type-in-WApp t c =
    OnOk-then c.add_type-in-WApp.result
    (λ e ps. parts_used (decls_of c.args.decls.now) ps c.args.ty.now _ _ _ _ _ _ _ c.in-WApp.is c.get.ensures
    c.get-in-WApp.ensures (c.in_ok-add_type-in-WApp.ensures ps) (e ps)) c.add_type-in-WApp.ensures
