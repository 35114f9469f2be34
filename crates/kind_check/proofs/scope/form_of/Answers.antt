use Rattle.std.proofs.Common.{sym, subst}
use Rattle.hs_core.specs.Types.{kind_term, count}
use Rattle.kind_check.specs.Scopes.{HasForm, decls_of}
use Rattle.kind_check.proofs.ScopeLemmas.{group_form, known_form, no_form}
use Rattle.kind_check.proofs.scope.form_of.Goals as goal

pub returns-in_ok-flex-in-Some : goal.returns-in_ok-flex-in-Some
returns-in_ok-flex-in-Some c =
    let p = c.in-Some.ensures in
    subst (HasForm c.args.known.now c.args.decls.now c.args.name.now (count (decls_of c.args.decls.now)))
    (sym c.in_ok-flex-in-Some.ensures)
    (group_form c.args.known.now c.args.decls.now c.args.name.now c.in-Some.index p.0 p.1)

pub returns-in_ok-term_of_kind-in-Some-known_kind : goal.returns-in_ok-term_of_kind-in-Some-known_kind
returns-in_ok-term_of_kind-in-Some-known_kind c =
    subst (HasForm c.args.known.now c.args.decls.now c.args.name.now (count (decls_of c.args.decls.now)))
    (sym c.in_ok-term_of_kind-in-Some-known_kind.ensures)
    (known_form c.args.known.now c.args.decls.now c.args.name.now (kind_term c.in-Some-known_kind.kind.now)
    c.in-None.ensures c.in-Some-known_kind.ensures.some)

pub returns-in-None-known_kind : goal.returns-in-None-known_kind
returns-in-None-known_kind c =
    no_form c.args.known.now c.args.decls.now c.args.name.now c.in-None.ensures c.in-None-known_kind.ensures.none
