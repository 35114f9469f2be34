use Rattle.std.proofs.Common.{sym, ◌∙◌, refl}
use Rattle.std.proofs.lemmas.Result.{err_from_is_err_and}
use Rattle.hs_headers.proofs.TurnLemmas.{turn_ok, turn_fails}
use Rattle.hs_headers.proofs.ImportLemmas.{alias_listed, alias_ok}
use Rattle.hs_headers.proofs.imports.read_behind_alias.Goals as goal

pub returns-then-not-begins_list : goal.returns-then-not-begins_list
returns-then-not-begins_list c =
    rw (c.in_ok-modid.ensures, c.as_bytes.ensures, c.in_ok-alias.ensures, c.as_bytes-2.ensures) (alias_ok
    c.args.name.now c.args.alias.now c.args.tokens.now (sym c.begins_list.ensures ∙ c.if-not-begins_list.true))

pub returns-in_err-list : goal.returns-in_err-list
returns-in_err-list c =
    let p = err_from_is_err_and c.from_residual-in_err-list.result c.from_residual-in_err-list.ensures.1 in
    rw (p.1, p.2) (turn_fails _ _ _ _ _ _ (alias_listed c.args.name.now c.args.alias.now) _ _ _
    (refl)
    (sym c.begins_list.ensures ∙ c.if-not-begins_list.false)
    c.in_err-list.ensures)

pub returns : goal.returns
returns c =
    rw (c.in_ok-modid.ensures, c.as_bytes.ensures, c.in_ok-alias.ensures, c.as_bytes-2.ensures) (turn_ok _ _ _ _ _ _
    (alias_listed c.args.name.now c.args.alias.now) _ _ _ _ _ refl (sym c.begins_list.ensures ∙
    c.if-not-begins_list.false) c.in_ok-list.ensures)
