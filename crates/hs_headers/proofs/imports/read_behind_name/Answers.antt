use Rattle.std.proofs.Common.{sym, ◌∙◌, ◌∷◌, refl}
use Rattle.std.proofs.lemmas.Result.{err_from_is_err_and}
use Rattle.hs_tokens.specs.declared.terminal.Terminal.TheVariants as t
use Rattle.hs_headers.proofs.TurnLemmas.{turn_ok, turn_fails}
use Rattle.hs_headers.proofs.ImportLemmas.{name_listed, alias_open}
use Rattle.hs_headers.proofs.imports.read_behind_name.Goals as goal

pub returns-in_default-after_con : goal.returns-in_default-after_con
returns-in_default-after_con c =
    alias_open c.args.name.now c.args.tokens.now _ c.in-Some.ensures c.in_default-after_con.ensures

pub returns-in_err-list : goal.returns-in_err-list
returns-in_err-list c =
    let p = err_from_is_err_and c.from_residual-in_err-list.result c.from_residual-in_err-list.ensures.1 in
    rw (p.1, p.2) (turn_fails _ _ _ _ _ _ (name_listed c.args.name.now) (t.Con c.args.name.now ∷ c.args.tokens.now) _ _
    (refl)
    (sym c.begins_list.ensures ∙ c.if-not-begins_list.false)
    c.in_err-list.ensures)

pub returns : goal.returns
returns c =
    rw (c.in_ok-modid.ensures, c.as_bytes.ensures) (turn_ok _ _ _ _ _ _
    (name_listed c.args.name.now) (t.Con c.args.name.now ∷ c.args.tokens.now) _ _ _ _ refl (sym
    c.begins_list.ensures ∙ c.if-not-begins_list.false) c.in_ok-list.ensures)
