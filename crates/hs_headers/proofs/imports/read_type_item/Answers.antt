use Rattle.std.proofs.Common.{sym, ◌∙◌, ◌∷◌, refl}
use Rattle.std.proofs.lemmas.Result.{err_from_is_err_and}
use Rattle.hs_tokens.specs.declared.terminal.Terminal.TheVariants as t
use Rattle.hs_headers.proofs.TurnLemmas.{turn_ok, turn_fails}
use Rattle.hs_headers.proofs.ExportLemmas.{item_names}
use Rattle.hs_headers.proofs.imports.read_type_item.Goals as goal

pub returns-in_err-subs : goal.returns-in_err-subs
returns-in_err-subs c =
    let p = err_from_is_err_and c.from_residual-in_err-subs.result c.from_residual-in_err-subs.ensures.1 in
    rw (p.1, p.2) (turn_fails _ _ _ _ _ _ (item_names c.args.name.now c.requires) (t.Con c.args.name.now ∷
    c.args.tokens.now) _ _ refl (sym c.begins_left_paren.ensures ∙ c.if-not-begins_left_paren.false)
    c.in_err-subs.ensures)

pub returns : goal.returns
returns c =
    rw (c.in_ok-name.ensures, c.as_bytes.ensures) (turn_ok _ _ _ _ _ _ (item_names c.args.name.now c.requires)
    (t.Con c.args.name.now ∷ c.args.tokens.now) _ _ _ _ refl
    (sym c.begins_left_paren.ensures ∙ c.if-not-begins_left_paren.false) c.in_ok-subs.ensures)
