use Rattle.std.proofs.Common.{◌∷◌, ◌∙◌, ap, sym}
use Rattle.std.proofs.lemmas.Result.{err_from_is_err_and}
use Rattle.hs_tokens.specs.declared.terminal.Terminal.TheVariants as t
use Rattle.hs_block_forms.proofs.BodyLemmas.{gda_guards_failed}
use Rattle.hs_block_forms.proofs.TokenLemmas.{bar_led}
use Rattle.hs_blocks.proofs.guards.read_gda.Goals as goal

pub returns-in_err-guards : goal.returns-in_err-guards
returns-in_err-guards g c =
    let led = bar_led c.args.tokens.now c.requires.starts ∙ ap (λ l. t.Bar ∷ l) (sym c.after.ensures) in
    let p = err_from_is_err_and c.from_residual.result c.from_residual.ensures.1 in
    rw (p.1, p.2) (gda_guards_failed c.args.limit c.args.tokens.now _ led _ c.in_err-guards.ensures)

pub returns : goal.returns
returns g c =
    let led = bar_led c.args.tokens.now c.requires.starts ∙ ap (λ l. t.Bar ∷ l) (sym c.after.ensures) in
    c.read_arrow_exp.ensures c.args.tokens.now _ led c.in_ok-guards.ensures
