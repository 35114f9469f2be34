use Rattle.std.proofs.Common.{◌∷◌, ◌∙◌, ap, sym}
use Rattle.hs_tokens.specs.declared.terminal.Terminal.TheVariants as t
use Rattle.hs_readers.proofs.AnswerLemmas.{behind_answers, comma_led}
use Rattle.hs_expression_forms.specs.Trees.{sort_of}
use Rattle.hs_block_forms.specs.Blocks.{guards}
use Rattle.hs_blocks.proofs.guards.read_more.Goals as goal

pub returns : goal.returns
returns g c =
    let led = comma_led c.args.tokens.now c.requires.starts ∙ ap (λ l. t.Comma ∷ l) (sym c.after.ensures) in
    behind_answers t.Comma (sort_of guards c.args.limit) c.args.tokens.now _ c.read_guard.result led
    c.read_guard.ensures
