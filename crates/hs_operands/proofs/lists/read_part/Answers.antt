use Rattle.std.proofs.Common.{◌∷◌, ◌∙◌, ap, sym}
use Rattle.hs_tokens.specs.declared.terminal.Terminal.TheVariants.{Comma}
use Rattle.hs_readers.proofs.AnswerLemmas.{behind_answers, comma_led}
use Rattle.hs_expression_forms.specs.Trees.{sort_of}
use Rattle.hs_expression_forms.specs.Expressions.{exps}
use Rattle.hs_operands.proofs.lists.read_part.Goals as goal

pub returns : goal.returns
returns g c =
    let led = comma_led c.args.tokens.now c.requires.starts ∙ ap (λ l. Comma ∷ l) (sym c.after.ensures) in
    behind_answers Comma (sort_of exps c.args.limit) c.args.tokens.now _ c.read_exp.result led c.read_exp.ensures
