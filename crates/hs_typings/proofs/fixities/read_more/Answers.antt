use Rattle.std.proofs.Common.{◌∷◌, ◌∙◌, ap, sym}
use Rattle.hs_tokens.specs.declared.terminal.Terminal.TheVariants as t_of
use Rattle.hs_readers.proofs.AnswerLemmas.{behind_answers, comma_led}
use Rattle.hs_expression_forms.specs.Trees.{sort_of}
use Rattle.hs_declaration_forms.specs.Typings.{ops}
use Rattle.hs_typings.proofs.fixities.read_more.Goals as goal

pub returns : goal.returns
returns c =
    let led = comma_led c.args.tokens.now c.requires ∙ ap (λ l. t_of.Comma ∷ l) (sym c.after.ensures) in
    behind_answers t_of.Comma (sort_of ops c.args.limit) c.args.tokens.now _ c.read_one.result led c.read_one.ensures
