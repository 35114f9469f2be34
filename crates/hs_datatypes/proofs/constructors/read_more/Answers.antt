use Rattle.std.proofs.Common.{◌∷◌, ◌∙◌, ap, sym}
use Rattle.hs_tokens.specs.declared.terminal.Terminal.TheVariants as t_of
use Rattle.hs_readers.proofs.AnswerLemmas.{behind_answers}
use Rattle.hs_expression_forms.specs.Trees.{sort_of}
use Rattle.hs_declaration_forms.specs.Datatypes.{constrs}
use Rattle.hs_declaration_forms.proofs.ConstrLemmas.{bar_led}
use Rattle.hs_datatypes.proofs.constructors.read_more.Goals as goal

pub returns : goal.returns
returns c =
    let led = bar_led c.args.tokens.now c.requires ∙ ap (λ l. t_of.Bar ∷ l) (sym c.after.ensures) in
    behind_answers t_of.Bar (sort_of constrs c.args.limit) c.args.tokens.now _ c.read_constr.result led
    c.read_constr.ensures
