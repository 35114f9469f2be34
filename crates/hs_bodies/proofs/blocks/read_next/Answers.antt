use Rattle.std.proofs.Common.{◌∷◌, ◌∙◌, ap, sym, subst}
use Rattle.hs_tokens.specs.declared.terminal.Terminal.TheVariants as t
use Rattle.hs_readers.specs.Answers.{Answers}
use Rattle.hs_expression_forms.specs.Trees.{sort_of, behind_token}
use Rattle.hs_body_forms.specs.Bodies.{parts}
use Rattle.hs_bodies.proofs.SlotLemmas.{semicolon_led}
use Rattle.hs_bodies.proofs.blocks.read_next.Goals as goal

pub returns : goal.returns
returns c =
    let led = semicolon_led c.args.tokens.now c.requires ∙ ap (λ l. t.Semicolon ∷ l) (sym c.after.ensures) in
    subst (λ ts. Answers (sort_of (behind_token t.Semicolon parts) c.args.limit) ts c.read_top_part.result) (sym led)
    (c.read_top_part.ensures t.Semicolon)
