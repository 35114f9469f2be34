use Rattle.std.proofs.Common.{◌∷◌, ◌∙◌, ap, sym, subst}
use Rattle.hs_tokens.specs.declared.terminal.Terminal.TheVariants as t
use Rattle.hs_readers.specs.Answers.{Answers}
use Rattle.hs_expression_forms.specs.Trees.{sort_of, behind_token}
use Rattle.hs_binding_forms.specs.Bindings.{decl_slots}
use Rattle.hs_block_forms.proofs.TokenLemmas.{semicolon_led}
use Rattle.hs_bindings.proofs.blocks.read_more.Goals as goal

pub returns : goal.returns
returns g c =
    let led = semicolon_led c.args.tokens.now c.requires.starts
    ∙ ap (λ l. t.Semicolon ∷ l) (sym c.after.ensures) in
    subst (λ ts. Answers (sort_of (behind_token t.Semicolon decl_slots) c.args.limit) ts c.read_decl_slot.result)
    (sym led) (c.read_decl_slot.ensures t.Semicolon)
