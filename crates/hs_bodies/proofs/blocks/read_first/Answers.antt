use Rattle.std.proofs.Common.{sym, subst}
use Rattle.hs_tokens.specs.declared.terminal.Terminal.TheVariants as t
use Rattle.hs_readers.specs.Answers.{Answers}
use Rattle.hs_expression_forms.specs.Trees.{sort_of, behind_token}
use Rattle.hs_body_forms.specs.Bodies.{parts}
use Rattle.hs_body_forms.proofs.ModuleLemmas.{no_block}
use Rattle.hs_bodies.proofs.blocks.read_first.Goals as goal

pub returns-in_default : goal.returns-in_default
returns-in_default c = no_block c.args.limit c.args.tokens.now c.in_default.ensures

pub returns : goal.returns
returns c =
    subst (λ ts. Answers (sort_of (behind_token t.LeftBrace parts) c.args.limit) ts c.read_top_part.result)
    (sym c.in-Some.ensures) (c.read_top_part.ensures t.LeftBrace)
