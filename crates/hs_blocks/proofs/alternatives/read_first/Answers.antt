use Rattle.std.proofs.Common.{sym, subst}
use Rattle.hs_tokens.specs.declared.terminal.Terminal.TheVariants as t
use Rattle.hs_readers.specs.Answers.{Answers}
use Rattle.hs_expression_forms.specs.Trees.{sort_of, behind_token}
use Rattle.hs_block_forms.specs.Blocks.{alt_slots}
use Rattle.hs_blocks.proofs.PartsLemmas.{no_brace}
use Rattle.hs_blocks.proofs.alternatives.read_first.Goals as goal

pub returns-in_default : goal.returns-in_default
returns-in_default g c = no_brace c.args.limit c.args.tokens.now c.in_default.ensures

pub returns : goal.returns
returns g c =
    subst (λ ts. Answers (sort_of (behind_token t.LeftBrace alt_slots) c.args.limit) ts c.read_alt_slot.result)
    (sym c.in-Some.ensures) (c.read_alt_slot.ensures t.LeftBrace)
