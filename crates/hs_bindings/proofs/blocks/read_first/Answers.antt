use Rattle.std.proofs.Common.{sym, subst}
use Rattle.hs_tokens.specs.declared.terminal.Terminal.TheVariants as t
use Rattle.hs_readers.specs.Answers.{Answers}
use Rattle.hs_expression_forms.specs.Trees.{sort_of, behind_token}
use Rattle.hs_binding_forms.specs.Bindings.{decl_slots}
use Rattle.hs_binding_forms.proofs.DeclBlockLemmas.{no_brace}
use Rattle.hs_bindings.proofs.blocks.read_first.Goals as goal

pub returns-in_default : goal.returns-in_default
returns-in_default g c = no_brace c.args.limit c.args.tokens.now c.in_default.ensures

pub returns : goal.returns
returns g c =
    subst (λ ts. Answers (sort_of (behind_token t.LeftBrace decl_slots) c.args.limit) ts c.read_decl_slot.result)
    (sym c.in-Some.ensures) (c.read_decl_slot.ensures t.LeftBrace)
