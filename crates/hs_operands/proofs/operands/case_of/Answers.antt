-- A lemma of `LedLemmas`.
use Rattle.std.proofs.Common.{refl}
use Rattle.hs_tokens.specs.declared.terminal.Terminal.TheVariants as t
use Rattle.hs_tokens.specs.declared.word.Word.TheVariants as w
use Rattle.hs_expression_forms.specs.Expressions.{alt_blocks, exps}
use Rattle.hs_expression_forms.proofs.OperandLayerLemmas.{make_case}
use Rattle.hs_expression_forms.proofs.OperandLemmas.{case_makes}
use Rattle.hs_expression_forms.proofs.RowLemmas.{block_follows, exp_ends, is_left_brace}
use Rattle.hs_expressions.specs.Leaves.{is_of}
use Rattle.hs_operand_forms.proofs.LedLemmas.{led_ok}
use Rattle.hs_operands.proofs.operands.case_of.Goals as goal

pub returns : goal.returns
returns c = λ limit ts next room front at behind.
    rw (c.max.ensures, c.in_ok-scrutinee.ensures) (
    led_ok (t.Word w.Case) (t.Word w.Of) exps alt_blocks make_case 4 case_makes is_left_brace
    (block_follows exps (t.Word w.Of)) (exp_ends (t.Word w.Of) refl) is_of refl refl limit ts room _ refl
    c.args.exp.tree _ _ _ front at c.args.alts.tree _ _ behind)
