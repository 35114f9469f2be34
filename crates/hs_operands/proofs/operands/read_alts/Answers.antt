-- Where no block of alternatives stands is a lemma of `LedLemmas`.
use Rattle.std.proofs.Common.{refl, subst}
use Rattle.std.proofs.lemmas.Result.{err_from_is_err_and}
use Rattle.hs_tokens.specs.declared.terminal.Terminal.TheVariants as t
use Rattle.hs_tokens.specs.declared.word.Word.TheVariants as w
use Rattle.hs_expression_forms.specs.Trees.{Took, Failed}
use Rattle.hs_expression_forms.specs.Expressions.{alt_blocks, exps}
use Rattle.hs_expression_forms.proofs.OperandLayerLemmas.{make_case}
use Rattle.hs_expression_forms.proofs.OperandLemmas.{case_makes}
use Rattle.hs_expression_forms.proofs.RowLemmas.{block_follows, exp_ends, is_left_brace}
use Rattle.hs_expressions.specs.Leaves.{is_of}
use Rattle.hs_operand_forms.proofs.LedLemmas.{led_second}
use Rattle.hs_operands.proofs.operands.read_alts.Goals as goal

pub returns-in_err-alts : goal.returns-in_err-alts
returns-in_err-alts g c = λ ts room front at.
    let p = err_from_is_err_and c.from_residual.result c.from_residual.ensures.1 in
    rw (p.1, p.2) (
    led_second (t.Word w.Case) (t.Word w.Of) exps alt_blocks make_case 4 case_makes is_left_brace
    (block_follows exps (t.Word w.Of)) (exp_ends (t.Word w.Of) refl) is_of refl refl c.args.limit ts
    room _ refl c.args.exp.tree _ _ _ front at _
    (subst (λ l. Failed alt_blocks l c.args.tokens.now c.in_err-alts.field-0.0) c.lower.ensures
    (c.requires.says_alts _ _ _ c.in_err-alts.ensures)))

pub returns : goal.returns
returns g c = λ ts room front at.
    c.case_of.ensures c.args.limit ts c.args.tokens.now room front at
    (subst (λ l. Took alt_blocks l c.args.tokens.now c.in_ok-alts.alts.tree c.in_ok-alts.alts.rest.now
    c.in_ok-alts.alts.depth) c.lower.ensures (c.requires.says_alts _ _ _ c.in_ok-alts.ensures))
