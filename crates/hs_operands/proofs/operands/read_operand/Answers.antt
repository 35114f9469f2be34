-- By the token that stands first.
use Rattle.std.proofs.Common.{◌∙◌, sym, subst}
use Rattle.hs_readers.specs.Answers.{Answers}
use Rattle.hs_expression_forms.specs.Trees.{sort_of}
use Rattle.hs_expression_forms.specs.Expressions.{operands}
use Rattle.hs_operand_forms.proofs.LedLemmas.{operand_none}
use Rattle.hs_operands.proofs.NoneLemmas.{no_operand}
use Rattle.hs_operands.proofs.operands.read_operand.Goals as goal

pub returns-in-Some : goal.returns-in-Some
returns-in-Some g c =
    subst (λ ts. Answers (sort_of operands c.args.limit) ts c.read_lambda.result) (sym c.in-Some.ensures)
    c.read_lambda.ensures

pub returns-in-Some-after_let : goal.returns-in-Some-after_let
returns-in-Some-after_let g c =
    subst (λ ts. Answers (sort_of operands c.args.limit) ts c.read_let.result) (sym c.in-Some-after_let.ensures)
    c.read_let.ensures

pub returns-in-Some-after_if : goal.returns-in-Some-after_if
returns-in-Some-after_if g c =
    subst (λ ts. Answers (sort_of operands c.args.limit) ts c.read_if.result) (sym c.in-Some-after_if.ensures)
    c.read_if.ensures

pub returns-in-Some-after_case : goal.returns-in-Some-after_case
returns-in-Some-after_case g c =
    subst (λ ts. Answers (sort_of operands c.args.limit) ts c.read_case.result) (sym c.in-Some-after_case.ensures)
    c.read_case.ensures

pub returns : goal.returns
returns g c =
    operand_none c.args.limit c.args.tokens.now (no_operand c.args.tokens.now c.in_default.ensures
    c.in_default-after_let.ensures c.in_default-after_if.ensures c.in_default-after_case.ensures
    (sym c.begins_aexp.ensures ∙ c.if-begins_aexp.false))
