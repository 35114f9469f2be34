-- Each way is a lemma of `EndsLemmas`.
use Rattle.std.proofs.Common.{◌∙◌, ap, sym}
use Rattle.std.specs.Prelude.{map}
use Rattle.hs_modules.specs.Formed.{facts_of_exp, facts_of_link, facts_of_operand, facts_of_signed, last_of}
use Rattle.hs_modules.specs.declared.expressions.InfixTree.{out-InfixTree}
use Rattle.hs_blocks.proofs.EndsLemmas.{lambda_type, let_type, if_type, case_type, apply_type, infix_type}
use Rattle.hs_blocks.proofs.EndsLemmas.{annotated_type, link_type, first_type, chain_type, type_more}
use Rattle.hs_blocks.proofs.ends.+ends.Goals as goal

pub chain_ends_in_type-returns : goal.chain_ends_in_type-returns
chain_ends_in_type-returns t c =
    let first = (out-InfixTree c.args.chain.now).first in
    c.links_end_in_type.ensures (facts_of_signed first) (c.operand_ends_in_type-first.ensures ∙ first_type first)
    ∙ ap (λ xs. (last_of (facts_of_signed first) (map facts_of_link xs)).ends_in_type) c.as_slice.ensures
    ∙ chain_type c.args.chain.now

pub links_end_in_type-loop-link-preserved : goal.links_end_in_type-loop-link-preserved
links_end_in_type-loop-link-preserved t c = λ first is.
    c.link_ends_in_type-ends.ensures
    ∙ type_more first c.args.links.now c.loop-link.link-index c.link-item.result c.loop-link-test.true c.link-item.is

pub link_ends_in_type-returns : goal.link_ends_in_type-returns
link_ends_in_type-returns t c = c.operand_ends_in_type.ensures ∙ link_type c.args.link.now

pub exp_ends_in_type-returns-in-Infix : goal.exp_ends_in_type-returns-in-Infix
exp_ends_in_type-returns-in-Infix t c =
    c.chain_ends_in_type.ensures ∙ infix_type _ ∙ ap (λ y. (facts_of_exp y).ends_in_type) (sym c.in-Infix.is)

pub exp_ends_in_type-returns-in-Annotated : goal.exp_ends_in_type-returns-in-Annotated
exp_ends_in_type-returns-in-Annotated t c =
    annotated_type _ _ ∙ ap (λ y. (facts_of_exp y).ends_in_type) (sym c.in-Annotated.is)

pub operand_ends_in_type-returns-in-Lambda : goal.operand_ends_in_type-returns-in-Lambda
operand_ends_in_type-returns-in-Lambda t c =
    c.exp_ends_in_type.ensures ∙ ap (λ y. (facts_of_exp y).ends_in_type) c.get.ensures ∙ lambda_type c.in-Lambda.lambda
    ∙ ap (λ y. (facts_of_operand y).ends_in_type) (sym c.in-Lambda.is)

pub operand_ends_in_type-returns-in-Let : goal.operand_ends_in_type-returns-in-Let
operand_ends_in_type-returns-in-Let t c =
    c.exp_ends_in_type-in-Let.ensures ∙ ap (λ y. (facts_of_exp y).ends_in_type) c.get-in-Let.ensures
    ∙ let_type c.in-Let.bindings ∙ ap (λ y. (facts_of_operand y).ends_in_type) (sym c.in-Let.is)

pub operand_ends_in_type-returns-in-If : goal.operand_ends_in_type-returns-in-If
operand_ends_in_type-returns-in-If t c =
    c.exp_ends_in_type-in-If.ensures ∙ ap (λ y. (facts_of_exp y).ends_in_type) c.get-in-If.ensures
    ∙ if_type c.in-If.branches ∙ ap (λ y. (facts_of_operand y).ends_in_type) (sym c.in-If.is)

pub operand_ends_in_type-returns-in-Case : goal.operand_ends_in_type-returns-in-Case
operand_ends_in_type-returns-in-Case t c =
    case_type c.in-Case.field-0 ∙ ap (λ y. (facts_of_operand y).ends_in_type) (sym c.in-Case.is)

pub operand_ends_in_type-returns-in-Apply : goal.operand_ends_in_type-returns-in-Apply
operand_ends_in_type-returns-in-Apply t c =
    apply_type _ _ ∙ ap (λ y. (facts_of_operand y).ends_in_type) (sym c.in-Apply.is)
