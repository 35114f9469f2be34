-- Which operands are open is a lemma each of `OpenLemmas`.
use Rattle.std.proofs.Common.{◌∙◌, ap, sym}
use Rattle.hs_modules.specs.Formed.{facts_of_operand}
use Rattle.hs_expression_forms.proofs.OpenLemmas.{lambda_open, let_open, if_open, case_shut, apply_shut}
use Rattle.hs_expressions.proofs.chain_leaf.is_open.Goals as goal

pub returns-in-Lambda : goal.returns-in-Lambda
returns-in-Lambda c = sym (ap (λ x. (facts_of_operand x).is_open) c.in-Lambda.is ∙ lambda_open _)

pub returns-in-Let : goal.returns-in-Let
returns-in-Let c = sym (ap (λ x. (facts_of_operand x).is_open) c.in-Let.is ∙ let_open _)

pub returns-in-If : goal.returns-in-If
returns-in-If c = sym (ap (λ x. (facts_of_operand x).is_open) c.in-If.is ∙ if_open _)

pub returns-in-Case : goal.returns-in-Case
returns-in-Case c = sym (ap (λ x. (facts_of_operand x).is_open) c.in-Case.is ∙ case_shut _)

pub returns-in-Apply : goal.returns-in-Apply
returns-in-Apply c = sym (ap (λ x. (facts_of_operand x).is_open) c.in-Apply.is ∙ apply_shut _ _)
