-- Each refusal is a lemma of `QOpReturnLemmas`.
use Rattle.std.proofs.Common.{◌∷◌, ◌∙◌, ap, subst, sym}
use Rattle.hs_forms.specs.Reading.{begins}
use Rattle.hs_forms.specs.Answers.{Rejects}
use Rattle.hs_tokens.specs.declared.terminal.Terminal.TheVariants.{Backquote}
use Rattle.hs_expression_forms.specs.Trees.{within}
use Rattle.hs_expression_forms.specs.Expressions.{qops}
use Rattle.hs_trees.proofs.PatternReturnLemmas.{empty_begins}
use Rattle.hs_expressions.proofs.QOpReturnLemmas.{quoted_none, quoted_open, not_quotable}
use Rattle.hs_expressions.specs.Leaves.{is_quotable}
use Rattle.hs_expressions.proofs.qop.read_quoted.Goals as goal

pub returns-in_default : goal.returns-in_default
returns-in_default c = λ limit.
    subst (λ n. Rejects (within qops limit) (Backquote ∷ c.args.tokens.now) n) c.in_default.ensures.cases
    (quoted_none limit c.args.tokens.now (empty_begins is_quotable c.args.tokens.now c.in_default.ensures.cases))

pub returns-then-not-is_quotable : goal.returns-then-not-is_quotable
returns-then-not-is_quotable c = λ limit.
    quoted_none limit c.args.tokens.now
    (ap (begins is_quotable) c.in-Some.ensures.cases.0 ∙ sym c.is_quotable.ensures ∙ c.if-not-is_quotable.true)

pub returns-in_default-after_backquote : goal.returns-in_default-after_backquote
returns-in_default-after_backquote c = λ limit.
    quoted_open limit c.in-Some.name.now c.args.tokens.now c.in-Some.rest.now
    (sym c.is_quotable.ensures ∙ c.if-not-is_quotable.false) c.in-Some.ensures.cases.0
    c.in_default-after_backquote.ensures

pub returns-in_default-name : goal.returns-in_default-name
returns-in_default-name c = λ limit.
    quoted_none limit c.args.tokens.now
    (ap (begins is_quotable) c.in-Some.ensures.cases.0
    ∙ not_quotable c.in-Some.name.now c.in_default-name.not-Var c.in_default-name.not-QVar
    c.in_default-name.not-Con)
