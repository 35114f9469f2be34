-- Each refusal is a lemma of `QOpReturnLemmas`.
use Rattle.std.proofs.Common.{◌∷◌, ◌∙◌, ap, subst, sym}
use Rattle.hs_forms.specs.Reading.{begins}
use Rattle.hs_forms.specs.Answers.{Rejects}
use Rattle.hs_readers.specs.Answers.{Answers}
use Rattle.hs_expression_forms.specs.Trees.{within, sort_of}
use Rattle.hs_expression_forms.specs.Expressions.{qops, starts_qop}
use Rattle.hs_trees.proofs.PatternReturnLemmas.{empty_begins}
use Rattle.hs_expressions.proofs.QOpReturnLemmas.{qop_none, no_qop}
use Rattle.hs_expressions.proofs.qop.read_qop.Goals as goal

pub returns-in_default : goal.returns-in_default
returns-in_default c = λ limit.
    subst (λ n. Rejects (within qops limit) c.args.tokens.now n) c.in_default.ensures.cases
    (qop_none limit c.args.tokens.now (empty_begins starts_qop c.args.tokens.now c.in_default.ensures.cases))

pub returns-in-Backquote : goal.returns-in-Backquote
returns-in-Backquote c = λ limit.
    subst (λ ts. Answers (sort_of qops limit) ts c.read_quoted.result)
    (sym (c.in-Some.ensures.cases.0 ∙ ap (λ k. k ∷ c.in-Some.rest.now) c.in-Backquote.is)) (c.read_quoted.ensures limit)

pub returns-in_default-first : goal.returns-in_default-first
returns-in_default-first c = λ limit.
    qop_none limit c.args.tokens.now
    (ap (begins starts_qop) c.in-Some.ensures.cases.0
    ∙ no_qop c.in-Some.first.now c.in_default-first.not-VarSym c.in_default-first.not-QVarSym
    c.in_default-first.not-ConSym c.in_default-first.not-Colon c.in_default-first.not-Backquote)
