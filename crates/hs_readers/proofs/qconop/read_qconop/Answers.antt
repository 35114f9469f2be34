use Rattle.std.proofs.Common.{◌∙◌, ap, subst}
use Rattle.hs_forms.specs.Reading.{begins}
use Rattle.hs_forms.specs.Answers.{Rejects}
use Rattle.hs_tokens.specs.Terminals.{starts_qconop}
use Rattle.hs_trees.specs.Patterns.{qconop_form}
use Rattle.hs_trees.proofs.PatternReturnLemmas.{qconop_none, no_qconop, empty_begins}
use Rattle.hs_readers.proofs.qconop.read_qconop.Goals as goal

pub returns-in_default : goal.returns-in_default
returns-in_default c =
    subst (λ n. Rejects qconop_form c.args.tokens.now n) c.in_default.ensures.cases
    (qconop_none c.args.tokens.now (empty_begins starts_qconop c.args.tokens.now c.in_default.ensures.cases))

pub returns-in_default-first : goal.returns-in_default-first
returns-in_default-first c =
    qconop_none c.args.tokens.now
    (ap (begins starts_qconop) c.in-Some.ensures.cases.0
    ∙ no_qconop c.in-Some.first.now c.in_default-first.not-ConSym c.in_default-first.not-Colon
    c.in_default-first.not-Backquote)
