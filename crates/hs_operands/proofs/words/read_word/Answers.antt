-- Each return is a lemma of `WordLemmas`.
use Rattle.std.proofs.Common.{◌∷◌, ◌∙◌, ap, subst, sym}
use Rattle.hs_trees.specs.declared.patterns.LiteralTree.TheVariants as l
use Rattle.hs_forms.specs.Reading.{begins}
use Rattle.hs_forms.specs.Answers.{Rejects}
use Rattle.hs_trees.proofs.PatternReturnLemmas.{empty_begins}
use Rattle.hs_expression_forms.specs.Trees.{within}
use Rattle.hs_expression_forms.specs.Expressions.{aexps, starts_aexp}
use Rattle.hs_operand_forms.specs.Brackets.{is_opening}
use Rattle.hs_operand_forms.proofs.WordLemmas.{aexp_none, no_word, var_took, qvar_took, con_took, literal_took}
use Rattle.hs_operands.proofs.words.read_word.Goals as goal

pub returns-in_default : goal.returns-in_default
returns-in_default c = λ limit.
    subst (λ n. Rejects (within aexps limit) c.args.tokens.now n) c.in_default.ensures.cases
    (aexp_none limit c.args.tokens.now (empty_begins starts_aexp c.args.tokens.now c.in_default.ensures.cases))

pub returns-in_default-first : goal.returns-in_default-first
returns-in_default-first c = λ limit.
    let is = c.in_default-first in
    let at = c.in-Some.ensures.cases.0 in
    aexp_none limit c.args.tokens.now
    (ap (begins starts_aexp) at
    ∙ no_word c.in-Some.first.now (sym (ap (begins is_opening) at) ∙ c.requires) is.not-Var is.not-QVar is.not-Con
    is.not-Integer is.not-Char is.not-Text)

pub returns-in_ok-from_bytes-in-Var : goal.returns-in_ok-from_bytes-in-Var
returns-in_ok-from_bytes-in-Var c = λ limit.
    rw (c.in_ok-from_bytes-in-Var.ensures, c.as_bytes.ensures) (var_took limit c.args.tokens.now c.in-Var.name
    c.in-Some.rest.now
    (c.in-Some.ensures.cases.0 ∙ ap (λ k. k ∷ c.in-Some.rest.now) c.in-Var.is))

pub returns-in_ok-from_bytes-in-QVar : goal.returns-in_ok-from_bytes-in-QVar
returns-in_ok-from_bytes-in-QVar c = λ limit.
    rw (c.in_ok-from_bytes-in-QVar.ensures, c.as_bytes-in-QVar.ensures) (qvar_took limit c.args.tokens.now
    c.in-QVar.name c.in-Some.rest.now
    (c.in-Some.ensures.cases.0 ∙ ap (λ k. k ∷ c.in-Some.rest.now) c.in-QVar.is))

pub returns-in_ok-from_bytes-in-Con : goal.returns-in_ok-from_bytes-in-Con
returns-in_ok-from_bytes-in-Con c = λ limit.
    rw (c.in_ok-from_bytes-in-Con.ensures, c.as_bytes-in-Con.ensures) (con_took limit c.args.tokens.now c.in-Con.name
    c.in-Some.rest.now
    (c.in-Some.ensures.cases.0 ∙ ap (λ k. k ∷ c.in-Some.rest.now) c.in-Con.is))

pub returns-in_ok-copied-in-Integer : goal.returns-in_ok-copied-in-Integer
returns-in_ok-copied-in-Integer c = λ limit.
    rw c.in_ok-copied-in-Integer.ensures (literal_took limit c.args.tokens.now (l.Integer c.in-Integer.text)
    c.in-Some.rest.now
    (c.in-Some.ensures.cases.0 ∙ ap (λ k. k ∷ c.in-Some.rest.now) c.in-Integer.is))

pub returns-in_ok-copied-in-Char : goal.returns-in_ok-copied-in-Char
returns-in_ok-copied-in-Char c = λ limit.
    rw c.in_ok-copied-in-Char.ensures (literal_took limit c.args.tokens.now (l.Char c.in-Char.text) c.in-Some.rest.now
    (c.in-Some.ensures.cases.0 ∙ ap (λ k. k ∷ c.in-Some.rest.now) c.in-Char.is))

pub returns-in_ok-copied-in-Text : goal.returns-in_ok-copied-in-Text
returns-in_ok-copied-in-Text c = λ limit.
    rw c.in_ok-copied-in-Text.ensures (literal_took limit c.args.tokens.now (l.Text c.in-Text.text) c.in-Some.rest.now
    (c.in-Some.ensures.cases.0 ∙ ap (λ k. k ∷ c.in-Some.rest.now) c.in-Text.is))
