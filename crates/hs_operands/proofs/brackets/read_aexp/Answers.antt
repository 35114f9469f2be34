-- By the bracket that stands first.
use Rattle.std.proofs.Common.{sym, subst}
use Rattle.hs_readers.specs.Answers.{Answers}
use Rattle.hs_expression_forms.specs.Trees.{sort_of}
use Rattle.hs_expression_forms.specs.Expressions.{aexps}
use Rattle.hs_operands.proofs.PartLemmas.{no_bracket}
use Rattle.hs_operands.proofs.brackets.read_aexp.Goals as goal

pub returns-in-Some : goal.returns-in-Some
returns-in-Some g c =
    subst (λ ts. Answers (sort_of aexps c.args.limit) ts c.read_paren.result) (sym c.in-Some.ensures)
    c.read_paren.ensures

pub returns-in-Some-after_left_bracket : goal.returns-in-Some-after_left_bracket
returns-in-Some-after_left_bracket g c =
    subst (λ ts. Answers (sort_of aexps c.args.limit) ts c.read_bracket.result)
    (sym c.in-Some-after_left_bracket.ensures) c.read_bracket.ensures

pub read_word-requires : goal.read_word-requires
read_word-requires g c =
    no_bracket c.args.tokens.now c.in_default.ensures c.in_default-after_left_bracket.ensures

pub returns : goal.returns
returns g c = c.read_word.ensures c.args.limit
