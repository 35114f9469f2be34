-- By the front.
use Rattle.std.proofs.Common.{◌∙◌, ap}
use Rattle.hs_operand_forms.proofs.BracketLemmas.{bracketed_exp, bracketed_section}
use Rattle.hs_operands.proofs.brackets.bracketed.Goals as goal

pub returns-in_ok-first-in-Exp : goal.returns-in_ok-first-in-Exp
returns-in_ok-first-in-Exp c = λ inside is.
    rw c.in_ok-first-in-Exp.ensures
    (bracketed_exp inside c.in-Exp.exp c.args.bunch.1 (is ∙ ap (λ h. (h, c.args.bunch.1)) c.in-Exp.is))

pub returns-in_ok-chain-in-Section : goal.returns-in_ok-chain-in-Section
returns-in_ok-chain-in-Section c = λ inside is.
    rw c.in_ok-chain-in-Section.ensures
    (bracketed_section inside c.in-Section.chain c.in-Section.op c.args.bunch.1
    (is ∙ ap (λ h. (h, c.args.bunch.1)) c.in-Section.is))
