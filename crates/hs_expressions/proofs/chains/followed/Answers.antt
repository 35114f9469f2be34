-- By what stands behind the chain.
use Rattle.std.proofs.Common.{subst}
use Rattle.std.specs.Prelude.{Ok}
use Rattle.hs_expressions.specs.LinkAnswers.{LinkAnswers}
use Rattle.hs_expressions.proofs.chains.followed.Goals as goal

pub returns-in-Alone : goal.returns-in-Alone
returns-in-Alone c = λ limit lone ts holds shut answers.
    c.sectioned.ensures limit lone ts holds shut
    (subst (λ l. LinkAnswers limit lone c.args.chain.deep c.args.chain.ops c.args.chain.rest.now (Ok l)) c.in-Alone.is
    answers)

pub returns-in_ok-extended-in-Operand : goal.returns-in_ok-extended-in-Operand
returns-in_ok-extended-in-Operand c = λ limit lone ts holds shut answers.
    c.in_ok-extended-in-Operand.ensures limit lone ts holds shut
    (subst (λ l. LinkAnswers limit lone c.args.chain.deep c.args.chain.ops c.args.chain.rest.now (Ok l)) c.in-Operand.is
    answers)
