use Rattle.std.proofs.Common.{sym, ap, ◌∙◌}
use Rattle.hs_core.specs.Types.{kind_term}
use Rattle.kind_check.specs.Forms.{code}
use Rattle.kind_check.proofs.ScopeLemmas.{IfOk-then}
use Rattle.kind_check.proofs.ArmLemmas.{kind_arrow}
use Rattle.infer_patterns.specs.Names.{argument_kind}
use Rattle.infer_patterns.proofs.instance.argument_code.Goals as goal

pub returns-in-Arrow : goal.returns-in-Arrow
returns-in-Arrow c = IfOk-then c.term_of_kind.result
    (λ t e. e ∙ ap (λ k. code (kind_term k)) c.get.ensures
    ∙ sym (ap (λ k. code (argument_kind (kind_term k))) c.in-Arrow.is
    ∙ ap (λ k. code (argument_kind k)) (kind_arrow c.in-Arrow.from c.in-Arrow.to))) c.term_of_kind.ensures
