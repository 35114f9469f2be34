use Rattle.std.proofs.Common.{sym, ap, ap₂, ◌∙◌}
use Rattle.hs_core.specs.Types.{kind_term}
use Rattle.type_terms.specs.Terms.{app}
use Rattle.kind_check.specs.Forms.{code}
use Rattle.kind_check.proofs.ScopeLemmas.{IfOk-then}
use Rattle.kind_check.proofs.ArmLemmas.{kind_arrow}
use Rattle.infer_patterns.proofs.instance.+term_of_kind.Goals as goal

pub returns-in_ok-to-in-Arrow : goal.returns-in_ok-to-in-Arrow
returns-in_ok-to-in-Arrow t c =
    IfOk-then c.app.result
    (λ t' e. e ∙ ap₂ app (c.in_ok-from-in-Arrow.ensures ∙ ap (λ k. code (kind_term k)) c.get.ensures)
    (c.in_ok-to-in-Arrow.ensures ∙ ap (λ k. code (kind_term k)) c.get-in-Arrow.ensures)
    ∙ sym (ap (λ k. code (kind_term k)) c.in-Arrow.is ∙ ap code (kind_arrow c.in-Arrow.from c.in-Arrow.to)))
    c.app.ensures
