use Rattle.unit_identity.proofs.ExactLemmas.{none-read, other-read, untrue}
use Rattle.unit_identity.proofs.reader.read_checked.Goals as goal

pub returns-in-None : goal.returns-in-None
returns-in-None c = none-read _ _ c.in_ok-found.ensures c.in-None.is

pub returns-else-branch : goal.returns-else-branch
returns-else-branch c =
    other-read _ _ _ c.in_ok-found.ensures c.in-Some.is
    (λ h. untrue _ c.if-branch.false (c.in_ok-is_text_of-in-Some.ensures.1 h))
