use Rattle.mixin_link.proofs.PrincipalLemmas.{causes_leave_none}
use Rattle.mixin_link.proofs.laws.causes_leave_none.Goals as goal

pub returns : goal.returns
returns c = causes_leave_none
