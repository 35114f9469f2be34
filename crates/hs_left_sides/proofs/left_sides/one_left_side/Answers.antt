use Rattle.hs_left_forms.proofs.UniqueLemmas.{one_left, no_both}
use Rattle.hs_left_sides.proofs.left_sides.one_left_side.Goals as goal

pub returns-clause-one : goal.returns-clause-one
returns-clause-one c = λ tokens one other first second. one_left tokens one other first second

pub returns-clause-apart : goal.returns-clause-apart
returns-clause-apart c = λ function pattern is it same. no_both function pattern is it same
