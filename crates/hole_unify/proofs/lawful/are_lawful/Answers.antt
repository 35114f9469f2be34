use Rattle.hole_unify.proofs.LawfulnessLemmas.{lawful-found}
use Rattle.hole_unify.proofs.lawful.are_lawful.Goals as goal

pub returns : goal.returns
returns c = lawful-found _ _ _ _ _ c.as_slice.ensures c.in_ok-units.ensures c.as_slice-2.ensures.value
    c.do_all_agree-lawful.ensures
