use Rattle.type_unify.proofs.StackingLemmas.{OnOk-then}
use Rattle.hs_core.specs.Globals.{special_types, literal_types, special_constructors}
use Rattle.std.proofs.Common.{◌++◌}
use Rattle.kind_env.specs.Listings.{negate_names}
use Rattle.kind_env.proofs.ListLemmas.{adds_both}
use Rattle.kind_env.proofs.special.add_known.Goals as goal

pub returns : goal.returns
returns c =
    OnOk-then c.add_negate.result
    (λ e. adds_both (special_types ++ literal_types ++ special_constructors) negate_names _ _ _
    (adds_both (special_types ++ literal_types) special_constructors _ _ _
    (adds_both special_types literal_types _ _ _ c.in_ok-add_special_types.ensures c.in_ok-add_literal_types.ensures)
    c.in_ok-add_special_values.ensures) e) c.add_negate.ensures
