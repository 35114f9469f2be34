-- Entries of `mixins` over the summaries of their dependencies.
use Rattle.std.specs.Prelude.{Option, Some, None, List, [], ◌∷◌}
use Rattle.bp_base.specs.declared.linking.Provision.{Provision}
use Rattle.bp_base.specs.Texts.{Text}
use Rattle.cabal_component.specs.declared.component.Mixin.{Mixin}
use Rattle.mixin_names.specs.Names.{provided, missing_provision, missing_requirement, linkage_name, all_linked}
use Rattle.mixin_link.specs.declared.error.LinkError.{LinkError}
use Rattle.mixin_link.specs.declared.error.LinkError.TheVariants.{NoProvision, NoRequirement}
use Rattle.mixin_link.specs.declared.open.OpenInclude.{OpenInclude}
use Rattle.mixin_link.specs.declared.summary.Summary.{Summary}
use Rattle.mixin_link.specs.Summaries.{found_summary}

-- the missing provision of an entry comes before its missing requirement
abbrev pub refusal_of : Text → Option Text → Option Text → Option LinkError
refusal_of dep (Some name) requirement = Some (NoProvision dep name)
refusal_of dep None (Some name) = Some (NoRequirement dep name)
refusal_of dep None None = None

-- why an entry doesn't fit a dependency that provides this and has these holes
abbrev pub entry_refusal : Mixin → List Provision → List Text → Option LinkError
entry_refusal m exposed holes = refusal_of m.dep (missing_provision m.provides exposed)
    (missing_requirement m.needs holes)

-- what an entry brings of it
abbrev pub entry_open : Mixin → List Provision → List Text → OpenInclude
entry_open m exposed holes = record {
  component = m.dep;
  provides = provided m.provides exposed;
  needs = all_linked (linkage_name m.needs) holes;
}

-- what the summary shows; a dependency without one has nothing
abbrev pub exposed_by : Option Summary → List Provision
exposed_by None = []
exposed_by (Some s) = s.provisions

abbrev pub holes_by : Option Summary → List Text
holes_by None = []
holes_by (Some s) = s.holes

abbrev pub refusal_in : List Summary → Mixin → Option LinkError
refusal_in ss m = entry_refusal m (exposed_by (found_summary m.dep ss)) (holes_by (found_summary m.dep ss))

abbrev pub open_in : List Summary → Mixin → OpenInclude
open_in ss m = entry_open m (exposed_by (found_summary m.dep ss)) (holes_by (found_summary m.dep ss))

abbrev pub sooner : Option LinkError → Option LinkError → Option LinkError
sooner (Some e) later = Some e
sooner None later = later

-- the first refusal, include by include
abbrev pub first_refusal : List Summary → List Mixin → Option LinkError
first_refusal ss [] = None
first_refusal ss (m ∷ ms) = sooner (refusal_in ss m) (first_refusal ss ms)
