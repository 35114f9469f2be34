use Rattle.hs_core_laws.proofs.ModuleExamples.{module_is_well_typed, clauses_are_one_binding, stub_is_well_typed}
use Rattle.hs_core_laws.proofs.programs.modules.Goals as goal

pub returns-clause-well_typed : goal.returns-clause-well_typed
returns-clause-well_typed c = module_is_well_typed

pub returns-clause-bindings : goal.returns-clause-bindings
returns-clause-bindings c = clauses_are_one_binding

pub returns-clause-stub : goal.returns-clause-stub
returns-clause-stub c = stub_is_well_typed
