use Rattle.hs_core_laws.proofs.StabilityLemmas.{expressions_stay_typed, declarations_stay_typed, bindings_stay_typed}
use Rattle.hs_core_laws.proofs.laws.typing_is_stable.Goals as goal

pub returns-clause-expressions : goal.returns-clause-expressions
returns-clause-expressions c = expressions_stay_typed

pub returns-clause-declarations : goal.returns-clause-declarations
returns-clause-declarations c = declarations_stay_typed

pub returns-clause-bindings : goal.returns-clause-bindings
returns-clause-bindings c = bindings_stay_typed
