use Rattle.type_meaning.proofs.MeaningLemmas.{typed_expressions_are_meant, typed_declarations_are_meant}
use Rattle.type_meaning.proofs.MeaningLemmas.{typed_patterns_are_meant}
use Rattle.type_meaning.proofs.laws.typings_are_meant.Goals as goal

pub returns-clause-expressions : goal.returns-clause-expressions
returns-clause-expressions c = typed_expressions_are_meant

pub returns-clause-declarations : goal.returns-clause-declarations
returns-clause-declarations c = typed_declarations_are_meant

pub returns-clause-patterns : goal.returns-clause-patterns
returns-clause-patterns c = typed_patterns_are_meant
