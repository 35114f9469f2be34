use Rattle.flat_printable.proofs.ExampleLemmas.{names_tell, literals_tell, forms_tell, locals_tell}
use Rattle.flat_printable.proofs.laws.conditions_tell.Goals as goal

pub returns-clause-names : goal.returns-clause-names
returns-clause-names c = names_tell

pub returns-clause-literals : goal.returns-clause-literals
returns-clause-literals c = literals_tell

pub returns-clause-forms : goal.returns-clause-forms
returns-clause-forms c = forms_tell

pub returns-clause-locals : goal.returns-clause-locals
returns-clause-locals c = locals_tell
