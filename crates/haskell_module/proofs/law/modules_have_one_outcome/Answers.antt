use Rattle.haskell_module.proofs.ModuleLemmas.{IsExact-module_read, IsExact-signature_read, IsWithin-module_read}
use Rattle.haskell_module.proofs.law.modules_have_one_outcome.Goals as goal

pub returns-clause-modules : goal.returns-clause-modules
returns-clause-modules c nesting name bytes = IsExact-module_read nesting name bytes

pub returns-clause-signatures : goal.returns-clause-signatures
returns-clause-signatures c nesting name bytes = IsExact-signature_read nesting name bytes

pub returns-clause-unlimited : goal.returns-clause-unlimited
returns-clause-unlimited c nesting name bytes = IsWithin-module_read nesting name bytes
