use Rattle.plain_check.proofs.ExactLemmas.{IsExact-source_read, IsExact-typed, IsExact-text_of}
use Rattle.plain_check.proofs.law.plain_modules_have_one_outcome.Goals as goal

pub returns-clause-read : goal.returns-clause-read
returns-clause-read c nesting component at bytes = IsExact-source_read nesting component at bytes

pub returns-clause-typed : goal.returns-clause-typed
returns-clause-typed c component m = IsExact-typed component m

pub returns-clause-text : goal.returns-clause-text
returns-clause-text c m = IsExact-text_of m
