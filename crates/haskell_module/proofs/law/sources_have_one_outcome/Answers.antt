use Rattle.haskell_module.proofs.SourceLemmas.{IsExact-tokens_read}
use Rattle.haskell_module.proofs.law.sources_have_one_outcome.Goals as goal

pub returns : goal.returns
returns c bytes = IsExact-tokens_read bytes
