pub mod SourceLemmas
pub mod ModuleLemmas
