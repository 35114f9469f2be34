pub mod TopDeclLemmas
pub mod PartLemmas
pub mod PartChainLemmas
pub mod FlattenLemmas
pub mod ModuleLemmas
