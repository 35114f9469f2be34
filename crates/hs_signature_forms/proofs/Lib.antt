pub mod SigDeclLemmas
pub mod PartLemmas
pub mod PartChainLemmas
pub mod FlattenLemmas
pub mod SignatureLemmas
