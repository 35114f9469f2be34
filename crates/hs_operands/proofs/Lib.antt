pub mod NoneLemmas
pub mod PartLemmas
