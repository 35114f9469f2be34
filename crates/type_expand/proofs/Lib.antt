pub mod TypeLemmas
pub mod ExpandLemmas
pub mod SizeLemmas
pub mod LawfulLemmas
