pub mod ApartLemmas
pub mod NameLemmas
pub mod GivenLemmas
pub mod MixedLemmas
pub mod WholeLemmas
pub mod TestedLemmas
