pub mod LawfulLemmas
pub mod ReadingLemmas
pub mod SpacingLemmas
pub mod BraceLemmas
