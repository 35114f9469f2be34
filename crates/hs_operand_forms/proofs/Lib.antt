pub mod ListLemmas
pub mod LedLemmas
pub mod WordLemmas
pub mod OpeningLemmas
pub mod BracketLemmas
