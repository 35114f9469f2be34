pub mod ReadingLemmas
pub mod TextLemmas
pub mod SetLemmas
pub mod SortedLemmas
pub mod IdentLemmas
pub mod HoleLemmas
mod CommaLemmas
