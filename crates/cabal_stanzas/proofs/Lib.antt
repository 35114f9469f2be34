pub mod BlockedLemmas
pub mod HeadLemmas
