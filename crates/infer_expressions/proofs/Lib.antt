pub mod LeadLemmas
pub mod HeadLemmas
pub mod EnterLemmas
pub mod CoverLemmas
pub mod ArmLemmas
pub mod ScopeLemmas
pub mod LoopLemmas
pub mod NewestLemmas
