pub mod MemberLemmas
pub mod SourceLemmas
pub mod CycleLemmas
pub mod ExactLemmas
