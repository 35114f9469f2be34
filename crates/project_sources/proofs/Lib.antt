pub mod LimitLemmas
pub mod FileLemmas
pub mod OnceLemmas
pub mod TextLemmas
pub mod ProjectLemmas
pub mod PackageLemmas
pub mod WholeLemmas
pub mod SourceLemmas
