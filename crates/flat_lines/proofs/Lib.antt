pub mod CutLemmas
pub mod OneLineLemmas
pub mod ApartLemmas
pub mod KeepLemmas
