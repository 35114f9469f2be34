pub mod RunLemmas
pub mod NumberLemmas
pub mod LevelLemmas
pub mod CapitalLemmas
pub mod PieceLemmas
pub mod CoverLemmas
pub mod UniquenessLemmas
