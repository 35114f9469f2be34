pub mod StartLemmas
pub mod PieceLemmas
pub mod LiteralLemmas
pub mod LexemeLemmas
