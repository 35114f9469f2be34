pub mod DraftLemmas
pub mod UseLemmas
