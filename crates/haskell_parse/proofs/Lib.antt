pub mod ItemsLemmas
pub mod ParsedLemmas
