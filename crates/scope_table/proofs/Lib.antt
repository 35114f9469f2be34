pub mod SameLemmas
pub mod MeantLemmas
