pub mod GuardListLemmas
pub mod EndsLemmas
pub mod PartsLemmas
