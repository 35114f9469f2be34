pub mod NamingLemmas
pub mod NumberLemmas
pub mod OrderLemmas
