mod SamenessLemmas
pub mod NodeLemmas
mod TableLemmas
mod WrittenLemmas
pub mod NumberingLemmas
