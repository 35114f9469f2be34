pub mod DeclStartLemmas
pub mod DeclBlockLemmas
pub mod ListingLemmas
pub mod BindingLemmas
