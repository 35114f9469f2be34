pub mod DeclarationLemmas
pub mod KindedLemmas
