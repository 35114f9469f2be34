pub mod ExportLemmas
pub mod TopLemmas
pub mod WholeLemmas
