pub mod ListLemmas
pub mod TurnLemmas
pub mod NameLemmas
pub mod ElementLemmas
pub mod ExportLemmas
pub mod ImportLemmas
pub mod HeadLemmas
