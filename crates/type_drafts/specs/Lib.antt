pub mod Drafts
pub mod Uses
