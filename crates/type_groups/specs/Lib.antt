pub mod Modules
pub mod Uses
