pub mod Sources
pub mod Cycles
