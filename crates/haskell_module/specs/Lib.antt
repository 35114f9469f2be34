pub mod Sources
pub mod Modules
