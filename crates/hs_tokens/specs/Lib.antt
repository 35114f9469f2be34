pub mod Words
pub mod Terminals
