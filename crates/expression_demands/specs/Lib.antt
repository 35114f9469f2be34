pub mod Expressions
pub mod Leaving
