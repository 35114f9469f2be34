pub mod Types
pub mod Patterns
pub mod Kinds
pub mod Hits
