pub mod Characters
pub mod Lines
pub mod Fields
pub mod Least
pub mod Tokens
pub mod Names
pub mod Lead
pub mod Seen
