pub mod Expanding
pub mod Lawful
