pub mod Combined
pub mod Blocks
