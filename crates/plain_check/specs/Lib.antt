pub mod Typing
pub mod Arities
pub mod Asked
pub mod Given
