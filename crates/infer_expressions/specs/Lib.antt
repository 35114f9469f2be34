pub mod Covered
pub mod Inferred
pub mod Entered
