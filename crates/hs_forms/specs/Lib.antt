pub mod Reading
pub mod Limits
pub mod Answers
pub mod Forms
pub mod Productions
pub mod Whole
