pub mod Limits
pub mod Reading
pub mod Once
pub mod Texts
pub mod Project
pub mod Sources
