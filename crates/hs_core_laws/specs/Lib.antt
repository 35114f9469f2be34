pub mod Examples
pub mod Stability
pub mod Programs
