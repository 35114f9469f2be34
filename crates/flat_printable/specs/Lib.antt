pub mod Names
pub mod Literals
pub mod Laws
pub mod Examples
