pub mod Asked
pub mod Modules
pub mod Laws
pub mod Examples
