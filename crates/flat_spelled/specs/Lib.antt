pub mod Printable
pub mod Spelled
