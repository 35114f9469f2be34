pub mod Typings
pub mod Crossing
pub mod Datatypes
