pub mod Codes
pub mod Lists
pub mod Texts
pub mod Entities
pub mod Holes
pub mod Names
pub mod Specials
