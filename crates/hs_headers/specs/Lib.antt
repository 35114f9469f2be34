pub mod Lists
pub mod Names
pub mod Elements
pub mod Headers
pub mod Heads
