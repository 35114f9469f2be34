pub mod WrittenTypes
pub mod Lists
