pub mod Tables
pub mod ImportLists
pub mod Filters
pub mod Scopes
pub mod Exports
pub mod Laws
