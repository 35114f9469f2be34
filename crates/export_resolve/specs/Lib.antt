pub mod Named
pub mod Seen
pub mod Found
pub mod Clashes
pub mod Firsts
pub mod Whole
pub mod Sorting
