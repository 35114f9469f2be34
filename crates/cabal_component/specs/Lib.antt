pub mod Entries
pub mod Given
pub mod Package
pub mod Reading
pub mod Includes
pub mod Lawful
pub mod Tables
