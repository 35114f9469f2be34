pub mod Words
pub mod Report
pub mod Answer
pub mod Given
pub mod Counts
