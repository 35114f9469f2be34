pub mod Faults
pub mod Tests
pub mod Expanded
pub mod Kinds
pub mod Laws
