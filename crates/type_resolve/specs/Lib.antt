pub mod Names
pub mod Given
pub mod Found
pub mod Laws
