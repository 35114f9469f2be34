pub mod Role
pub mod Stack
pub mod Contexts
pub mod Rules
pub mod Layout
pub mod Progress
pub mod Laws
