pub mod Answers
pub mod Forms
pub mod Scopes
pub mod Stacks
pub mod Walks
