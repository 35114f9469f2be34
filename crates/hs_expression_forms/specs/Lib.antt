pub mod Trees
pub mod Expressions
pub mod Links
pub mod Fronts
