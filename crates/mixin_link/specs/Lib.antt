pub mod Linkings
pub mod Equations
pub mod Laws
pub mod Summaries
pub mod Opening
pub mod Answers
pub mod Named
pub mod Tables
