pub mod Parts
pub mod Numbers
pub mod Sameness
pub mod Nodes
