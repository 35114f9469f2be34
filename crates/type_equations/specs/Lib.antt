pub mod Coded
pub mod States
pub mod Demands
pub mod Syntax
