pub mod Inferred
