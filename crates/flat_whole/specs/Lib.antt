pub mod PrintableModule
pub mod Whole
