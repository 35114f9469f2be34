pub mod Classes
pub mod Words
pub mod Numbers
pub mod Literals
pub mod Lexicon
pub mod Longest
pub mod Parts
pub mod Cover
