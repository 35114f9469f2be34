pub mod Folder
pub mod Project
pub mod Table
pub mod Stanzas
pub mod Heads
pub mod Values
