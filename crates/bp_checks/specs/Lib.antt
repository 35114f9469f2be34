pub mod Check
pub mod Walk
pub mod BuildOrder
pub mod Refused
pub mod Stop
pub mod Steps
