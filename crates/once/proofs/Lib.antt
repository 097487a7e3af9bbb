pub mod Starting
pub mod Checking
pub mod Room
