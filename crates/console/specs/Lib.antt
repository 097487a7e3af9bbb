pub mod Turns
pub mod Room
