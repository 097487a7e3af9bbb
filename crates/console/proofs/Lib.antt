pub mod Turning
pub mod Room
