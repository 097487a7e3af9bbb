pub mod Held
pub mod Heard
