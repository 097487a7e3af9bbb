pub mod Keeping
pub mod Parts
