pub mod Bounds
pub mod Told
pub mod Listed
pub mod Starts
