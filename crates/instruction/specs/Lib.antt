pub mod Variables
pub mod Decode
pub mod Compute
pub mod Code
pub mod Storage
pub mod Short
