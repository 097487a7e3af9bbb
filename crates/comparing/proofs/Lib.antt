pub mod Comparing
pub mod Reals
