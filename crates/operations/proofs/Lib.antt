pub mod Divided
pub mod Widths
pub mod Arithmetic
