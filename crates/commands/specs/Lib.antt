pub mod Parts
pub mod Rows
pub mod Names
pub mod Named
pub mod Commands
