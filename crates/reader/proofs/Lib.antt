pub mod Loaded
pub mod Read
