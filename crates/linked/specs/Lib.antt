pub mod Functions
pub mod Linked
