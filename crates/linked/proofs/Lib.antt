pub mod Words
pub mod Functions
pub mod Sequence
pub mod Granted
pub mod First
