pub mod Filled
pub mod Listed
pub mod Promised
