pub mod Telling
pub mod Listing
pub mod Starting
pub mod Again
pub mod Room
