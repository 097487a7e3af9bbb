pub mod Again
pub mod Changing
pub mod Parted
pub mod Showing
pub mod Room
