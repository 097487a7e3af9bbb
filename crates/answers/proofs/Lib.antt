pub mod Again
pub mod Parts
pub mod Written
pub mod Room
