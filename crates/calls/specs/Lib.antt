pub mod Fields
pub mod Room
pub mod Variables
pub mod Code
pub mod Begin
