pub mod Changes
pub mod State
