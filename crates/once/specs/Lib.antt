pub mod Runs
pub mod Checked
pub mod Room
