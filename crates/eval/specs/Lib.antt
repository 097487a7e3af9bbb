pub mod Loaded
pub mod Host
pub mod Entry
pub mod Start
pub mod After
