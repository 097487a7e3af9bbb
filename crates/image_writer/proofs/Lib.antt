pub mod Stores
pub mod Keeps
pub mod Reaches
pub mod Rewrites
