pub mod Reading
pub mod Named
