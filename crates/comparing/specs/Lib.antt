pub mod Orders
pub mod Compare
