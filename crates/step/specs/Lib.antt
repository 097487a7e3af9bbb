pub mod Items
pub mod Step
