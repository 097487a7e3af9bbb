pub mod Past
pub mod Answer
