pub mod Taken
pub mod Leads
pub mod Items
pub mod Accepted
pub mod Constants
pub mod Used
