pub mod Calls
pub mod Promised
pub mod List
pub mod Numbers
pub mod First
