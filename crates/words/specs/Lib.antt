pub mod Ascii
pub mod Number
pub mod Hex
pub mod Words
pub mod Kinds
pub mod Pairs
pub mod Text
pub mod Room
