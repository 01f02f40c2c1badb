pub mod Number
pub mod Overwritten
pub mod Words
