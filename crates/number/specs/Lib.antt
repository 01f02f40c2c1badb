-- What the promises about numbers in bytes say.
pub mod Number
