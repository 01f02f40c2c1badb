pub mod Comparison
pub mod Runs
pub mod Alike
