pub mod Logic
pub mod Walk
pub mod Tally
