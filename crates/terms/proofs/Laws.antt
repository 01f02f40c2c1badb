pub mod Kinds
pub mod Largest
pub mod Lists
pub mod Runs
pub mod Sizes
pub mod Sums
pub mod Tests
