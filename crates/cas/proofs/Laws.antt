pub mod InRange
pub mod Hidden
pub mod Worker
pub mod Obey
pub mod Moves
pub mod Performed
pub mod Loads
