pub mod Blocks
pub mod Given
pub mod Shares
pub mod Sheet
