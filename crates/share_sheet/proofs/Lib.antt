pub mod Laws
pub mod Given
pub mod FirstBlock
pub mod Faults
pub mod Sheets
