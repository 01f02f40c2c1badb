pub mod Laws
pub mod Agreement
pub mod Rows
