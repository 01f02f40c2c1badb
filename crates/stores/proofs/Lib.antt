pub mod Laws
pub mod Edges
