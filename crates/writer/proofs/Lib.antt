pub mod Laws
pub mod Edges
pub mod Faults
pub mod RoundTrip
