pub mod Laws
pub mod Rehearsals
pub mod Linearizable
