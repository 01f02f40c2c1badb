pub mod Laws
pub mod Rehearsals
pub mod Handed
pub mod Linearizable
