pub mod Renumbering
pub mod ExactlyOnce
pub mod Hidden
