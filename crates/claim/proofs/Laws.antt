pub mod PlainQueue
pub mod Tasks
