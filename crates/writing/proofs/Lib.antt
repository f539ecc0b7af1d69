pub mod Writing
pub mod Exactly
