pub mod Exactly
pub mod Putting
