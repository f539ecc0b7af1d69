pub mod Steps
pub mod Exactly
