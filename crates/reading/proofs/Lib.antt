pub mod Handed
pub mod Exactly
