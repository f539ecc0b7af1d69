pub mod Flips
pub mod Flagged
