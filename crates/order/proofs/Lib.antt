pub mod Putting
pub mod Walk
pub mod Exactly
